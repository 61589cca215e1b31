-- A page of the kind fits its columns, and its line comes after those so far.
use Rattle.std.proofs.Common.{◌<◌, arith}
use Rattle.std.proofs.Math.Numerals.{add-one}
use Rattle.sheet_page.specs.State.{kind_pages_of}
use Rattle.sheet.proofs.WidthLaws.{state_fits, kind_few}
use Rattle.sheet.proofs.PutLaws.{put_next}
use Rattle.sheet.proofs.put_kind.Goals as goal

pub put_line-requires-clause-page_bound : goal.put_line-requires-clause-page_bound
put_line-requires-clause-page_bound c =
    let b = c.args.bank in
    let few = kind_few b.layout.geometry b.layout.in_range c.args.program in
    rw c.page_state-state.ensures
    (state_fits _ _ _ _ _ _ b.layout.in_range.q_high (omega (arith, c.loop-page-test.true, c.kind_pages-page-end.ensures, few)))

pub loop-page-preserved : goal.loop-page-preserved
loop-page-preserved c =
    let a = c.args in
    let b = a.bank in
    let below : c.loop-page.page < kind_pages_of b.layout.geometry a.program = omega (arith, c.loop-page-test.true, c.kind_pages-page-end.ensures) in
    let (same, written) = c.loop-page.invariant in (
      omega (arith, same),
      rw (add-one c.loop-page.page, c.put_line.ensures, c.page_state-state.ensures, written)
          (put_next b.layout.geometry b.layout.in_range b.d b.words.now b.second a.program a.out.now a.at c.loop-page.page below),
    )
