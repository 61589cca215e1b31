-- Declined, nothing is written; accepted, there is room for both banks, the second after the first.
use Rattle.std.proofs.Common.{◌≡◌, ◌*◌, sym, ap, arith, length}
use Rattle.words.specs.Decline.{accepted_of}
use Rattle.geometry.specs.Banks.{pages_of}
use Rattle.sheet.specs.Sheet.{sheet_bytes_of, page_sheet_of}
use Rattle.sheet.proofs.AcceptedLaws.{holds}
use Rattle.sheet.proofs.PutLaws.{put_sheet}
use Rattle.sheet.proofs.page_sheet.Goals as goal

pub invariant_of-first : goal.invariant_of-first
invariant_of-first c =
    let ok = holds _ _ _ _ _ (ap accepted_of (sym c.in_ok-layout.ensures.verdict)) in record { words_len = rw c.in_ok-layout.ensures.layout ok.first }

pub invariant_of-other : goal.invariant_of-other
invariant_of-other c =
    let ok = holds _ _ _ _ _ (ap accepted_of (sym c.in_ok-layout.ensures.verdict)) in record { words_len = rw c.in_ok-layout.ensures.layout ok.other }

pub put_bank-requires : goal.put_bank-requires
put_bank-requires c =
    omega (arith, (holds _ _ _ _ _ (ap accepted_of (sym c.in_ok-layout.ensures.verdict))).room, ap pages_of c.in_ok-layout.ensures.layout)

pub put_bank-requires-2 : goal.put_bank-requires-2
put_bank-requires-2 c =
    omega (arith, (holds _ _ _ _ _ (ap accepted_of (sym c.in_ok-layout.ensures.verdict))).room, c.pages.ensures, ap pages_of c.in_ok-layout.ensures.layout)

-- bank 1's lines, then bank 2's: the sheet
pub returns : goal.returns
unfolding page_sheet_of
returns c =
    let a = c.args in
    let is = c.in_ok-layout.ensures.verdict in
    let ok = holds a.g a.d (length a.one.now) (length a.two.now) (length a.out.now) (ap accepted_of (sym is)) in
    let bytes : 2 * (17 * pages_of a.g) ≡ sheet_bytes_of a.g = omega arith in
    rw (
      ← is,
      c.put_bank-2.ensures,
      c.put_bank.ensures,
      c.pages.ensures,
      c.in_ok-layout.ensures.layout,
      put_sheet a.g ok.range a.d a.one.now a.two.now a.out.now ok.room,
      bytes,
    )
