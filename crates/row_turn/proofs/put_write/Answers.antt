-- Nothing, or the quad in its bank.
use Rattle.std.proofs.Common.{ap}
use Rattle.std.specs.Option.{is_some}
use Rattle.flash.specs.Write.{write_from}
use Rattle.row_turn.proofs.PartLaws.{cancel, none_written, first_written, second_written}
use Rattle.row_turn.proofs.put_write.Goals as goal

pub returns-in_default : goal.returns-in_default
returns-in_default c =
    let a = c.args in
    none_written a.store.now a.one a.two a.words c.requires.words_in_bounds c.requires.words_in_bounds_2 (write_from a.w) (ap is_some c.in_default.is)

pub returns-then-w : goal.returns-then-w
returns-then-w c =
    let a = c.args in
    second_written a.store.now a.one a.two a.words c.requires.words_in_bounds c.requires.words_in_bounds_2 (write_from a.w)
    (ap is_some c.in-Some.is) c.if-w.true _ _ (cancel a.two a.words) (rw c.in-Some.is c.put_quad.ensures)

pub returns-else-w : goal.returns-else-w
returns-else-w c =
    let a = c.args in
    first_written a.store.now a.one a.two a.words c.requires.words_in_bounds c.requires.words_in_bounds_2 c.requires.fact (write_from a.w)
    (ap is_some c.in-Some.is) c.if-w.false _ _ (cancel a.one a.words) (rw c.in-Some.is c.put_quad-else-w.ensures)
