-- A quad counts for 1 at most, so that the count is no more than the quads passed.
use Rattle.std.proofs.Common.{not, arith}
use Rattle.sheet_page.proofs.StateLaws.{test_one, used_at_most}
use Rattle.sheet_page.proofs.used_quads.Goals as goal

pub overflow_add-quads : goal.overflow_add-quads
overflow_add-quads c =
    let few = used_at_most c.args.bank.now c.args.first c.loop-i.i in
    omega (arith, c.from-quads.ensures, test_one (not c.is_blank.result), c.loop-i.invariant, few)
