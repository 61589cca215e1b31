-- The powers of ten on both sides of a number give its digits.
use Rattle.text.proofs.DigitLaws.{width_between}
use Rattle.text.proofs.digits.width.Goals as goal

pub returns : goal.returns
returns c =
    let low = rw c.max.ensures at c.ilog10.ensures.power_le in
    let high = rw c.max.ensures at c.ilog10.ensures.next_power_gt in
    width_between c.args.number c.ilog10.result low high
