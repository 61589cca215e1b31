-- The last digit that is left is written, and the others are then what is left.
use Rattle.std.proofs.Common.{◌∙◌}
use lib.ListN.{length-set}
use Rattle.text.proofs.DigitLaws.{put_digit}
use Rattle.text.proofs.digits.put_digits.Goals as goal

pub loop-place-preserved : goal.loop-place-preserved
loop-place-preserved c =
    let (same, written) = c.loop-place.invariant in
    (simp length-set same, rw c.digit.ensures (put_digit _ _ _ _ _ c.loop-place-test.true ∙ written))
