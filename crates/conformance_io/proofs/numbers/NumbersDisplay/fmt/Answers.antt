-- One number more, and at the end all of them.
use Rattle.std.proofs.Common.{rules}
use Rattle.std.proofs.lemmas.Grind.{put_two}
use Rattle.conformance_io.proofs.TextLaws.{following_next}
use Rattle.conformance_io.proofs.numbers.NumbersDisplay.fmt.Goals as goal

pub loop-number-preserved : goal.loop-number-preserved
loop-number-preserved g c plain =
    put_two _ _ _ _ _ _ _ (c.loop-number.invariant plain) (c.write-in-loop-number.ensures.writes (search rules) (search rules))
    (following_next _ _ c.loop-number-test.true)
