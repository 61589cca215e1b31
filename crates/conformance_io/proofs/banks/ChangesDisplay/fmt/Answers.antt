-- One change more.
use Rattle.std.proofs.Common.{rules}
use Rattle.std.proofs.lemmas.Grind.{put_two}
use Rattle.conformance_io.proofs.ChangesLaws.{change_next}
use Rattle.conformance_io.proofs.banks.ChangesDisplay.fmt.Goals as goal

pub loop-change-preserved : goal.loop-change-preserved
loop-change-preserved g c plain =
    put_two _ _ _ _ _ _ _ (c.loop-change.invariant plain) (c.write-in-loop-change.ensures.writes (search rules) (search rules))
    (change_next _ _ _ c.loop-change-test.true)
