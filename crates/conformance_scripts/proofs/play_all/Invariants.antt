-- The buffer keeps its length. The measure is what is left of the input.
use Rattle.std.proofs.Common.{◌≡◌, length}
use Rattle.conformance_scripts.proofs.play_all.Given as goal

abbrev pub invariant-loop-head : goal.invariant-loop-head
invariant-loop-head g l = length l.out ≡ length l.fn.out

abbrev pub decreases-loop-head : goal.decreases-loop-head
decreases-loop-head g l = length l.rest
