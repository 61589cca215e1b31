-- The invariant: what differs among the words so far.
use Rattle.std.proofs.Common.{◌≡◌}
use Rattle.reach.specs.Reach.{difference_of}
use Rattle.reach.proofs.compare_images.Given as goal

abbrev pub invariant-loop-i : goal.invariant-loop-i
invariant-loop-i l = l.d ≡ difference_of l.image l.other l.i
