-- The elements so far are the other slice's.
use Rattle.std.proofs.Common.{◌≡◌, take}
use Rattle.script_smallest.proofs.set_all.Given as goal

abbrev pub invariant-loop-i : goal.invariant-loop-i
invariant-loop-i g l = take l.i l.to ≡ take l.i l.from
