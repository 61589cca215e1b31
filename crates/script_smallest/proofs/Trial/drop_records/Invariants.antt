-- What is left is in front, zeros after it, and none of its records before i can go. The measure is the trials that are left at most.
use Rattle.std.proofs.Common.{◌-◌, ◌≤◌}
use Rattle.device.specs.State.{lent}
use Rattle.script_smallest.proofs.DroppingLaws.{trials_of, Dropping}
use Rattle.script_smallest.proofs.Trial.drop_records.Given as goal

abbrev pub invariant-loop-i : goal.invariant-loop-i
invariant-loop-i l = record {
  within : l.i ≤ l.n;
  dropping : Dropping l.self.g l.self.sram.now (lent l.self.device l.self.one l.self.two) l.self.number l.initial.script l.script l.n l.i;
}

abbrev pub decreases-loop-i : goal.decreases-loop-i
decreases-loop-i l = trials_of l.n - l.i
