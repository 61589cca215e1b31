-- The bytes so far are those without the record, the others as before.
use Rattle.std.proofs.Common.{◌≡◌, ◌++◌, take, drop}
use Rattle.script_smallest.specs.Smallest.{without_of}
use Rattle.script_smallest.proofs.remove_record.Given as goal

abbrev pub invariant-loop-k : goal.invariant-loop-k
invariant-loop-k l = l.script ≡ take l.k (without_of l.initial.script l.removed) ++ drop l.k l.initial.script
