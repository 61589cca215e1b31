-- No more is read than there is room for. The measure is the room that is left.
use Rattle.std.proofs.Common.{◌-◌, ◌≤◌, length}
use Rattle.script_program.proofs.input.read_full.Given as goal

abbrev pub invariant-loop-count : goal.invariant-loop-count
invariant-loop-count l = l.count ≤ length l.input

abbrev pub decreases-loop-count : goal.decreases-loop-count
decreases-loop-count l = length l.initial.input - l.count
