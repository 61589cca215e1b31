-- No more is held than there is room for.
use Rattle.std.proofs.Common.{◌≤◌, length}
use Rattle.conformance.proofs.input.answer_all.Given as goal

abbrev pub invariant-loop : goal.invariant-loop
invariant-loop l = l.held ≤ length l.buffer
