-- The list keeps its length, which is a number of the line.
use Rattle.std.proofs.Common.{◌≤◌, ◌<◌, length}
use Rattle.conformance_lists.proofs.line.Line.list.Given as goal

abbrev pub invariant-loop : goal.invariant-loop
invariant-loop l = (length l.words ≤ l.most) × (length l.words < 4294967296)
