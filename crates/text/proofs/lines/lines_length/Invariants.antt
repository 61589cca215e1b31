-- The invariant: the bytes of the lines so far.
use Rattle.std.proofs.Common.{◌≡◌}
use Rattle.text.specs.Buffer.{saturated_of}
use Rattle.text.specs.Lines.{lines_length_of}
use Rattle.text.proofs.lines.lines_length.Given as goal

abbrev pub invariant-loop-i : goal.invariant-loop-i
invariant-loop-i l = l.bytes ≡ saturated_of (lines_length_of l.i)
