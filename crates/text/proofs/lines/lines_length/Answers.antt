-- A line's number has at most 20 digits.
use Rattle.std.proofs.Common.{arith}
use Rattle.text.proofs.DigitLaws.{width_twenty}
use Rattle.text.proofs.lines.lines_length.Goals as goal

pub overflow_add-width : goal.overflow_add-width
overflow_add-width c = omega (arith, c.width.ensures, width_twenty c.loop-i.i (omega arith))
