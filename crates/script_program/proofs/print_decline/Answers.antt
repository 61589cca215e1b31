-- One decimal number of two digits, and as much of it and of its line feed as has room.
use Rattle.std.proofs.Common.{arith}
use Rattle.text.specs.Digits.{width_of}
use Rattle.text.proofs.BufferLaws.{sets_front}
use Rattle.script_program.specs.Program.{decline_line}
use Rattle.script_program.proofs.print_decline.Goals as goal

pub put_decimal-count-requires : goal.put_decimal-count-requires
unfolding width_of
put_decimal-count-requires c = rw c.number-number.ensures (omega arith)

pub returns : goal.returns
unfolding width_of
returns c =
    let (written, next) = c.put_decimal-count.ensures in
    rw (c.put_front.ensures, written, next, c.number-number.ensures, sets_front c.args.out.now decline_line)
