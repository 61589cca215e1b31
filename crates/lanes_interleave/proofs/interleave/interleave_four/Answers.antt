-- First and third by turns, second and fourth by turns, and then these two by turns, are all four by turns.
use Rattle.std.proofs.Common.{arith}
use lib.ListN.{length}
use Rattle.lanes_interleave.proofs.InterleaveLaws.{four_of_two}
use Rattle.lanes_interleave.proofs.interleave.interleave_four.Goals as goal

pub returns : goal.returns
returns c =
    let a = c.args in
    let even = c.interleave_two.new.target in
    let odd = c.interleave_two-2.new.target in
    let target = c.interleave_two-3.new.target in
    four_of_two a.first.now a.second.now a.third.now a.fourth.now even odd target (length a.first.now)
    (omega arith)
    c.interleave_two.ensures
    (λ k j hk hj. c.interleave_two-2.ensures k j hk (omega arith))
    c.interleave_two-3.ensures
