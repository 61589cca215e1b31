-- The block's part of each lane, by turns, is the block's words, and what is before them in the target is not lent.
use Rattle.std.proofs.Common.{arith}
use Rattle.lanes_interleave.proofs.BlockLaws.{block_back}
use Rattle.lanes_interleave.proofs.blocks.words_back.Goals as goal

pub returns : goal.returns
returns c =
    let a = c.args in
    block_back a.source.now a.target.now c.interleave_four.new.target _ a.n a.from a.to (omega arith) (omega arith) (omega arith)
    c.interleave_four.ensures
