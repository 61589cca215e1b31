-- Each round moves the words of a block. The invariant: the words of the blocks before it are moved.
use Rattle.std.proofs.Common.{◌≡◌, ◌*◌, min, length}
use Rattle.lanes.proofs.MoveLaws.{MovedBack}
use Rattle.lanes.proofs.lanes_back.Given as goal

abbrev pub invariant-loop-block : goal.invariant-loop-block
invariant-loop-block l = record {
  whole : length l.source ≡ 4 * l.n;
  same : length l.fn.target ≡ 4 * l.n;
  kept : length l.target ≡ 4 * l.n;
  moved : MovedBack l.n l.source l.target (min (128 * l.block) l.n);
}
