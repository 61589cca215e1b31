-- Each round moves the four bytes of a word to their lanes. The invariant: the words before word i are moved.
use Rattle.std.proofs.Common.{◌≡◌, ◌*◌, length}
use Rattle.lanes.proofs.MoveLaws.{MovedOut}
use Rattle.lanes.proofs.lanes_out.Given as goal

abbrev pub invariant-loop-i : goal.invariant-loop-i
invariant-loop-i l = record {
  whole : length l.source ≡ 4 * l.n;
  same : length l.fn.target ≡ 4 * l.n;
  kept : length l.target ≡ 4 * l.n;
  moved : MovedOut l.n l.source l.target l.i;
}
