-- Each round writes one element of each list. The invariant: the elements before element i are written.
use Rattle.std.proofs.Common.{◌≡◌, [], ◌∷◌, length}
use Rattle.lanes_interleave.specs.Interleave.{Interleaved}
use Rattle.lanes_interleave.proofs.interleave.interleave_two.Given as goal

abbrev pub invariant-loop-i : goal.invariant-loop-i
invariant-loop-i l = (length l.target ≡ length l.fn.target) × Interleaved (l.first ∷ l.second ∷ []) l.target l.i
