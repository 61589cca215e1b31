-- The invariant: the entries so far stand.
use Rattle.std.proofs.Common.{◌≡◌, true}
use Rattle.words.specs.Word.{all_below}
use Rattle.row_judge.specs.Judge.{entry_stands_of}
use Rattle.row_judge.proofs.queue_stands.Given as goal

abbrev pub invariant-loop-p : goal.invariant-loop-p
invariant-loop-p l = all_below (entry_stands_of l.queue l.n) l.p ≡ true
