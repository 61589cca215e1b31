-- The invariant: the banks so far stand.
use Rattle.std.proofs.Common.{◌≡◌, true, get_or}
use Rattle.words.specs.Word.{all_below}
use Rattle.row_judge.specs.Judge.{bank_stands_of}
use Rattle.row_judge.proofs.banks_stand.Given as goal

abbrev pub invariant-loop-b : goal.invariant-loop-b
invariant-loop-b l = all_below (bank_stands_of (λ e. get_or l.starts e 0) l.words l.store) l.b ≡ true
