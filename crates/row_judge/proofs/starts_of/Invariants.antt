-- The invariant: the starts of the records so far are in the list.
use Rattle.row_judge.proofs.StartLaws.{Starting}
use Rattle.row_judge.proofs.starts_of.Given as goal

abbrev pub invariant-loop-i : goal.invariant-loop-i
invariant-loop-i l = Starting l.row.signs l.i l.starts
