-- What is promised of every call and of every list of calls for a row, but for the cut; no other answer is as asked. Assumes nothing.
use mathlib.Core.Path.{sym, ◌∙◌}
use Rattle.words.proofs.BitLaws.{true_not_false}
use Rattle.geometry.specs.declared.banks.Geometry.{Geometry}
use Rattle.row.specs.Row.{RowState, Call, answer_of, after_of}
use Rattle.row.specs.Supply.{OneCall, Called, Supply}
use Rattle.row.proofs.CallLaws.{by_cases}
use Rattle.row.proofs.DeclineLaws.{row_declined}
use Rattle.row.proofs.ChoosingLaws.{chosen}
use Rattle.row.proofs.SignLaws.{others, lengths, starts}
use Rattle.row.proofs.ServedLaws.{served, other_banks, outside}
use Rattle.row.proofs.BearLaws.{bears}
use Rattle.row.proofs.FairCalls.{fair_calls}
use Rattle.row.proofs.FixedLaws.{same_answer, same_row}

one_call : (g : Geometry) (r : RowState) (c : Call) → OneCall g r c (answer_of g r c) (after_of g r c)
one_call g r c =
    record {
      declined = λ h. by_cases g r c (λ d. d.after) (λ i. absurd (h i.decline)) (λ x s. absurd (h s.decline));
      bears = bears g r c;
      idle =
          λ h.
          by_cases g r c
          (λ d. true_not_false (sym h ∙ d.idle))
          (λ i. (i.signs, (i.store, i.last)))
          (λ x s. true_not_false (sym h ∙ s.idle));
      served = served g r c;
      others = others g r c;
      other_banks = other_banks g r c;
      outside = outside g r c;
      lengths = lengths g r c;
      starts = starts g r c;
    }

called : (g : Geometry) (r : RowState) (c : Call) → Called g r c (answer_of g r c) (after_of g r c)
called g r c = record { one_call = one_call g r c; choosing = chosen g r c; declines = row_declined g r c }

pub supply : Supply
supply =
    record {
      meets = called;
      fixes = λ g r c a signs store m.
          let after = after_of g r c in (
            same_answer g r c a (answer_of g r c) signs after.signs store after.store m (called g r c),
            same_row g r c a (answer_of g r c) signs after.signs store after.store m (called g r c),
          );
      fair = fair_calls;
    }
