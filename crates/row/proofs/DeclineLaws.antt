-- Which decline a call for a row gives, and where it gives none. Assumes nothing.
use mathlib.Core.Path.{◌≡◌, sym, ap, ◌∙◌}
use mathlib.Core.Bool.{true}
use lib.ListN.{length}
use borrow.Author.Tests.{eqb-true}
use Rattle.words.proofs.BitLaws.{true_not_false}
use Rattle.words.specs.Decline.{number_of, accepted_of}
use Rattle.geometry.specs.declared.banks.Geometry.{Geometry}
use Rattle.row_judge.proofs.JudgeLaws.{stands, judged_accepted}
use Rattle.row_judge.proofs.DeclineLaws.{geometry_declines, length-declines, row_declines}
use Rattle.row.specs.Row.{RowState, Call, answer_of}
use Rattle.row.specs.Choosing.{JudgedCall, RowDeclines}
use Rattle.row.proofs.CallLaws.{decline_at, by_cases, not_declined}

module _ (g : Geometry) (r : RowState) (c : Call) where
  -- the number that a call answers, declined or not
  decline_is : (answer_of g r c).decline ≡ number_of (decline_at g r c)
  decline_is =
      by_cases g r c
      (λ d. d.decline)
      (λ i. i.decline ∙ sym (eqb-true (number_of (decline_at g r c)) 0 i.accepted))
      (λ x s. s.decline ∙ sym (eqb-true (number_of (decline_at g r c)) 0 s.accepted))

  -- what declines 1, 2 and 19 leave, and back
  pub call_accepted : JudgedCall g r c → accepted_of (decline_at g r c) ≡ true
  call_accepted j =
      judged_accepted g c.k r.signs (length r.signs) r.queue r.last (length r.store) (length c.image) (length c.sram) j

  pub call_judged : accepted_of (decline_at g r c) ≡ true → JudgedCall g r c
  call_judged h = stands g c.k r.signs (length r.signs) r.queue r.last (length r.store) (length c.image) (length c.sram) h

  pub accepted_only : (answer_of g r c).decline ≡ 0 → JudgedCall g r c
  accepted_only e = by_cases g r c (λ d. not_declined g r c d e) (λ i. call_judged i.accepted) (λ x s. call_judged s.accepted)

  pub row_declined : RowDeclines g r c (answer_of g r c)
  row_declined =
      record {
        geometry = λ out. decline_is ∙ ap number_of (geometry_declines g c.k r.signs _ r.queue r.last _ _ _ out);
        lengths = λ listed either. decline_is ∙ ap number_of (length-declines g c.k r.signs _ r.queue r.last _ _ _ listed either);
        row = λ listed words room none.
            decline_is ∙ ap number_of (row_declines g c.k r.signs _ r.queue r.last _ _ _ listed words room none);
        accepted = λ j.
            by_cases g r c (λ d. true_not_false (sym (call_accepted j) ∙ d.refused)) (λ i. i.decline) (λ x s. s.decline);
        accepted_only = accepted_only;
        numbers = λ some.
            by_cases g r c
            (λ d. (d.idle, (d.served, d.event)))
            (λ i. absurd (some i.decline))
            (λ x s. absurd (some s.decline));
      }
