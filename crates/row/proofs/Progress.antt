-- From accepted starts of all signs and the fresh row, no call is idle before all signs are finished, and n × total calls finish all. Assumes nothing.
use Prim.Native.Nat.{ℕ, zero, suc, ◌+◌, ◌*◌, ◌<◌}
use mathlib.Core.Path.{◌≡◌, refl, sym, ap, ◌∙◌}
use mathlib.Core.List.{List, []}
use mathlib.Core.Logic.{◌⊎◌, inl, inr}
use native.Mathlib.Omega.{arith}
use lib.ListN.{length}
use Rattle.words.proofs.BitLaws.{true_not_false}
use Rattle.geometry.specs.declared.banks.Geometry.{Geometry}
use Rattle.update.specs.Actions.{total_of}
use Rattle.update.specs.PowerFail.{at}
use Rattle.row_signs.specs.declared.sign.Sign.{Sign}
use Rattle.row_signs.specs.Signs.{sign_at}
use Rattle.row.specs.Row.{RowState, Call, row_of, fresh_of}
use Rattle.row.specs.RowCut.{state_at, position_at}
use Rattle.row.specs.Progress.{Fresh, Progress}
use Rattle.row.proofs.CallLaws.{ServingCall, by_cases}
use Rattle.row.proofs.SignLaws.{sign_kept}
use Rattle.row.proofs.FairCalls.{row_length}
use Rattle.row.proofs.GoingLaws.{going_within}
use Rattle.row.proofs.SumLaws.{sum_of, sum_zero, sum_one_more, sum_full}
use Rattle.row.proofs.UnderwayLaws.{Good, Underway, accepted, idle_done, was_unfinished, rises, underway_next}

module _ (g : Geometry) (image : List ℕ) (signs : List Sign) (store : List ℕ) (calls : ℕ → Call) (fresh : Fresh g image signs store calls) where
  abbrev row : ℕ → RowState
  row i = row_of g (fresh_of signs store) calls i

  good : (i : ℕ) → Good image (calls i)
  good i = record { same = fresh.images i; low = fresh.k_low i; high = fresh.k_high i; short = fresh.srams i }

  listed : (i : ℕ) → length (row i).signs ≡ length signs
  listed = row_length g (fresh_of signs store) calls

  underway : (i : ℕ) → Underway g image (row i)
  underway zero =
      record {
        judged = fresh.judged;
        going =
            λ j l.
            record {
              start = state_at g (fresh_of signs store) j;
              update = fresh.updates j l;
              srams = [];
              is = ap (λ (place : ℕ). at (state_at g (fresh_of signs store) j) place) (sym (fresh.places j l));
            };
        clear = λ j waits. true_not_false (sym waits);
      }
  underway (suc i) = underway_next g image (row i) (underway i) (calls i) (good i)

  -- the place of sign j before call i
  abbrev place_at : ℕ → ℕ → ℕ
  place_at i j = (sign_at (row i).signs j).place

  abbrev Finished : ℕ → Type 0
  Finished i = (j : ℕ) → j < length signs → place_at i j ≡ total_of g

  idle_finished : (i : ℕ) → ((j : ℕ) → j < length (row i).signs → place_at i j ≡ total_of g) → Finished i
  idle_finished i all j l = all j (omega (arith, l, listed i))

  -- before call i all are finished, or each call before it raised one place
  counted : (i : ℕ) → Finished i ⊎ (sum_of (place_at i) (length signs) ≡ i)
  counted zero = inr (sum_zero (place_at 0) (length signs) fresh.places)
  counted (suc i) =
      by_cases g (row i) (calls i)
      (λ d. true_not_false (sym (accepted g image (row i) (underway i) (calls i) (good i)) ∙ d.refused))
      (λ idle. inl (λ j l.
      ap (λ (l : List Sign). (sign_at l j).place) idle.signs
      ∙ idle_finished i (idle_done g image (row i) (underway i) (calls i) (good i) idle.idle) j l))
      (λ x s. inr (go x s (counted i)))
    where
      go : (x : ℕ) → ServingCall g (row i) (calls i) x → Finished i ⊎ (sum_of (place_at i) (length signs) ≡ i)
          → sum_of (place_at (suc i)) (length signs) ≡ suc i
      go x s (inl all) =
          absurd (was_unfinished g image (row i) (underway i) (calls i) (good i) x s (all x (omega (arith, s.inside, listed i))))
      go x s (inr sum) =
          let more : sum_of (place_at (suc i)) (length signs) ≡ sum_of (place_at i) (length signs) + 1 =
          sum_one_more (place_at i) (place_at (suc i)) x
          (λ j other. ap (λ (sign : Sign). sign.place) (sign_kept g (row i) (calls i) x s j other))
          (rises g image (row i) (underway i) (calls i) (good i) x s) (length signs) (omega (arith, s.inside, listed i)) in
          omega (arith, more, sum)

  finished : (i : ℕ) → i ≡ length signs * total_of g → Finished i ⊎ (sum_of (place_at i) (length signs) ≡ i) → Finished i
  finished i e (inl all) = all
  finished i e (inr sum) =
      sum_full (place_at i) (total_of g) (length signs)
      (λ j l. going_within g image (position_at g (row i) j) ((underway i).going j (omega (arith, l, listed i)))) (sum ∙ e)

  pub progress : Progress g image signs store calls
  progress =
      record {
        goes_on = λ i idle. idle_finished i (idle_done g image (row i) (underway i) (calls i) (good i) idle);
        finishes = finished (length signs * total_of g) refl (counted (length signs * total_of g));
      }
