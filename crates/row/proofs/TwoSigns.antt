-- Each sign of the example has the state of Example, by computation, so that its update is accepted. Assumes nothing.
use Prim.Native.Nat.{ℕ, zero, suc, ◌*◌, ◌<◌}
use mathlib.Core.Path.{◌≡◌, refl, sym, ap, subst}
use mathlib.Core.Bool.{true}
use mathlib.Core.List.{[]}
use native.Mathlib.Omega.{arith}
use lib.ListN.{length}
use Rattle.words.specs.Decline.{accepted_of}
use Rattle.geometry.specs.Banks.{listed_of, in_range_up_to}
use Rattle.geometry.specs.Lent.{lengths_fit_of, lent_decline_up_to}
use Rattle.update.specs.PowerFail.{Position, at, Update}
use Rattle.update.specs.Bench.{smallest}
use Rattle.update.specs.Example.{example_state, example_image}
use Rattle.update.proofs.Example.{example_update, total_is}
use Rattle.row_signs.specs.Signs.{sign_at, queue_of}
use Rattle.row_judge.specs.Judge.{queue_stands_of, start_of, apart_of, bank_stands_of, banks_stand_of, row_stands_of, row_decline_of}
use Rattle.row_judge.proofs.JudgeLaws.{stands}
use Rattle.row.specs.Row.{row_of, fresh_of}
use Rattle.row.specs.RowCut.{position_at}
use Rattle.row.specs.Progress.{Fresh}
use Rattle.row.specs.TwoSigns.{example_store, example_signs, example_call, TwoSigns}
use Rattle.row.proofs.Progress.{progress}

-- none of declines 1, 2 and 19 applies
accepted : accepted_of (row_decline_of smallest 1 example_signs 2 (queue_of []) 1 (length example_store) (length example_image) 0) ≡ true
unfolding listed_of in_range_up_to lengths_fit_of lent_decline_up_to
    queue_stands_of start_of apart_of bank_stands_of banks_stand_of row_stands_of row_decline_of
accepted = refl

-- each sign is at place 0 of the update of Example
starts : (j : ℕ) → j < 2 → position_at smallest (fresh_of example_signs example_store) j ≡ at example_state 0
starts zero l = refl
starts (suc zero) l = refl
starts (suc (suc j)) l = absurd (omega (arith, l))

fresh : Fresh smallest example_image example_signs example_store (λ i. example_call)
fresh =
    record {
      judged = stands smallest 1 example_signs 2 (queue_of []) 1 (length example_store) (length example_image) 0 accepted;
      places = λ j l. ap (λ (p : Position). p.place) (starts j l);
      updates = λ j l. subst (λ (p : Position). Update smallest p.state example_image) (sym (starts j l)) example_update;
      images = λ i. refl;
      k_low = λ i. omega arith;
      k_high = λ i. omega arith;
      srams = λ i. omega arith;
    }

-- 2 × total calls finish both
finish : (j : ℕ) → j < 2 → (sign_at (row_of smallest (fresh_of example_signs example_store) (λ i. example_call) 504).signs j).place ≡ 252
finish =
    subst
    (λ (total : ℕ). (j : ℕ) → j < 2 → (sign_at (row_of smallest (fresh_of example_signs example_store) (λ i. example_call) (2 * total)).signs j).place ≡ total)
    total_is (progress smallest example_image example_signs example_store (λ i. example_call) fresh).finishes

pub two_signs : TwoSigns
two_signs = record { fresh = fresh; finish = finish }
