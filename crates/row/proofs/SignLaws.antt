-- The records after a call: that of the sign served is turned, and each other is as it was. Assumes nothing.
use Prim.Native.Nat.{ℕ}
use mathlib.Core.Path.{◌≡◌, refl, sym, ap, ◌∙◌}
use mathlib.Core.List.{List}
use native.Mathlib.Decide.{ℕ_discrete}
use lib.Seq.{get_or-set_same, get_or-set_other}
use lib.ListN.{length, length-set}
use Rattle.geometry.specs.declared.banks.Geometry.{Geometry}
use Rattle.row_signs.specs.declared.sign.Sign.{Sign}
use Rattle.row_signs.specs.Signs.{sign_at}
use Rattle.row_turn.specs.SignTurn.{turned_sign}
use Rattle.row.specs.Row.{RowState, Call, answer_of, after_of, turn_at}
use Rattle.row.proofs.CallLaws.{ServingCall, by_cases}
use Rattle.row.proofs.BankLaws.{store_length}

-- the sign that is served
module _ (g : Geometry) (r : RowState) (c : Call) (x : ℕ) (s : ServingCall g r c x) where
  pub sign_turned : sign_at (after_of g r c).signs x ≡ turned_sign (sign_at r.signs x) (turn_at g r c x)
  sign_turned = ap (λ (l : List Sign). sign_at l x) s.signs ∙ get_or-set_same r.signs x (turned_sign (sign_at r.signs x) (turn_at g r c x)) _ s.inside

  pub sign_kept : (j : ℕ) → (j ≡ x → ⊥) → sign_at (after_of g r c).signs j ≡ sign_at r.signs j
  sign_kept j other =
      ap (λ (l : List Sign). sign_at l j) s.signs ∙ get_or-set_other r.signs x j (turned_sign (sign_at r.signs x) (turn_at g r c x)) _ other

module _ (g : Geometry) (r : RowState) (c : Call) where
  pub others : (j : ℕ) → (j ≡ (answer_of g r c).served → ⊥) → sign_at (after_of g r c).signs j ≡ sign_at r.signs j
  others j other =
      by_cases g r c
      (λ d. ap (λ (r : RowState). sign_at r.signs j) d.after)
      (λ i. ap (λ (l : List Sign). sign_at l j) i.signs)
      (λ x s. sign_kept g r c x s j (λ e. other (e ∙ sym s.served)))

  pub lengths : (length (after_of g r c).signs ≡ length r.signs) × (length (after_of g r c).store ≡ length r.store)
  lengths =
      by_cases g r c
      (λ d. (ap (λ (r : RowState). length r.signs) d.after, ap (λ (r : RowState). length r.store) d.after))
      (λ i. (ap length i.signs, ap length i.store))
      (λ x s. (
        ap length s.signs ∙ length-set r.signs x (turned_sign (sign_at r.signs x) (turn_at g r c x)),
        ap length s.store ∙ store_length g r.store c.image c.sram (sign_at r.signs x),
      ))

  -- each record keeps what its turn does not change
  stays : (f : Sign → ℕ) → ((x : ℕ) → f (turned_sign (sign_at r.signs x) (turn_at g r c x)) ≡ f (sign_at r.signs x))
      → (j : ℕ) → f (sign_at (after_of g r c).signs j) ≡ f (sign_at r.signs j)
  stays f same j =
      by_cases g r c
      (λ d. ap (λ (r : RowState). f (sign_at r.signs j)) d.after)
      (λ i. ap (λ (l : List Sign). f (sign_at l j)) i.signs)
      (λ x s. go x s (ℕ_discrete j x))
    where
      go : (x : ℕ) → ServingCall g r c x → Dec (j ≡ x) → f (sign_at (after_of g r c).signs j) ≡ f (sign_at r.signs j)
      go x s (yes e) = rw e (ap f (sign_turned g r c x s) ∙ same x)
      go x s (no other) = ap f (sign_kept g r c x s j other)

  pub starts : (j : ℕ) → ((sign_at (after_of g r c).signs j).one ≡ (sign_at r.signs j).one) × ((sign_at (after_of g r c).signs j).two ≡ (sign_at r.signs j).two)
  starts j = (stays (λ s. s.one) (λ x. refl) j, stays (λ s. s.two) (λ x. refl) j)
