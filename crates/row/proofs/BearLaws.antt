-- No call raises the number of signs with WR set above K. Assumes nothing.
use Prim.Native.Nat.{ℕ, ◌≤◌}
use mathlib.Core.Path.{◌≡◌, refl, sym, ap, ◌∙◌}
use mathlib.Core.Bool.{Bool, true, false, not, ◌&&◌}
use mathlib.Core.List.{List}
use mathlib.Core.Logic.{◌⊎◌, inl, inr}
use native.Mathlib.Omega.{arith}
use lib.ListN.{length}
use Rattle.words.proofs.BitLaws.{true_not_false}
use Rattle.geometry.specs.declared.banks.Geometry.{Geometry}
use Rattle.device.specs.Record.{running}
use Rattle.row_signs.specs.declared.sign.Sign.{Sign}
use Rattle.row_signs.specs.Signs.{sign_at}
use Rattle.row_choice.specs.Choice.{count_of}
use Rattle.row_choice.proofs.ServedLaws.{served_sets_room}
use Rattle.row.specs.Row.{RowState, Call, after_of, set_in, set_of, turn_at}
use Rattle.row.proofs.CallLaws.{known_at, ServingCall, by_cases}
use Rattle.row.proofs.KnownLaws.{sets_is, count_set}
use Rattle.row.proofs.CountLaws.{count_one_more, count_no_more}
use Rattle.row.proofs.SignLaws.{sign_turned, sign_kept, lengths}

-- where a turn does not set WR, it is 1 after it only where it was before
stays_set : (before after : Bool) → (not before && after) ≡ false → after ≡ true → before ≡ true
stays_set true after h e = refl
stays_set false after h e = true_not_false (sym e ∙ h)

-- record j has WR set
abbrev is_set : List Sign → ℕ → Bool
is_set signs j = running (sign_at signs j).device

module _ (g : Geometry) (r : RowState) (c : Call) where
  module _ (x : ℕ) (s : ServingCall g r c x) where
    pub set_after : is_set (after_of g r c).signs x ≡ running (turn_at g r c x).state.device
    set_after = ap (λ (sign : Sign). running sign.device) (sign_turned g r c x s)

    agree : (j : ℕ) → (j ≡ x → ⊥) → is_set (after_of g r c).signs j ≡ is_set r.signs j
    agree j other = ap (λ (sign : Sign). running sign.device) (sign_kept g r c x s j other)

    serving_bears : (set_of (after_of g r c) ≤ c.k) ⊎ (set_of (after_of g r c) ≤ set_of r)
    serving_bears = rw (← count_set (after_of g r c).signs, ← count_set r.signs, (lengths g r c).0) (go ((known_at g r c).sets x) refl)
      where
        go : (t : Bool) → (known_at g r c).sets x ≡ t
            → (count_of (is_set (after_of g r c).signs) (length r.signs) ≤ c.k)
            ⊎ (count_of (is_set (after_of g r c).signs) (length r.signs) ≤ count_of (is_set r.signs) (length r.signs))
        go true e =
            let room = served_sets_room (known_at g r c) (rw s.chosen s.inside) (rw s.chosen e) in
            inl (omega (arith, room, count_one_more (is_set r.signs) (is_set (after_of g r c).signs) x agree (length r.signs)))
        go false e =
            inr (count_no_more (is_set r.signs) (is_set (after_of g r c).signs) x agree
            (λ set. stays_set (is_set r.signs x) (running (turn_at g r c x).state.device) (sym (sets_is g r c x) ∙ e) (sym set_after ∙ set))
            (length r.signs))

  pub bears : (set_of (after_of g r c) ≤ c.k) ⊎ (set_of (after_of g r c) ≤ set_of r)
  bears =
      by_cases g r c
      (λ d. let same : set_of (after_of g r c) ≡ set_of r = ap set_of d.after in inr (omega (arith, same)))
      (λ i.
      let same : set_of (after_of g r c) ≡ set_of r = ap set_in i.signs in
      inr (omega (arith, same)))
      serving_bears
