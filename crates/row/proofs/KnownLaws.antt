-- What a call knows of a row, and the facts that it stands for: who can be served, whose turn would set WR, and how many have it set. Assumes nothing.
use Prim.Native.Nat.{ℕ, zero, suc, ◌+◌, ◌≤◌}
use mathlib.Core.Path.{◌≡◌, refl, sym, ap, ◌∙◌}
use mathlib.Core.Bool.{Bool, true, false, not, ◌&&◌}
use mathlib.Core.List.{List, [], ◌∷◌}
use native.Mathlib.Omega.{arith}
use lib.ListN.{length}
use lib.Dec.{eqb}
use borrow.Author.Tests.{not-true, le-ltb}
use Rattle.words.specs.Word.{pick}
use Rattle.words.specs.Decline.{accepted_of}
use Rattle.words.proofs.BitLaws.{true_not_false}
use Rattle.words.proofs.PickLaws.{and_both}
use Rattle.words.proofs.DeclineLaws.{neither}
use Rattle.geometry.specs.declared.banks.Geometry.{Geometry}
use Rattle.device.specs.Record.{running}
use Rattle.common_declines.specs.CommonDecline.{common_decline_of}
use Rattle.update.specs.Actions.{total_of}
use Rattle.update.specs.Turn.{turn_decline_of}
use Rattle.update.specs.PowerFail.{at}
use Rattle.update.proofs.PowerFail.{power_fail}
use Rattle.row_signs.specs.declared.sign.Sign.{Sign}
use Rattle.row_signs.specs.Signs.{sign_at}
use Rattle.row_turn.specs.SignTurn.{sign_state_of, look_of}
use Rattle.row_choice.specs.Choice.{count_of}
use Rattle.row.specs.Row.{RowState, Call, set_in, set_of, turn_at, Can, WouldSet}
use Rattle.row.proofs.CallLaws.{known_at}

module _ (g : Geometry) (r : RowState) (c : Call) (j : ℕ) where
  can_is : (known_at g r c).can j ≡ (accepted_of (turn_at g r c j).decline && not (turn_at g r c j).done)
  unfolding look_of
  can_is = refl

  pub known_can : (known_at g r c).can j ≡ true → Can g r c j
  known_can h =
      let both = and_both (accepted_of (turn_at g r c j).decline) (not (turn_at g r c j).done) (sym can_is ∙ h) in
      record { accepted = both.0; unfinished = not-true (turn_at g r c j).done both.1 }

  pub can_known : Can g r c j → (known_at g r c).can j ≡ true
  can_known can = can_is ∙ rw (can.accepted, can.unfinished) refl

  pub sets_is : (known_at g r c).sets j ≡ (not (running (sign_at r.signs j).device) && running (turn_at g r c j).state.device)
  unfolding look_of
  sets_is = refl

  pub known_sets : (known_at g r c).sets j ≡ true → WouldSet g r c j
  known_sets h =
      let was = running (sign_at r.signs j).device in
      let both = and_both (not was) (running (turn_at g r c j).state.device) (sym sets_is ∙ h) in
      record { before = not-true was both.0; after = both.1 }

  pub sets_known : WouldSet g r c j → (known_at g r c).sets j ≡ true
  sets_known would = sets_is ∙ rw (would.before, would.after) refl

  -- a sign at the total or past it cannot be served
  pub past_total : total_of g ≤ (sign_at r.signs j).place → Can g r c j → ⊥
  unfolding turn_decline_of
  past_total past can =
      let s = sign_state_of g r.store (sign_at r.signs j) in
      let place = (sign_at r.signs j).place in
      let every = (power_fail g c.image).turns (at s place) c.sram in
      let elsewhere : eqb place (total_of g) ≡ false = rw can.accepted at (sym every.done ∙ can.unfinished) in
      let answers : accepted_of (turn_decline_of g s c.image (length c.sram) place) ≡ true = ap accepted_of (sym every.answer) ∙ can.accepted in
      let lengths = length s.one ∷ length s.two ∷ length c.image ∷ [] in
      let rest = (neither (common_decline_of g s.device lengths (length c.sram)) _ answers).1 in
      true_not_false (sym (rw (le-ltb place (total_of g) past, elsewhere) at rest))

-- ---- the count

-- one more at the front of a list
count_front : (p : ℕ → Bool) (n : ℕ) → count_of p (suc n) ≡ pick (p 0) 1 0 + count_of (λ j. p (suc j)) n
count_front p zero = omega arith
count_front p (suc n) = let shorter = count_front p n in omega (arith, shorter)

pub count_set : (signs : List Sign) → count_of (λ j. running (sign_at signs j).device) (length signs) ≡ set_in signs
count_set [] = refl
count_set (s ∷ rest) =
    count_front (λ j. running (sign_at (s ∷ rest) j).device) (length rest)
    ∙ ap (λ (n : ℕ). pick (running s.device) 1 0 + n) (count_set rest)

pub known_set : (g : Geometry) (r : RowState) (c : Call) → (known_at g r c).set ≡ set_of r
known_set g r c = count_set r.signs
