-- The banks of a row's signs lie apart in the store, and a sign with another state leaves the others as they were. Assumes nothing.
use Prim.Native.Nat.{ℕ, ◌+◌, ◌<◌, ◌≤◌}
use mathlib.Core.Path.{◌≡◌, refl, sym, ap, ◌∙◌}
use mathlib.Core.Bool.{Bool, true, false}
use mathlib.Core.List.{List}
use mathlib.Core.Logic.{inl, inr, ⊎_elim}
use native.Mathlib.Omega.{arith}
use lib.Dec.{eqb}
use borrow.Author.Tests.{eqb-true, eqb-false}
use lib.ListN.{length, length-set}
use lib.Seq.{sets, length-sets, get_or-set_same, get_or-set_other}
use Rattle.geometry.specs.declared.banks.Geometry.{Geometry}
use Rattle.geometry.specs.Banks.{bank_words_of}
use Rattle.device.specs.State.{State}
use Rattle.row_signs.specs.declared.sign.Sign.{Sign}
use Rattle.row_signs.specs.Signs.{past_end, sign_at}
use Rattle.row_judge.specs.Judge.{Apart}
use Rattle.row_turn.specs.SignTurn.{part_of}
use Rattle.row_turn.proofs.PartLaws.{part_length, part_apart, part_set, sets_outside}
use Rattle.row.specs.Row.{RowState}
use Rattle.row.specs.RowCut.{with_state, state_at, Placed}
use Rattle.row.proofs.KeptLaws.{Kept}

-- the banks of a sign have their length
pub state_lengths : (g : Geometry) (r : RowState) → Placed g r → (j : ℕ) → j < length r.signs
    → (length (state_at g r j).one ≡ bank_words_of g) × (length (state_at g r j).two ≡ bank_words_of g)
state_lengths g r placed j l =
    let there = placed.lies j l in
    (part_length r.store _ (bank_words_of g) there.first, part_length r.store _ (bank_words_of g) there.other)

module _ (g : Geometry) (r : RowState) (placed : Placed g r) (i : ℕ) (listed : i < length r.signs) (t : State)
    (first : length t.one ≡ bank_words_of g) (other : length t.two ≡ bank_words_of g) where
  abbrev after : RowState
  after = with_state r i t

  abbrev s : Sign
  s = sign_at r.signs i

  -- ---- the record, and the others

  same_sign : sign_at after.signs i ≡ record { device = t.device; place = s.place; one = s.one; two = s.two }
  same_sign = get_or-set_same r.signs i _ past_end listed

  pub other_sign : (j : ℕ) → (j ≡ i → ⊥) → sign_at after.signs j ≡ sign_at r.signs j
  other_sign j differs = get_or-set_other r.signs i j _ past_end differs

  pub place_same : (sign_at after.signs i).place ≡ s.place
  place_same = ap (λ (s : Sign). s.place) same_sign

  -- ---- the store

  abbrev between : List ℕ
  between = sets r.store s.one t.one

  long : length after.store ≡ length r.store
  long = length-sets between s.two t.two ∙ length-sets r.store s.one t.one

  first_part : part_of after.store s.one (bank_words_of g) ≡ t.one
  first_part =
      part_apart between s.two t.two s.one (bank_words_of g) (omega (arith, length-sets r.store s.one t.one, (placed.lies i listed).first))
      (⊎_elim (λ before. inr before) (λ behind. inl (rw other behind)) (placed.lies i listed).apart)
      ∙ part_set r.store s.one (bank_words_of g) t.one first (placed.lies i listed).first

  other_part : part_of after.store s.two (bank_words_of g) ≡ t.two
  other_part =
      part_set between s.two (bank_words_of g) t.two other (omega (arith, length-sets r.store s.one t.one, (placed.lies i listed).other))

  pub state_same : state_at g after i ≡ t
  state_same = rw (same_sign, first_part, other_part) refl

  -- a bank apart from both
  bank_kept : (a : ℕ) → a + bank_words_of g ≤ length r.store → Apart (bank_words_of g) s.one a → Apart (bank_words_of g) s.two a
      → part_of after.store a (bank_words_of g) ≡ part_of r.store a (bank_words_of g)
  bank_kept a inside one_Apart two_apart =
      part_apart between s.two t.two a (bank_words_of g) (omega (arith, length-sets r.store s.one t.one, inside)) (rw other two_apart)
      ∙ part_apart r.store s.one t.one a (bank_words_of g) inside (rw first one_Apart)

  pub state_other : (j : ℕ) → j < length r.signs → (j ≡ i → ⊥) → state_at g after j ≡ state_at g r j
  state_other j inside differs =
      let from = placed.apart i j listed inside (λ same. differs (sym same)) in
      let there = placed.lies j inside in
      rw (
        other_sign j differs,
        bank_kept (sign_at r.signs j).one there.first from.one_one from.two_one,
        bank_kept (sign_at r.signs j).two there.other from.one_two from.two_two,
      ) refl

  starts_same : (j : ℕ) → ((sign_at after.signs j).one ≡ (sign_at r.signs j).one) × ((sign_at after.signs j).two ≡ (sign_at r.signs j).two)
  starts_same j = go (eqb j i) refl
    where
      go : (t : Bool) → eqb j i ≡ t
          → ((sign_at after.signs j).one ≡ (sign_at r.signs j).one) × ((sign_at after.signs j).two ≡ (sign_at r.signs j).two)
      go true e = rw (eqb-true j i e) (ap (λ (s : Sign). s.one) same_sign, ap (λ (s : Sign). s.two) same_sign)
      go false e =
          let differs = eqb-false j i e in
          (ap (λ (s : Sign). s.one) (other_sign j differs), ap (λ (s : Sign). s.two) (other_sign j differs))

  -- how many they are, where their banks lie, and the words outside all of them
  pub with_kept : Kept g r after
  with_kept =
      record {
        listed = length-set r.signs i _;
        long = long;
        starts = starts_same;
        words =
            λ v out. let (one_out, two_out) = out i listed in
            sets_outside between s.two t.two v (rw other two_out) ∙ sets_outside r.store s.one t.one v (rw first one_out);
      }
