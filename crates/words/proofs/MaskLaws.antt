-- Words within a mask, and merges whose mask takes all or none of the bits that change. Each holds bit by bit.
-- Assumes nothing.
use mathlib.Core.Path.{◌≡◌, refl, sym, ap, ◌∙◌}
use mathlib.Core.Bool.{Bool, true, false, not, ◌&&◌, ◌||◌, or-false, and-true, and-false}
use Prim.Native.Nat.{ℕ, ◌-◌, ◌^◌, ◌≤◌, ◌<◌}
use native.Mathlib.Nat.{mod-eq_of_lt, mod-lt}
use native.Mathlib.Omega.{arith}
use lib.Dec.{eqb}
use lib.Bits.{bit_and, bit_or, and_mask, and_le_r}
use lib.Pow.{pow_pos}
use borrow.Author.Tests.{eq-eqb, eqb-true, not-false}
use Rattle.words.specs.Word.{pick, bit, has_of, merge_of, clear_of}
use Rattle.words.proofs.BitLaws.{true_not_false, bit-and, bit-or, merge_bit, clear_bit, equal_by_bits, bit_zero}

-- w has no bit outside the mask
pub record Within (mask w : ℕ) : Type 0 where
  pub inside : bit_and w mask ≡ w

pub within_bit : (mask w : ℕ) → Within mask w → (k : ℕ) → (bit k w && bit k mask) ≡ bit k w
within_bit mask w h k = sym (bit-and k w mask) ∙ ap (bit k) h.inside

by_bits : (mask w : ℕ) → ((k : ℕ) → (bit k w && bit k mask) ≡ bit k w) → Within mask w
by_bits mask w e = record { inside = equal_by_bits (bit_and w mask) w (λ k. bit-and k w mask ∙ e k) }

-- the test of it
pub within_test : (mask w : ℕ) → Within mask w → eqb (bit_and w mask) w ≡ true
within_test mask w h = eq-eqb _ _ h.inside

pub test_within : (mask w : ℕ) → eqb (bit_and w mask) w ≡ true → Within mask w
test_within mask w e = record { inside = eqb-true _ _ e }

-- a word of n bits is within a mask of n ones, and the other way round
pub below_within : (n w : ℕ) → w < 2 ^ n → Within (2 ^ n - 1) w
below_within n w h = record { inside = and_mask w n ∙ mod-eq_of_lt h }

pub within_below : (n w : ℕ) → Within (2 ^ n - 1) w → w < 2 ^ n
within_below n w h = rw (sym h.inside ∙ and_mask w n) (mod-lt w (pow_pos n))

module _ (mask : ℕ) where
  pub merge_within : (t a b : ℕ) → Within mask t → Within mask b → Within mask (merge_of t a b)
  merge_within t a b ht hb =
      by_bits mask (merge_of t a b) (λ k. rw merge_bit (table (bit k mask) (bit k t) (bit k a) (bit k b) (within_bit mask t ht k) (within_bit mask b hb k)))
    where
      table : (m t a b : Bool) → (t && m) ≡ t → (b && m) ≡ b → (pick t a b && m) ≡ pick t a b
      table true t a b p q = and-true (pick t a b)
      table false true a b p q = true_not_false (sym p)
      table false false a b p q = q

  pub or_within : (a b : ℕ) → Within mask a → Within mask b → Within mask (bit_or a b)
  or_within a b ha hb =
      by_bits mask (bit_or a b) (λ k. rw bit-or (table (bit k mask) (bit k a) (bit k b) (within_bit mask a ha k) (within_bit mask b hb k)))
    where
      table : (m a b : Bool) → (a && m) ≡ a → (b && m) ≡ b → ((a || b) && m) ≡ (a || b)
      table true a b p q = and-true (a || b)
      table false true b p q = true_not_false (sym p)
      table false false b p q = q

  pub clear_within : (w v : ℕ) → Within mask w → Within mask (clear_of w v)
  clear_within w v h = by_bits mask (clear_of w v) (λ k. rw clear_bit (table (bit k mask) (bit k w) (bit k v) (within_bit mask w h k)))
    where
      table : (m w v : Bool) → (w && m) ≡ w → (w && not v && m) ≡ (w && not v)
      table true w v p = and-true (w && not v)
      table false true v p = true_not_false (sym p)
      table false false v p = refl

-- ---- a store by form set or clear, all of whose bits take
pub merge_set : (t c v : ℕ) → Within t v → merge_of t (bit_or c v) c ≡ bit_or c v
merge_set t c v h =
    equal_by_bits _ _ (λ k. rw (merge_bit, bit-or) (table (bit k t) (bit k c) (bit k v) (within_bit t v h k)))
  where
    table : (t c v : Bool) → (v && t) ≡ v → pick t (c || v) c ≡ (c || v)
    table true c v p = refl
    table false c true p = true_not_false (sym p)
    table false c false p = sym (or-false c)

pub merge_clear : (t c v : ℕ) → Within t v → merge_of t (clear_of c v) c ≡ clear_of c v
merge_clear t c v h =
    equal_by_bits _ _ (λ k. rw (merge_bit, clear_bit) (table (bit k t) (bit k c) (bit k v) (within_bit t v h k)))
  where
    table : (t c v : Bool) → (v && t) ≡ v → pick t (c && not v) c ≡ (c && not v)
    table true c v p = refl
    table false c true p = true_not_false (sym p)
    table false c false p = sym (and-true c)

-- ---- a set none of whose bits takes
pub merge_none : (t c v : ℕ) → bit_and v t ≡ 0 → merge_of t (bit_or c v) c ≡ c
merge_none t c v h =
    equal_by_bits _ _
    (λ k. rw (merge_bit, bit-or) (table (bit k t) (bit k c) (bit k v) (sym (bit-and k v t) ∙ ap (bit k) h ∙ bit_zero k)))
  where
    table : (t c v : Bool) → (v && t) ≡ false → pick t (c || v) c ≡ c
    table true c true p = true_not_false p
    table true c false p = or-false c
    table false c v p = refl

-- ---- a bit that does not take stays
pub merge_keeps : (k t a b : ℕ) → bit k t ≡ false → bit k (merge_of t a b) ≡ bit k b
merge_keeps k t a b h = rw (merge_bit, h)

-- ---- masks inside masks, and single bits
pub within_trans : (outer mask w : ℕ) → Within outer mask → Within mask w → Within outer w
within_trans outer mask w ho h =
    by_bits outer w (λ k. table (bit k outer) (bit k mask) (bit k w) (within_bit outer mask ho k) (within_bit mask w h k))
  where
    table : (o m w : Bool) → (m && o) ≡ m → (w && m) ≡ w → (w && o) ≡ w
    table o m false p q = refl
    table true m true p q = refl
    table false true true p q = true_not_false (sym p)
    table false false true p q = true_not_false (sym q)

pub outside_bit : (mask w k : ℕ) → Within mask w → bit k mask ≡ false → bit k w ≡ false
outside_bit mask w k h off = sym (within_bit mask w h k) ∙ rw off (and-false (bit k w))

pub has_none : (w mask k : ℕ) → has_of w mask ≡ false → bit k mask ≡ true → bit k w ≡ false
has_none w mask k h on =
    let e : bit_and w mask ≡ 0 = eqb-true _ _ (not-false _ h) in
    sym (and-true (bit k w)) ∙ ap (λ (t : Bool). bit k w && t) (sym on) ∙ sym (bit-and k w mask) ∙ ap (bit k) e ∙ bit_zero k

pub within_high : (mask w : ℕ) → Within mask w → w ≤ mask
within_high mask w h = omega (arith, and_le_r w mask, h.inside)
