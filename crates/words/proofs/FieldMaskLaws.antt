-- The bits of a mask of one field are its positions; a word has a bit of two masks together where it has one of either. Assumes nothing.
use mathlib.Core.Path.{◌≡◌, refl, sym, ap, ap₂, ◌∙◌}
use mathlib.Core.Bool.{Bool, true, false, not, ◌&&◌, ◌||◌, and_comm}
use Prim.Native.Nat.{ℕ, suc, ◌+◌, ◌-◌, ◌/◌, ◌%◌, ◌^◌, ◌≤◌, ◌<◌}
use native.Mathlib.Nat.{mod-lt}
use native.Mathlib.Decide.{dec_lt, ℕ_discrete}
use native.Mathlib.Omega.{arith}
use lib.Dec.{eqb, leb, ltb, leb-suc-suc}
use lib.Pow.{ones_lt}
use lib.Bits.{bit_and, bit_or, or_add_and, and_le_l, and_le_r}
use borrow.Author.Tests.{eq-eqb, ne_eqb, le-leb, lt-leb, le-ltb, lt-ltb}
use Rattle.words.specs.Word.{pick, bit, has_of, clear_of}
use Rattle.words.proofs.CaseLaws.{below_four}
use Rattle.words.proofs.BitLaws.{bit-and, bit-or, bit_self, bit_other, bit_above, ones_bit, bit_low, bit_high, clear_bit, equal_by_bits}

-- a field of one bit, j
pub one_bit : (j k : ℕ) → bit k (2 ^ j) ≡ eqb k j
one_bit j k = go (ℕ_discrete k j)
  where
    go : Dec (k ≡ j) → bit k (2 ^ j) ≡ eqb k j
    go (yes e) = rw e (bit_self j ∙ sym (eq-eqb j j refl))
    go (no n) = bit_other j k (λ e. n (sym e)) ∙ sym (ne_eqb k j n)

-- the low n bits
ones : (n k : ℕ) → bit k (2 ^ n - 1) ≡ ltb k n
ones n k = go (dec_lt k n)
  where
    go : Dec (k < n) → bit k (2 ^ n - 1) ≡ ltb k n
    go (yes l) = ones_bit n k l ∙ sym (lt-ltb k n l)
    go (no l) = let h : n ≤ k = omega (arith, l) in bit_above n k (2 ^ n - 1) (ones_lt n) h ∙ sym (le-ltb k n h)

-- a field "n to 0"
pub low_ones : (n k : ℕ) → bit k (2 ^ suc n - 1) ≡ leb k n
low_ones n k = ones (suc n) k ∙ leb-suc-suc k n

-- a field "n to a"
pub field_ones : (a n k : ℕ) → bit k (clear_of (2 ^ suc n - 1) (2 ^ a - 1)) ≡ (leb a k && leb k n)
field_ones a n k =
    clear_bit k (2 ^ suc n - 1) (2 ^ a - 1)
    ∙ ap₂ (λ (s t : Bool). s && t) (low_ones n k) (ap not (ones a k) ∙ not_below (dec_lt k a))
    ∙ and_comm (leb k n) (leb a k)
  where
    not_below : Dec (k < a) → not (ltb k a) ≡ leb a k
    not_below (yes l) = rw (lt-ltb k a l, lt-leb a k l)
    not_below (no l) = let h : a ≤ k = omega (arith, l) in rw (le-ltb k a h, le-leb a k h)

-- several fields
pub fields : (m n k : ℕ) {s t : Bool} → bit k m ≡ s → bit k n ≡ t → bit k (bit_or m n) ≡ (s || t)
fields m n k e f = bit-or k m n ∙ ap₂ (λ (s t : Bool). s || t) e f

-- a word with the bits of a mask at 1, and at 0
pub raised : (w m k : ℕ) {t : Bool} → bit k m ≡ t → bit k (bit_or w m) ≡ pick t true (bit k w)
raised w m k {t} e = fields w m k refl e ∙ table (bit k w) t
  where
    table : (a t : Bool) → (a || t) ≡ pick t true a
    table true true = refl
    table true false = refl
    table false true = refl
    table false false = refl

pub cleared : (w m k : ℕ) {t : Bool} → bit k m ≡ t → bit k (clear_of w m) ≡ pick t false (bit k w)
cleared w m k {t} e = clear_bit k w m ∙ ap (λ (t : Bool). bit k w && not t) e ∙ table (bit k w) t
  where
    table : (a t : Bool) → (a && not t) ≡ pick t false a
    table true true = refl
    table true false = refl
    table false true = refl
    table false false = refl

-- ---- a word has a bit of them
pub has_or : (w m n : ℕ) → has_of w (bit_or m n) ≡ (has_of w m || has_of w n)
has_or w m n = ap (λ (x : ℕ). not (eqb x 0)) spread ∙ go (ℕ_discrete (bit_and w m) 0) (ℕ_discrete (bit_and w n) 0)
  where
    table : (a b c : Bool) → (a && (b || c)) ≡ ((a && b) || (a && c))
    table true b c = refl
    table false b c = refl

    spread : bit_and w (bit_or m n) ≡ bit_or (bit_and w m) (bit_and w n)
    spread = equal_by_bits _ _ (λ k. simp (bit-and, bit-or) (table (bit k w) (bit k m) (bit k n)))

    no_bit : bit_or (bit_and w m) (bit_and w n) ≡ 0 → (bit_and w m ≡ 0) × (bit_and w n ≡ 0)
    no_bit z =
        let x = bit_and w m in
        let y = bit_and w n in
        omega (arith, z, or_add_and x y, and_le_l x y, and_le_r x y)

    go : Dec (bit_and w m ≡ 0) → Dec (bit_and w n ≡ 0) → not (eqb (bit_or (bit_and w m) (bit_and w n)) 0) ≡ (has_of w m || has_of w n)
    go (yes e) (yes f) = rw (e, f)
    go (yes e) (no f) = rw (ne_eqb (bit_or (bit_and w m) (bit_and w n)) 0 (λ z. f (no_bit z).1), e, ne_eqb (bit_and w n) 0 f)
    go (no e) f = rw (ne_eqb (bit_or (bit_and w m) (bit_and w n)) 0 (λ z. e (no_bit z).0), ne_eqb (bit_and w m) 0 e)

-- a field of two bits is 3
pub both_bits : (j w : ℕ) → eqb (w / 2 ^ j % 4) 3 ≡ (bit (j + 1) w && bit j w)
both_bits j w =
    let low : j + 0 ≡ j = omega arith in
    below_four (λ x. eqb x 3 ≡ (bit 1 x && bit 0 x)) refl refl refl refl (w / 2 ^ j % 4) (mod-lt (w / 2 ^ j) (omega arith))
    ∙ ap₂ (λ (s t : Bool). s && t)
    (bit_low 2 1 (w / 2 ^ j) (omega arith) ∙ bit_high j 1 w)
    (bit_low 2 0 (w / 2 ^ j) (omega arith) ∙ (rw low at (bit_high j 0 w)))
