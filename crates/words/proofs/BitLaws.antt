-- The laws of a word's bits: each operation bit by bit, and two words with the same bits are the same. None needs a bound on the words.
-- Assumes nothing.
use mathlib.Core.Path.{◌≡◌, refl, sym, ap, ap₂, ◌∙◌}
use Prim.Native.Nat.{ℕ, zero, suc, ◌+◌, ◌-◌, ◌*◌, ◌/◌, ◌%◌, ◌^◌, ◌≤◌, ◌<◌, min, max}
use native.Mathlib.Nat.{mod-lt, div_self, zero-lt-suc, zero-mul, one-mul, pow-suc, mul-div_cancel_left}
use native.Mathlib.Nat.{mul-mod_left, div-eq_of_lt, div-add-mod', div-one, mod-eq_of_lt, lt_of_lt_of_le}
use native.Mathlib.Omega.{arith}
use native.Mathlib.Numerals.{add-one, one-add}
use mathlib.Core.Bool.{Bool, true, false, not, ◌&&◌, ◌||◌}
use lib.Dec.{eqb, ltb}
use lib.Arith.{digits_mod, lt-one}
use lib.Pow.{pow_pos, pow-lt, pow-add, pow_mono, shr-shr, shr_lt, high_ones, field, mod-mod-pow}
use lib.Bits.{bit_and, bit_or, bit_xor, differ, and_step, or_step, xor_step, and_shr, or_shr, xor_shr, and_high, and_mask}
use borrow.Author.Tests.{ne_eqb, ltb-true, ltb-false}
use Rattle.words.specs.Word.{pick, bit, has_of, merge_of, clear_of}

-- two truth values differ
abbrev pub xor : Bool → Bool → Bool
xor true b = not b
xor false b = b

pub true_not_false : {A : Type 0} → true ≡ false → A
true_not_false e = let z : ◌≡◌ {A = ℕ} 0 1 = cc in absurd (omega arith)

two_pos : 0 < 2
two_pos = zero-lt-suc 1

odd : ℕ → Bool
odd n = eqb (n % 2) 1

-- what holds of 0 and 1 holds of each digit
digit : (P : ℕ → Type 0) → P 0 → P 1 → (x : ℕ) → x < 2 → P x
digit P a b zero h = a
digit P a b (suc zero) h = b
digit P a b (suc (suc x)) h = absurd (omega arith)

-- ---- each operation, bit by bit: f is the operation on digits, g on truth values
module _ (f : ℕ → ℕ → ℕ) (g : Bool → Bool → Bool) where
  Alike : ℕ → ℕ → Type 0
  Alike x y = (f x y < 2) × (eqb (f x y) 1 ≡ g (eqb x 1) (eqb y 1))

  alike : Alike 0 0 → Alike 0 1 → Alike 1 0 → Alike 1 1 → (x y : ℕ) → x < 2 → y < 2 → Alike x y
  alike a b c d x y h k = digit (λ x. Alike x y) (digit (Alike 0) a b y k) (digit (Alike 1) c d y k) x h

module _ (op f : ℕ → ℕ → ℕ) (g : Bool → Bool → Bool)
    (step : (a b : ℕ) → op a b ≡ op (a / 2) (b / 2) * 2 + f (a % 2) (b % 2))
    (shr : (a b k : ℕ) → op a b / 2 ^ k ≡ op (a / 2 ^ k) (b / 2 ^ k))
    (small : (x y : ℕ) → x < 2 → y < 2 → Alike f g x y) where
  op_odd : (a b : ℕ) → odd (op a b) ≡ g (odd a) (odd b)
  unfolding odd Alike
  op_odd a b =
      let s = small (a % 2) (b % 2) (mod-lt a two_pos) (mod-lt b two_pos) in
      ap odd (step a b) ∙ ap (λ (x : ℕ). eqb x 1) (digits_mod (op (a / 2) (b / 2)) s.0) ∙ s.1

  op_bit : (k a b : ℕ) → bit k (op a b) ≡ g (bit k a) (bit k b)
  unfolding odd
  op_bit k a b = ap odd (shr a b k) ∙ op_odd (a / 2 ^ k) (b / 2 ^ k)

pub bit-and : (k a b : ℕ) → bit k (bit_and a b) ≡ (bit k a && bit k b)
unfolding Alike
bit-and =
    op_bit bit_and min (λ x y. x && y) and_step and_shr
    (alike min (λ x y. x && y) (omega arith, refl) (omega arith, refl) (omega arith, refl) (omega arith, refl))

pub bit-or : (k a b : ℕ) → bit k (bit_or a b) ≡ (bit k a || bit k b)
unfolding Alike
bit-or =
    op_bit bit_or max (λ x y. x || y) or_step or_shr
    (alike max (λ x y. x || y) (omega arith, refl) (omega arith, refl) (omega arith, refl) (omega arith, refl))

pub bit-xor : (k a b : ℕ) → bit k (bit_xor a b) ≡ xor (bit k a) (bit k b)
unfolding Alike
bit-xor =
    op_bit bit_xor differ xor xor_step xor_shr
    (alike differ xor (omega arith, refl) (omega arith, refl) (omega arith, refl) (omega arith, refl))

-- ---- the law of merge: bit k of the merge is bit k of a where the mask has 1, else of b
pub merge_bit : (k mask a b : ℕ) → bit k (merge_of mask a b) ≡ pick (bit k mask) (bit k a) (bit k b)
merge_bit k mask a b = simp (bit-xor, bit-and) (table (bit k mask) (bit k a) (bit k b))
  where
    table : (m a b : Bool) → xor (xor a b && m) b ≡ pick m a b
    table true true true = refl
    table true true false = refl
    table true false true = refl
    table true false false = refl
    table false true true = refl
    table false true false = refl
    table false false true = refl
    table false false false = refl

pub clear_bit : (k w mask : ℕ) → bit k (clear_of w mask) ≡ (bit k w && not (bit k mask))
clear_bit k w mask = simp (bit-xor, bit-and) (table (bit k w) (bit k mask))
  where
    table : (a m : Bool) → xor (a && m) a ≡ (a && not m)
    table true true = refl
    table true false = refl
    table false m = refl

-- ---- two words with the same bits are the same
pub equal_below : (n a b : ℕ) → a < 2 ^ n → b < 2 ^ n → ((k : ℕ) → k < n → bit k a ≡ bit k b) → a ≡ b
equal_below zero a b ha hb e = lt-one ha ∙ sym (lt-one hb)
equal_below (suc n) a b ha hb e =
    sym (div-add-mod' a 2)
    ∙ ap₂ (λ (x y : ℕ). x * 2 + y)
    (equal_below n (a / 2) (b / 2) (half n a ha) (half n b hb) (λ k h. up a k ∙ e (suc k) (omega arith) ∙ sym (up b k)))
    (same (a % 2) (b % 2) (mod-lt a two_pos) (mod-lt b two_pos) (low a ∙ e 0 (omega arith) ∙ sym (low b)))
    ∙ div-add-mod' b 2
  where
    half : (n w : ℕ) → w < 2 ^ suc n → w / 2 < 2 ^ n
    half n w h = shr_lt n 1 (rw add-one h)

    up : (w k : ℕ) → bit k (w / 2) ≡ bit (suc k) w
    up w k = ap (λ (x : ℕ). eqb (x % 2) 1) (shr-shr w 1 k ∙ ap (λ (x : ℕ). w / 2 ^ x) (one-add k))

    low : (w : ℕ) → eqb (w % 2) 1 ≡ bit 0 w
    low w = ap (λ (x : ℕ). eqb (x % 2) 1) (sym (div-one w))

    same : (x y : ℕ) → x < 2 → y < 2 → eqb x 1 ≡ eqb y 1 → x ≡ y
    same x y h k =
        digit (λ x. eqb x 1 ≡ eqb y 1 → x ≡ y)
        (digit (λ y. eqb 0 1 ≡ eqb y 1 → 0 ≡ y) (λ e. refl) (λ e. true_not_false (sym e)) y k)
        (digit (λ y. eqb 1 1 ≡ eqb y 1 → 1 ≡ y) (λ e. true_not_false e) (λ e. refl) y k)
        x h

below_power : (a n : ℕ) → a ≤ n → a < 2 ^ n
below_power a zero h = omega arith
below_power a (suc n) h =
    let p : 0 < 2 ^ n = pow_pos n in
    let q : a - 1 < 2 ^ n = below_power (a - 1) n (omega arith) in
    rw (pow-suc 2 n) (omega arith)

pub equal_by_bits : (a b : ℕ) → ((k : ℕ) → bit k a ≡ bit k b) → a ≡ b
equal_by_bits a b e =
    equal_below (a + b) a b (below_power a (a + b) (omega arith)) (below_power b (a + b) (omega arith)) (λ k h. e k)

-- ---- a mask of one bit
pub bit_zero : (k : ℕ) → bit k 0 ≡ false
bit_zero k = ap (λ (x : ℕ). eqb (x % 2) 1) (div-eq_of_lt (pow_pos k))

pub bit_self : (k : ℕ) → bit k (2 ^ k) ≡ true
bit_self k = ap (λ (x : ℕ). eqb (x % 2) 1) (div_self (pow_pos k))

pub bit_other : (j k : ℕ) → (j ≡ k → ⊥) → bit k (2 ^ j) ≡ false
bit_other j k ne = go (ltb j k) refl
  where
    above : (i : ℕ) → bit k (2 ^ (k + suc i)) ≡ false
    above i =
        ap (λ (x : ℕ). eqb (x % 2) 1)
        (ap (λ (x : ℕ). x / 2 ^ k) (pow-add 2 k (suc i)) ∙ mul-div_cancel_left (2 ^ suc i) (pow_pos k) ∙ pow-suc 2 i)
        ∙ ap (λ (x : ℕ). eqb x 1) (mul-mod_left (2 ^ i) 2)

    go : (t : Bool) → ltb j k ≡ t → bit k (2 ^ j) ≡ false
    go true e = ap (λ (x : ℕ). eqb (x % 2) 1) (div-eq_of_lt (pow-lt (ltb-true j k e)))
    go false e =
        let h : k ≤ j = ltb-false j k e in
        let q : k + suc (j - suc k) ≡ j = omega arith in
        ap (λ (x : ℕ). bit k (2 ^ x)) (sym q) ∙ above (j - suc k)

-- ---- a word of ones, and parts of a word
pub ones_bit : (n k : ℕ) → k < n → bit k (2 ^ n - 1) ≡ true
ones_bit n k h =
    let kept : bit_and (2 ^ k) (2 ^ n - 1) ≡ 2 ^ k = and_mask (2 ^ k) n ∙ mod-eq_of_lt (pow-lt h) in
    ap (λ (t : Bool). t && bit k (2 ^ n - 1)) (sym (bit_self k)) ∙ sym (bit-and k (2 ^ k) (2 ^ n - 1)) ∙ ap (bit k) kept ∙ bit_self k

pub bit_above : (n k w : ℕ) → w < 2 ^ n → n ≤ k → bit k w ≡ false
bit_above n k w h l = ap (λ (x : ℕ). eqb (x % 2) 1) (div-eq_of_lt (lt_of_lt_of_le h (pow_mono l)))

-- bit k of the low n bits, and of what is above them
pub bit_low : (n k w : ℕ) → k < n → bit k (w % 2 ^ n) ≡ bit k w
bit_low n k w h =
    let e : n ≡ (n - suc k) + 1 + k = omega arith in
    ap (λ (x : ℕ). eqb (x % 2) 1) (ap (λ (x : ℕ). w % 2 ^ x / 2 ^ k) e ∙ field w ((n - suc k) + 1) k)
    ∙ ap (λ (x : ℕ). eqb x 1) (mod-mod-pow (w / 2 ^ k) (n - suc k) 1)

pub bit_high : (n k w : ℕ) → bit k (w / 2 ^ n) ≡ bit (n + k) w
bit_high n k w = ap (λ (x : ℕ). eqb (x % 2) 1) (shr-shr w n k)

-- the code's test of one bit, `w & 0x4000 != 0`
pub has_bit : (k w : ℕ) → has_of w (2 ^ k) ≡ bit k w
has_bit k w =
    ap (λ (n : ℕ). not (eqb n 0)) (ap (bit_and w) (sym (high_ones 1 k ∙ one-mul (2 ^ k))) ∙ and_high w 1 k)
    ∙ digit (λ x. not (eqb (x * 2 ^ k) 0) ≡ eqb x 1)
    (ap (λ (n : ℕ). not (eqb n 0)) (zero-mul (2 ^ k)))
    (ap (λ (n : ℕ). not (eqb n 0)) (one-mul (2 ^ k)) ∙ ap not (ne_eqb (2 ^ k) 0 (λ e. omega (arith, pow_pos k))))
    (w / 2 ^ k % 2) (mod-lt (w / 2 ^ k) two_pos)
