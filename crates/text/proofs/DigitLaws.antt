-- How many digits a number has, and which stands where.
-- Assumes nothing.
use mathlib.Core.Path.{◌≡◌, refl}
use mathlib.Core.List.{List, [], ◌∷◌}
use mathlib.Core.Logic.{◌⊎◌, inl, inr}
use Prim.Native.Nat.{ℕ, zero, suc, ◌+◌, ◌-◌, ◌*◌, ◌/◌, ◌%◌, ◌^◌, ◌≤◌, ◌<◌, max}
use native.Mathlib.Nat.{mod-lt, div-one, div-div-eq-div-mul, pow-zero, pow-succ', pow-le-pow_right}
use native.Mathlib.Decide.{dec_le}
use native.Mathlib.Omega.{arith}
use borrow.Author.Tests.{lt-ltb, le-ltb}
use lib.ListN.{length, get_or, set, length-append, get_or-append}
use lib.Seq.{sets, get_or_at}
use Rattle.text.specs.Digits.{digit_of, digits_of, width_within, width_of}
use Rattle.text.proofs.BufferLaws.{sets_append, sets_past}

-- so many digits as asked for
pub digits_length : (base n k : ℕ) → length (digits_of base n k) ≡ k
digits_length base n zero = refl
digits_length base n (suc k) =
    rw (length-append (digits_of base (n / base) k) (digit_of (n % base) ∷ []), digits_length base (n / base) k) (omega arith)

-- digit k, counted from the right
pub digit_in : (base n width k : ℕ) → k < width → get_or (digits_of base n width) (width - 1 - k) 0 ≡ digit_of (n / base ^ k % base)
digit_in base n zero k l = absurd (omega arith)
digit_in base n (suc width) zero l =
    let others = digits_of base (n / base) width in
    let place : suc width - 1 - 0 ≡ width = omega arith in
    rw (
      place,
      get_or_at others (digit_of (n % base)) [] 0 width (digits_length base (n / base) width),
      pow-zero base,
      div-one n,
    )
digit_in base n (suc width) (suc k) l =
    let others = digits_of base (n / base) width in
    let place : suc width - 1 - suc k ≡ width - 1 - k = omega arith in
    rw (
      place,
      get_or-append others (digit_of (n % base) ∷ []) 0 (width - 1 - k) (omega (arith, digits_length base (n / base) width)),
      digit_in base (n / base) width k (omega arith),
      div-div-eq-div-mul n base (base ^ k),
      pow-succ' base k,
    )

-- so in base ten
pub digit_at : (n width k : ℕ) → k < width → get_or (digits_of 10 n width) (width - 1 - k) 0 ≡ 48 + n / 10 ^ k % 10
unfolding digit_of
digit_at n width k l = rw (digit_in 10 n width k l, lt-ltb (n / 10 ^ k % 10) 10 (mod-lt (n / 10 ^ k) (omega arith)))

-- enough divisions are enough
within_enough : (a b n : ℕ) → n ≤ a → n ≤ b → width_within a n ≡ width_within b n
within_enough zero zero n la lb = refl
within_enough zero (suc b) n la lb = rw (lt-ltb n 10 (omega arith))
within_enough (suc a) zero n la lb = rw (lt-ltb n 10 (omega arith))
within_enough (suc a) (suc b) n la lb = go (dec_le 10 n) (within_enough a b (n / 10))
  where
    go : Dec (10 ≤ n) → (n / 10 ≤ a → n / 10 ≤ b → width_within a (n / 10) ≡ width_within b (n / 10)) → width_within (suc a) n ≡ width_within (suc b) n
    go (yes l) same = rw (le-ltb n 10 l, same (omega arith) (omega arith))
    go (no l) same = rw (lt-ltb n 10 (omega arith))

pub width_one : (n : ℕ) → n < 10 → width_of n ≡ 1
unfolding width_of
width_one zero l = refl
width_one (suc n) l = rw (lt-ltb (suc n) 10 l)

width_more : (n : ℕ) → 10 ≤ n → width_of n ≡ suc (width_of (n / 10))
unfolding width_of
width_more zero l = absurd (omega arith)
width_more (suc n) l = rw (le-ltb (suc n) 10 l, within_enough n (suc n / 10) (suc n / 10) (omega arith) (omega arith))

-- what holds below ten, and of n where it holds of n / 10, holds of every number
by_digits : (P : ℕ → Type 0) → ((n : ℕ) → n < 10 → P n) → ((n : ℕ) → 10 ≤ n → P (n / 10) → P n) → (most n : ℕ) → n ≤ most → P n
by_digits P low more zero n l = low n (omega arith)
by_digits P low more (suc most) n l = go (dec_le 10 n) (by_digits P low more most (n / 10))
  where
    go : Dec (10 ≤ n) → (n / 10 ≤ most → P (n / 10)) → P n
    go (yes h) below = more n h (below (omega arith))
    go (no h) below = low n (omega arith)

-- every number has a digit
width_some : (n : ℕ) → 0 < width_of n
width_some n = by_digits (λ (m : ℕ). 0 < width_of m) (λ m l. rw (width_one m l) (omega arith)) (λ m l h. rw (width_more m l) (omega arith)) n n (omega arith)

-- the digits hold the number
pub width_holds : (n : ℕ) → n < 10 ^ width_of n
width_holds n =
    by_digits (λ (m : ℕ). m < 10 ^ width_of m)
    (λ m l. rw (width_one m l) l)
    (λ m l h. rw (width_more m l) (omega (arith, h)))
    n n (omega arith)

-- and no fewer would, but that 0 has one digit
pub width_fewest : (n : ℕ) → 0 < n → 10 ^ (width_of n - 1) ≤ n
width_fewest n =
    by_digits (λ (m : ℕ). 0 < m → 10 ^ (width_of m - 1) ≤ m)
    (λ m l h. rw (width_one m l) h)
    (λ m l below h.
    let e : width_of m - 1 ≡ suc (width_of (m / 10) - 1) = omega (arith, width_more m l, width_some (m / 10)) in
    rw e (omega (arith, below (omega arith))))
    n n (omega arith)

-- so the digit of 1 is among them, and that of each power of ten that the number reaches
pub width_above : (n k : ℕ) → (k ≡ 0) ⊎ (10 ^ k ≤ n) → k < width_of n
width_above n k (inl e) = omega (arith, e, width_some n)
width_above n k (inr h) = go (dec_le (suc k) (width_of n))
  where
    go : Dec (k < width_of n) → k < width_of n
    go (yes l) = l
    go (no l) = absurd (omega (arith, width_holds n, pow-le-pow_right {n = 10} (omega arith) {i = width_of n} {j = k} (omega arith), h))

-- a number below a power of ten has no more digits than its exponent
pub width_at_most : (k n : ℕ) → n < 10 ^ suc k → width_of n ≤ suc k
width_at_most zero n l = rw (width_one n l) (omega arith)
width_at_most (suc k) n l = go (dec_le 10 n) (width_at_most k (n / 10))
  where
    go : Dec (10 ≤ n) → (n / 10 < 10 ^ suc k → width_of (n / 10) ≤ suc k) → width_of n ≤ suc (suc k)
    go (yes h) below = rw (width_more n h) (omega (arith, below (omega (arith, l))))
    go (no h) below = rw (width_one n (omega arith)) (omega arith)

-- a number of 64 bits
pub width_twenty : (n : ℕ) → n < 2 ^ 64 → width_of n ≤ 20
width_twenty n l = width_at_most 19 n (omega arith)

-- the last digit first, and then the others
pub put_digit : (out : List ℕ) (at base rest left : ℕ) → 0 < left
    → sets (set out (at + (left - 1)) (digit_of (rest % base))) at (digits_of base (rest / base) (left - 1)) ≡ sets out at (digits_of base rest left)
put_digit out at base rest zero l = absurd (omega arith)
put_digit out at base rest (suc k) l =
    let others = digits_of base (rest / base) k in
    let e : length others ≡ k = digits_length base (rest / base) k in
    let s : suc k - 1 ≡ k = omega arith in
    rw (
      s,
      sets_append out at others (digit_of (rest % base) ∷ []),
      e,
    ) (sets_past out at others (at + k) (digit_of (rest % base)) (omega (arith, e)))

-- the digits of a number by the powers of ten on both sides of it; 0 has the one digit of 1
pub width_between : (n k : ℕ) → 10 ^ k ≤ max n 1 → max n 1 < 10 * 10 ^ k → k + 1 ≡ width_of n
width_between zero k low high = omega (arith, width_above 1 k (inr low), width_one 0 (omega arith), width_one 1 (omega arith))
width_between (suc n) k low high = omega (arith, width_above (suc n) k (inr (omega arith)), width_at_most k (suc n) (omega arith))
