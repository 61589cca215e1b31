-- A word by its bits. Assumes nothing.
use Rattle.std.specs.Prelude.{ℕ, zero, suc, ◌/◌, ◌%◌, ◌^◌, Bool, true, false, not, ◌&&◌, ◌||◌, eqb}
use Rattle.std.specs.Int.Bits.{bit_and, bit_xor}

-- a where the test holds, else b
abbrev pub pick : {A : Type 0} → Bool → A → A → A
pick true a b = a
pick false a b = b

-- bit k of w, counted from the lowest
abbrev pub bit : ℕ → ℕ → Bool
bit k w = eqb (w / 2 ^ k % 2) 1

-- a word of all ones, as erasing leaves it
abbrev pub all_ones : ℕ
all_ones = 0xFFFF_FFFF

-- w has a bit of the mask (at a mask of one bit: `has_bit` of proofs/BitLaws)
abbrev pub has_of : ℕ → ℕ → Bool
has_of w mask = not (eqb (bit_and w mask) 0)

-- bit by bit, a where the mask is 1, else b (`merge_bit` of proofs/BitLaws says so of each bit)
abbrev pub merge_of : ℕ → ℕ → ℕ → ℕ
merge_of mask a b = bit_xor (bit_and (bit_xor a b) mask) b

-- w with the bits of the mask at 0 (`clear_bit` of proofs/BitLaws says so of each bit)
abbrev pub clear_of : ℕ → ℕ → ℕ
clear_of w mask = bit_xor (bit_and w mask) w

-- p holds of every number below n
abbrev pub all_below : (ℕ → Bool) → ℕ → Bool
all_below p zero = true
all_below p (suc n) = all_below p n && p n

-- p holds of a number below n
abbrev pub any_below : (ℕ → Bool) → ℕ → Bool
any_below p zero = false
any_below p (suc n) = any_below p n || p n

-- the first of so many numbers from k on of which p holds; the number after them where it holds of none
unfoldable pub first_from : (ℕ → Bool) → ℕ → ℕ → ℕ
first_from p k zero = k
first_from p k (suc more) = pick (p k) k (first_from p (suc k) more)
