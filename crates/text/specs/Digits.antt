-- Numbers as the bytes of their digits. Assumes nothing.
use Rattle.std.specs.Prelude.{ℕ, zero, suc, ◌+◌, ◌/◌, ◌%◌, List, [], ◌∷◌, ◌++◌, ltb}
use Rattle.words.specs.Word.{pick}

-- the ASCII code of a digit: 0 to 9, then capitals from A
unfoldable pub digit_of : ℕ → ℕ
digit_of d = pick (ltb d 10) (48 + d) (55 + d)

-- the last k digits of n in a base, the highest first
abbrev pub digits_of : ℕ → ℕ → ℕ → List ℕ
digits_of base n zero = []
digits_of base n (suc k) = digits_of base (n / base) k ++ (digit_of (n % base) ∷ [])

-- the decimal digits of n, found in at most so many divisions by ten
abbrev pub width_within : ℕ → ℕ → ℕ
width_within zero n = 1
width_within (suc most) n = pick (ltb n 10) 1 (suc (width_within most (n / 10)))

-- how many decimal digits n has: as many divisions as n are enough (`width_holds` and `width_fewest` of proofs/DigitLaws)
unfoldable pub width_of : ℕ → ℕ
width_of n = width_within n n
