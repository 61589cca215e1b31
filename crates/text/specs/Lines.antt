-- The lines that a play prints. Assumes nothing.
use Rattle.std.specs.Prelude.{ℕ, zero, suc, ◌+◌, Bool, List, [], ◌∷◌, ◌++◌}
use Rattle.words.specs.Word.{pick}
use Rattle.text.specs.Digits.{digits_of, width_of}

abbrev pub blank : ℕ
blank = 32

abbrev pub line_feed : ℕ
line_feed = 10

-- digits, and the byte that ends them
abbrev pub column_of : ℕ → ℕ → ℕ → ℕ → List ℕ
column_of base n k end = digits_of base n k ++ (end ∷ [])

abbrev pub decimal_of : ℕ → ℕ → List ℕ
decimal_of n end = column_of 10 n (width_of n) end

-- "event 0 or 1"
abbrev pub flag_of : Bool → ℕ
flag_of event = pick event 1 0

-- "number from 0, answer (0 or refusal), NVMCON in eight hexadecimal capitals, event 0 or 1; one blank between, a line feed after, other
-- numbers decimal"
unfoldable pub line_of : ℕ → ℕ → ℕ → Bool → List ℕ
line_of i answer con event =
    decimal_of i blank ++ (decimal_of answer blank ++ (column_of 16 con 8 blank ++ decimal_of (flag_of event) line_feed))

-- the bytes of so many lines, from line 0, each with an answer of one digit
abbrev pub lines_length_of : ℕ → ℕ
lines_length_of zero = 0
lines_length_of (suc i) = lines_length_of i + (width_of i + 14)
