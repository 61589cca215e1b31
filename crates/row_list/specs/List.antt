-- W-206: a lent list of records, gathered by value. Assumes nothing.
use Rattle.std.specs.Prelude.{ℕ, zero, suc, List, ltb}
use Rattle.words.specs.Word.{pick}
use Rattle.row_signs.specs.declared.sign.Sign.{Sign}
use Rattle.row_signs.specs.Signs.{Row, sign_at, no_signs, with_sign}

-- how many records of a list of n are gathered
abbrev pub at_most : ℕ → ℕ
at_most n = pick (ltb 32 n) 32 n

-- the first n records of a list, by value
abbrev pub gathered : List Sign → ℕ → Row
gathered signs zero = no_signs
gathered signs (suc n) = with_sign (gathered signs n) n (sign_at signs n)
