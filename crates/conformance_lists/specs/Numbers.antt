-- Decimal numbers as bytes. Assumes nothing.
use Rattle.std.specs.Prelude.{ℕ, List, length, Option, Some, None, ltb, ◌&&◌, cond, ◌^◌}
use Rattle.std.specs.Str.{all_ascii_digits}
use Rattle.std.specs.Str.Parse.{digits_value}

-- the number that bytes make: digits alone, at least one, and below 2^32
abbrev pub number_of : List ℕ → Option ℕ
number_of bytes =
    cond (all_ascii_digits bytes && (ltb 0 (length bytes) && ltb (digits_value 10 bytes) (2 ^ 32))) (Some (digits_value 10 bytes)) None
