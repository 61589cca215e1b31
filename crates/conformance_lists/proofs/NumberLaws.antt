-- What `parse` gives is the number of a text with no plus sign in front.
-- Assumes nothing.
use Rattle.std.proofs.Common.{ℕ, List, ◌≡◌, ◌≢◌, true, get_or, Result, Ok, Err, arith}
use Rattle.std.specs.Result.{result_ok}
use Rattle.std.specs.Str.{all_ascii_digits}
use Rattle.std.specs.Str.Parse.{ParsesUnsigned, digits_value}
use Rattle.std.proofs.lemmas.Grind.{common_steps}
use Rattle.std.proofs.lemmas.Str.Parse.{IsNumeralModel, numerals_by_value, tells_all_ascii_digits, parse_plain}
use Rattle.conformance_lists.specs.Numbers.{number_of}

own : IsNumeralModel (λ ds. all_ascii_digits ds ≡ true) (digits_value 10)
own = numerals_by_value _ tells_all_ascii_digits

pub parsed : {E : Type 0} (bs : List ℕ) (r : Result ℕ E) → ParsesUnsigned 32 10 bs r → get_or bs 0 0 ≢ 43 → result_ok r ≡ number_of bs
parsed {E} bs (Ok n) h plain = let p = parse_plain own {E = E} 32 bs (Ok n) h plain in grind (arith, common_steps)
parsed {E} bs (Err e) h plain = let p = parse_plain own {E = E} 32 bs (Err e) h plain in grind (arith, common_steps)
