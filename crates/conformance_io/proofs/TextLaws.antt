-- What is written number by number is the whole text. Assumes nothing.
use mathlib.Core.Path.{◌≡◌, sym, ap, ◌∙◌}
use mathlib.Core.List.{List, [], ◌∷◌, ◌++◌, append_assoc}
use Prim.Native.Nat.{ℕ, ◌+◌, ◌<◌}
use lib.ListN.{length, get_or, take}
use Rattle.std.specs.Fmt.{decimal}
use Rattle.std.proofs.lemmas.List.{take_more, append-nil}
use Rattle.conformance_io.specs.Text.{following}

-- one number more
following_more : (before : List ℕ) (number : ℕ) → following (before ++ (number ∷ [])) ≡ following before ++ (32 ∷ decimal number)
following_more [] number = ap (λ (text : List ℕ). 32 ∷ text) (append-nil (decimal number))
following_more (first ∷ before) number =
    ap (λ (text : List ℕ). 32 ∷ (decimal first ++ text)) (following_more before number)
    ∙ ap (λ (text : List ℕ). 32 ∷ text) (sym (append_assoc (decimal first) (following before) (32 ∷ decimal number)))

pub following_next : (numbers : List ℕ) (i : ℕ) → i < length numbers
    → following (take i numbers) ++ (32 ∷ decimal (get_or numbers i 0)) ≡ following (take (i + 1) numbers)
following_next numbers i l = sym (ap following (take_more numbers i 0 l) ∙ following_more (take i numbers) (get_or numbers i 0))
