-- Lists written by turns. Assumes nothing.
use Rattle.std.specs.Prelude.{◌≡◌, List, [], ℕ, ◌+◌, ◌*◌, ◌<◌, length, get_or}

-- n elements of each list by turns, from the front of the target: the first of each, then the second of each, and so on
abbrev pub Interleaved : List (List ℕ) → List ℕ → ℕ → Type 0
Interleaved lists target n =
    (k j : ℕ) → k < length lists → j < n → get_or target (length lists * j + k) 0 ≡ get_or (get_or lists k []) j 0
