-- A block of words taken back from their lanes. Assumes nothing.
use Rattle.std.specs.Prelude.{◌≡◌, List, ℕ, ◌+◌, ◌*◌, ◌≤◌, ◌<◌, get_or}

-- byte k of word j is byte j of lane k, for each word of the block, and the words before it are as before
pub record WordsBack (lanes before after : List ℕ) (n from to : ℕ) : Type 0 where
  pub back : (k j : ℕ) → k < 4 → from ≤ j → j < to → get_or after (4 * j + k) 0 ≡ get_or lanes (k * n + j) 0
  pub earlier : (i : ℕ) → i < 4 * from → get_or after i 0 ≡ get_or before i 0
