-- Lists of numbers by their entries. Assumes nothing.
use Rattle.std.specs.Prelude.{ℕ, ◌<◌, ◌≡◌, List, length, get_or}

-- j is entry `at` of a list
pub record In (l : List ℕ) (j : ℕ) : Type 0 where
  pub at : ℕ
  pub inside : at < length l
  pub is : get_or l at 0 ≡ j

abbrev pub Rising : List ℕ → Type 0
Rising l = (p q : ℕ) → p < q → q < length l → get_or l p 0 < get_or l q 0

-- the numbers below n of which P holds, ascending: no other, and none is missing
pub record Ascending (P : ℕ → Type 0) (n : ℕ) (l : List ℕ) : Type 0 where
  pub only : (k : ℕ) → k < length l → (get_or l k 0 < n) × P (get_or l k 0)
  pub rising : Rising l
  pub all : (i : ℕ) → i < n → P i → In l i
