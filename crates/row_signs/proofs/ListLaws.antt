-- The first n elements of a list, in the words of the library: a test of each, of one, and the entries of a queue. Assumes nothing.
use Rattle.std.proofs.Common.{ℕ, zero, suc, ◌≤◌, ◌≡◌, ◌∙◌, refl, Bool, List, length, get_or, take, arith, add-one}
use Rattle.std.proofs.Math.Seq.{take-suc}
use Rattle.std.specs.List.{list_any, list_all}
use Rattle.std.proofs.lemmas.List.Folds.{list_any_more, list_all_more}
use Rattle.words.specs.Word.{any_below, all_below}
use Rattle.row_signs.specs.Signs.{entries_of}

module _ {X : Type 0} (p : X → Bool) (xs : List X) (d : X) where
  pub any_taken : (n : ℕ) → n ≤ length xs → list_any p (take n xs) ≡ any_below (λ k. p (get_or xs k d)) n
  any_taken zero few = refl
  any_taken (suc n) few = rw (add-one n) at (list_any_more p xs n d (omega arith)) ∙ rw (any_taken n (omega arith))

  pub all_taken : (n : ℕ) → n ≤ length xs → list_all p (take n xs) ≡ all_below (λ k. p (get_or xs k d)) n
  all_taken zero few = refl
  all_taken (suc n) few = rw (add-one n) at (list_all_more p xs n d (omega arith)) ∙ rw (all_taken n (omega arith))

pub entries_taken : (numbers : List ℕ) (n : ℕ) → n ≤ length numbers → entries_of numbers n ≡ take n numbers
entries_taken numbers zero few = refl
entries_taken numbers (suc n) few = rw (take-suc numbers n 0 (omega arith), entries_taken numbers n (omega arith)) refl
