-- The search meets each record once: the record it meets after i others, and how many it meets before record j, undo one another. Assumes nothing.
use mathlib.Core.Path.{◌≡◌, ap, ◌∙◌}
use Prim.Native.Nat.{ℕ, ◌+◌, ◌-◌, ◌%◌, ◌<◌}
use native.Mathlib.Nat.{mod-lt, mod-eq_of_lt, mod-add-mod, add-mod-mod, add-mod_right}
use native.Mathlib.Omega.{arith}
use Rattle.row_choice.specs.Choice.{met_of, before_of}

module _ (n last : ℕ) (inside : last < n) where
  pub met_below : (i : ℕ) → met_of n last i < n
  met_below i = mod-lt (last + 1 + i) (omega arith)

  pub before_below : (j : ℕ) → before_of n last j < n
  before_below j = mod-lt (j + (n - 1 - last)) (omega arith)

  -- what is a turn round the list from a record is that record
  round : (j m : ℕ) → j < n → m ≡ j + n → m % n ≡ j
  round j m below e = ap (λ (k : ℕ). k % n) e ∙ add-mod_right j n ∙ mod-eq_of_lt below

  pub met_before : (j : ℕ) → j < n → met_of n last (before_of n last j) ≡ j
  met_before j below = add-mod-mod (last + 1) (j + (n - 1 - last)) n ∙ round j (last + 1 + (j + (n - 1 - last))) below (omega arith)

  pub before_met : (i : ℕ) → i < n → before_of n last (met_of n last i) ≡ i
  before_met i below = mod-add-mod (last + 1 + i) n (n - 1 - last) ∙ round i (last + 1 + i + (n - 1 - last)) below (omega arith)
