-- The least wait by several windows is the smallest of the least waits by each.
-- Assumes nothing.
use mathlib.Core.Path.{◌≡◌}
use mathlib.Core.List.{List}
use Prim.Native.Nat.{ℕ, suc, ◌+◌, min}
use native.Mathlib.Numerals.{add-one}
use Rattle.planner.specs.Windows.{week, window_at}
use Rattle.words.specs.Word.{first_from}
use Rattle.planner.specs.Planner.{fits_in_of, fits_of, least_wait_of}
use Rattle.words.proofs.FirstLaws.{first_below, first_is, first_never, first_either}

module _ (minute duration : ℕ) (lent : List ℕ) where
  pub least_none : week ≡ least_wait_of minute duration lent 0
  least_none = first_is (fits_of minute duration lent 0) week week (first_never week)

  -- the least wait by window i alone
  abbrev least_at : ℕ → ℕ
  least_at i = first_from (fits_in_of minute duration (window_at lent i)) 0 week

  pub least_more : (i : ℕ) → min (least_wait_of minute duration lent i) (least_at i) ≡ least_wait_of minute duration lent (i + 1)
  least_more i =
      rw (add-one i)
      (first_is (fits_of minute duration lent (suc i)) week (min (least_wait_of minute duration lent i) (least_at i))
      (first_either (fits_of minute duration lent i) (fits_in_of minute duration (window_at lent i)) week (least_wait_of minute duration lent i) (least_at i)
      (first_below (fits_of minute duration lent i) week)
      (first_below (fits_in_of minute duration (window_at lent i)) week)))
