-- A tabulated list by its length and its elements.
-- Assumes nothing.
use mathlib.Core.Path.{◌≡◌, refl, ap}
use Prim.Native.Nat.{ℕ, zero, suc, ◌<◌}
use native.Mathlib.Omega.{arith}
use lib.ListN.{length, get_or}
use Rattle.lanes.specs.Lanes.{tabulate}

pub tabulate_length : (f : ℕ → ℕ) (n : ℕ) → length (tabulate f n) ≡ n
tabulate_length f zero = refl
tabulate_length f (suc n) = ap suc (tabulate_length (λ i. f (suc i)) n)

pub tabulate_at : (f : ℕ → ℕ) (n i : ℕ) → i < n → get_or (tabulate f n) i 0 ≡ f i
tabulate_at f zero i h = absurd (omega arith)
tabulate_at f (suc n) zero h = refl
tabulate_at f (suc n) (suc i) h = tabulate_at (λ i. f (suc i)) n i (omega arith)
