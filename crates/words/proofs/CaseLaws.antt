-- Numbers below four, one by one: the words of a quad, the bytes of a word, the four lanes; a number that is n or another; numbers of a range:
-- the registers. Assumes nothing.
use mathlib.Core.Path.{◌≡◌, subst, sym}
use Prim.Native.Nat.{ℕ, zero, suc, ◌+◌, ◌≤◌, ◌<◌}
use native.Mathlib.Decide.{ℕ_discrete}
use native.Mathlib.Omega.{arith}

-- what holds of 0 to 3 holds of each number below four
pub below_four : (P : ℕ → Type 0) → P 0 → P 1 → P 2 → P 3 → (k : ℕ) → k < 4 → P k
below_four P a b c d zero l = a
below_four P a b c d (suc zero) l = b
below_four P a b c d (suc (suc zero)) l = c
below_four P a b c d (suc (suc (suc zero))) l = d
below_four P a b c d (suc (suc (suc (suc k)))) l = absurd (omega arith)

-- what holds of n, and of k where it is another, holds of k
pub or_other : (P : ℕ → Type 0) (n k : ℕ) → P n → ((k ≡ n → ⊥) → P k) → P k
or_other P n k p other = go (ℕ_discrete k n)
  where
    go : Dec (k ≡ n) → P k
    go (yes e) = subst P (sym e) p
    go (no ne) = other ne

-- P holds of the n numbers from k on
abbrev Each : (ℕ → Type 0) → ℕ → ℕ → Type 0
Each P k zero = Unit
Each P k (suc n) = P k × Each P (suc k) n

-- so of each number among them
pub each : (P : ℕ → Type 0) (k n : ℕ) → Each P k n → (i : ℕ) → k ≤ i → i < k + n → P i
each P k zero h i low high = absurd (omega arith)
each P k (suc n) (p, rest) i low high = go (ℕ_discrete i k) (each P (suc k) n rest i)
  where
    go : Dec (i ≡ k) → (suc k ≤ i → i < suc k + n → P i) → P i
    go (yes e) later = rw e p
    go (no e) later = later (omega (arith, e)) (omega arith)
