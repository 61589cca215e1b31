-- A list after stores at some places: each of them has what was stored, and every other place is as before.
-- Assumes nothing.
use mathlib.Core.Path.{◌≡◌, refl, ◌∙◌}
use mathlib.Core.List.{List}
use Prim.Native.Nat.{ℕ, zero, suc, ◌≤◌, ◌<◌}
use native.Mathlib.Decide.{dec_le}
use native.Mathlib.Omega.{arith}
use lib.ListN.{length, get_or, set, length-set}
use lib.Seq.{get_or-set_same, get_or-set_other}

-- the list l with v k at the place p k, for each k below c
abbrev pub put : List ℕ → (ℕ → ℕ) → (ℕ → ℕ) → ℕ → List ℕ
put l p v zero = l
put l p v (suc c) = set (put l p v c) (p c) (v c)

put_length : (l : List ℕ) (p v : ℕ → ℕ) (c : ℕ) → length (put l p v c) ≡ length l
put_length l p v zero = refl
put_length l p v (suc c) = length-set (put l p v c) (p c) (v c) ∙ put_length l p v c

pub put_other : (l : List ℕ) (p v : ℕ → ℕ) (c x : ℕ) → ((k : ℕ) → k < c → x ≡ p k → ⊥) → get_or (put l p v c) x 0 ≡ get_or l x 0
put_other l p v zero x other = refl
put_other l p v (suc c) x other =
    get_or-set_other (put l p v c) (p c) x (v c) 0 (other c (omega arith)) ∙ put_other l p v c x (λ k h. other k (omega arith))

pub put_same : (l : List ℕ) (p v : ℕ → ℕ) (c k : ℕ) → ((i j : ℕ) → i < c → j < c → p i ≡ p j → i ≡ j) → p k < length l → k < c
    → get_or (put l p v c) (p k) 0 ≡ v k
put_same l p v zero k apart inside h = absurd (omega arith)
put_same l p v (suc c) k apart inside h = go (dec_le c k) (put_same l p v c k (λ i j a b. apart i j (omega arith) (omega arith)) inside)
  where
    go : Dec (c ≤ k) → (k < c → get_or (put l p v c) (p k) 0 ≡ v k) → get_or (put l p v (suc c)) (p k) 0 ≡ v k
    go (yes last) before =
        let e : k ≡ c = omega arith in
        let within : p k < length (put l p v c) = rw (put_length l p v c) inside in
        rw e (get_or-set_same (put l p v c) (p c) (v c) 0 (rw e at within))
    go (no below) before =
        let other : p k ≡ p c → ⊥ = λ e. omega (arith, apart k c h (omega arith) e) in
        get_or-set_other (put l p v c) (p c) (p k) (v c) 0 other ∙ before (omega arith)
