-- Sums over the first n records: one that rises by 1 raises it by 1, and a sum of n × most of numbers up to most has that everywhere. Assumes nothing.
use Prim.Native.Nat.{ℕ, zero, suc, ◌+◌, ◌*◌, ◌≤◌, ◌<◌}
use mathlib.Core.Path.{◌≡◌, refl}
use native.Mathlib.Decide.{ℕ_discrete}
use native.Mathlib.Nat.{suc-mul}
use native.Mathlib.Omega.{arith}

abbrev pub sum_of : (ℕ → ℕ) → ℕ → ℕ
sum_of f zero = 0
sum_of f (suc n) = sum_of f n + f n

sum_same : (f h : ℕ → ℕ) (n : ℕ) → ((j : ℕ) → j < n → h j ≡ f j) → sum_of h n ≡ sum_of f n
sum_same f h zero same = refl
sum_same f h (suc n) same = rw (same n (omega arith), sum_same f h n (λ j l. same j (omega (arith, l)))) refl

pub sum_zero : (f : ℕ → ℕ) (n : ℕ) → ((j : ℕ) → j < n → f j ≡ 0) → sum_of f n ≡ 0
sum_zero f zero none = refl
sum_zero f (suc n) none = omega (arith, sum_zero f n (λ j l. none j (omega (arith, l))), none n (omega arith))

pub sum_one_more : (f h : ℕ → ℕ) (x : ℕ) → ((j : ℕ) → (j ≡ x → ⊥) → h j ≡ f j) → h x ≡ f x + 1 → (n : ℕ) → x < n → sum_of h n ≡ sum_of f n + 1
sum_one_more f h x same more zero l = absurd (omega (arith, l))
sum_one_more f h x same more (suc n) l = go (ℕ_discrete n x) (sum_one_more f h x same more n)
  where
    go : Dec (n ≡ x) → (x < n → sum_of h n ≡ sum_of f n + 1) → sum_of h (suc n) ≡ sum_of f (suc n) + 1
    go (yes e) earlier =
        let before : sum_of h n ≡ sum_of f n = sum_same f h n (λ j below. same j (λ is. omega (arith, is, e, below))) in
        let here : h n ≡ f n + 1 = rw e more in
        omega (arith, before, here)
    go (no e) earlier = omega (arith, earlier (omega (arith, l, e)), same n e)

sum_most : (f : ℕ → ℕ) (most n : ℕ) → ((j : ℕ) → j < n → f j ≤ most) → sum_of f n ≤ n * most
sum_most f most zero all = omega arith
sum_most f most (suc n) all =
    omega (arith, suc-mul n most, sum_most f most n (λ j l. all j (omega (arith, l))), all n (omega arith))

pub sum_full : (f : ℕ → ℕ) (most n : ℕ) → ((j : ℕ) → j < n → f j ≤ most) → sum_of f n ≡ n * most → (j : ℕ) → j < n → f j ≡ most
sum_full f most zero all e j l = absurd (omega (arith, l))
sum_full f most (suc n) all e j l = go (ℕ_discrete j n) (sum_full f most n (λ j l. all j (omega (arith, l))))
  where
    below : sum_of f n ≤ n * most
    below = sum_most f most n (λ j l. all j (omega (arith, l)))

    go : Dec (j ≡ n) → (sum_of f n ≡ n * most → (j : ℕ) → j < n → f j ≡ most) → f j ≡ most
    go (yes is) earlier = rw is (omega (arith, e, suc-mul n most, below, all n (omega arith)))
    go (no other) earlier =
        earlier (omega (arith, e, suc-mul n most, below, all n (omega arith))) j (omega (arith, l, other))
