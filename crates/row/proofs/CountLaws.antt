-- Two counts of records of which all but one agree. Assumes nothing.
use Prim.Native.Nat.{ℕ, zero, suc, ◌+◌, ◌≤◌}
use mathlib.Core.Path.{◌≡◌, refl, sym}
use mathlib.Core.Bool.{Bool, true, false}
use native.Mathlib.Omega.{arith}
use native.Mathlib.Decide.{ℕ_discrete}
use Rattle.words.specs.Word.{pick}
use Rattle.words.proofs.BitLaws.{true_not_false}
use Rattle.row_choice.specs.Choice.{count_of}

at_most_one : (t : Bool) → pick t 1 0 ≤ 1
at_most_one true = omega arith
at_most_one false = omega arith

no_more : (t u : Bool) → (t ≡ true → u ≡ true) → pick t 1 0 ≤ pick u 1 0
no_more true true h = omega arith
no_more true false h = true_not_false (sym (h refl))
no_more false u h = omega arith

module _ (p q : ℕ → Bool) (x : ℕ) (agree : (j : ℕ) → (j ≡ x → ⊥) → q j ≡ p j) where
  count_before : (n : ℕ) → n ≤ x → count_of q n ≡ count_of p n
  count_before zero l = refl
  count_before (suc n) l = rw (agree n (λ e. omega (arith, l, e)), count_before n (omega (arith, l))) refl

  -- at most one more is counted
  pub count_one_more : (n : ℕ) → count_of q n ≤ count_of p n + 1
  count_one_more zero = omega arith
  count_one_more (suc n) = go (ℕ_discrete n x) (count_one_more n)
    where
      go : Dec (n ≡ x) → count_of q n ≤ count_of p n + 1 → count_of q (suc n) ≤ count_of p (suc n) + 1
      go (yes e) earlier = omega (arith, count_before n (omega (arith, e)), at_most_one (q n))
      go (no e) earlier = rw (agree n e) (omega (arith, earlier))

  -- and none where the one that differs is not counted anew
  pub count_no_more : (q x ≡ true → p x ≡ true) → (n : ℕ) → count_of q n ≤ count_of p n
  count_no_more h zero = omega arith
  count_no_more h (suc n) = go (ℕ_discrete n x) (count_no_more h n)
    where
      go : Dec (n ≡ x) → count_of q n ≤ count_of p n → count_of q (suc n) ≤ count_of p (suc n)
      go (yes e) earlier = omega (arith, earlier, no_more (q n) (p n) (rw e h))
      go (no e) earlier = rw (agree n e) (omega (arith, earlier))
