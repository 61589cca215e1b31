-- A number below n of which a test holds, and the first: there is only one, and of two tests it is the smaller of both.
-- Assumes nothing.
use mathlib.Core.Path.{◌≡◌, refl, sym, ◌∙◌}
use mathlib.Core.Bool.{Bool, true, false, ◌||◌, or-true}
use Prim.Native.Nat.{ℕ, zero, suc, ◌+◌, ◌≤◌, ◌<◌, min}
use native.Mathlib.Decide.{dec_le, dec_lt}
use native.Mathlib.Omega.{arith}
use Rattle.words.specs.Word.{pick, any_below, first_from}
use Rattle.words.proofs.BitLaws.{true_not_false}

-- a number below n of which p holds
pub record Some (p : ℕ → Bool) (n : ℕ) : Type 0 where
  pub number : ℕ
  pub below : number < n
  pub holds : p number ≡ true

pub any_some : (p : ℕ → Bool) (n : ℕ) → any_below p n ≡ true → Some p n
any_some p zero h = absurd (true_not_false (sym h))
any_some p (suc n) h = go (any_below p n) refl (any_some p n)
  where
    go : (t : Bool) → any_below p n ≡ t → (any_below p n ≡ true → Some p n) → Some p (suc n)
    go true e earlier = let s = earlier e in record { number = s.number; below = omega (arith, s.below); holds = s.holds }
    go false e earlier = record { number = n; below = omega arith; holds = rw e at h }

-- and where p holds of one, the test says so
pub some_any : (p : ℕ → Bool) (n k : ℕ) → k < n → p k ≡ true → any_below p n ≡ true
some_any p zero k l h = absurd (omega arith)
some_any p (suc n) k l h = go (dec_lt k n) (some_any p n k)
  where
    go : Dec (k < n) → (k < n → p k ≡ true → any_below p n ≡ true) → any_below p (suc n) ≡ true
    go (yes i) below = rw (below i h)
    go (no i) below = let e : k ≡ n = omega arith in rw (rw e at h) (or-true (any_below p n))

-- r is the first number below n of which p holds, or n where it holds of none
pub record First (p : ℕ → Bool) (n r : ℕ) : Type 0 where
  pub within : r ≤ n
  pub found : r < n → p r ≡ true
  pub before : (k : ℕ) → k < r → p k ≡ false

-- what fails below k and at k fails below k + 1
none_more : (p : ℕ → Bool) (k : ℕ) → ((j : ℕ) → j < k → p j ≡ false) → p k ≡ false → (j : ℕ) → j < suc k → p j ≡ false
none_more p k none h j l = go (dec_lt j k)
  where
    go : Dec (j < k) → p j ≡ false
    go (yes i) = none j i
    go (no i) = let e : j ≡ k = omega arith in rw e h

first_from_lem : (p : ℕ → Bool) (k more n : ℕ) → k + more ≡ n → ((j : ℕ) → j < k → p j ≡ false) → First p n (first_from p k more)
unfolding first_from
first_from_lem p k zero n e none = record { within = omega arith; found = λ l. absurd (omega arith); before = none }
first_from_lem p k (suc more) n e none = go (p k) refl (first_from_lem p (suc k) more n (omega arith))
  where
    go : (t : Bool) → p k ≡ t → (((j : ℕ) → j < suc k → p j ≡ false) → First p n (first_from p (suc k) more)) → First p n (pick t k (first_from p (suc k) more))
    go true h later = record { within = omega arith; found = λ l. h; before = none }
    go false h later = later (none_more p k none h)

-- the search finds it
pub first_below : (p : ℕ → Bool) (n : ℕ) → First p n (first_from p 0 n)
first_below p n = first_from_lem p 0 n n (omega arith) (λ j l. absurd (omega arith))

not_before : (p : ℕ → Bool) (n a b : ℕ) → First p n a → First p n b → a < b → ⊥
not_before p n a b first second l = true_not_false (sym (first.found (omega (arith, second.within))) ∙ second.before a l)

first_unique : (p : ℕ → Bool) (n a b : ℕ) → First p n a → First p n b → a ≡ b
first_unique p n a b first second = go (dec_lt a b) (dec_lt b a)
  where
    go : Dec (a < b) → Dec (b < a) → a ≡ b
    go (yes l) other = absurd (not_before p n a b first second l)
    go (no l) (yes m) = absurd (not_before p n b a second first m)
    go (no l) (no m) = omega arith

-- and finds nothing else
pub first_is : (p : ℕ → Bool) (n r : ℕ) → First p n r → r ≡ first_from p 0 n
first_is p n r first = first_unique p n r (first_from p 0 n) first (first_below p n)

-- a test that never holds
pub first_never : (n : ℕ) → First (λ (k : ℕ). false) n n
first_never n = record { within = omega arith; found = λ l. absurd (omega arith); before = λ k l. refl }

-- one of two tests holds
pub first_either : (p q : ℕ → Bool) (n a b : ℕ) → First p n a → First q n b → First (λ (k : ℕ). p k || q k) n (min a b)
first_either p q n a b first second =
    record {
      within = omega (arith, first.within);
      found = found (dec_le a b);
      before = λ k l. rw (first.before k (omega arith)) (second.before k (omega arith));
    }
  where
    found : Dec (a ≤ b) → min a b < n → (p (min a b) || q (min a b)) ≡ true
    found (yes l) h = let e : min a b ≡ a = omega arith in rw (e, first.found (omega arith))
    found (no l) h = let e : min a b ≡ b = omega arith in rw (e, second.found (omega arith)) (or-true (p b))
