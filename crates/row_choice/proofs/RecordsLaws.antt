-- The records that a test holds of: as many as are counted, all of them, each below n and in record order. Assumes nothing.
use mathlib.Core.Path.{◌≡◌, refl, sym, ◌∙◌, subst}
use mathlib.Core.Bool.{Bool, true, false}
use mathlib.Core.List.{List, [], ◌∷◌, ◌++◌, append-nil}
use Prim.Native.Nat.{ℕ, zero, suc, ◌+◌, ◌≤◌, ◌<◌}
use native.Mathlib.Decide.{dec_lt, le_ind}
use native.Mathlib.Omega.{arith}
use lib.ListN.{length, get_or, length-append, get_or-append}
use lib.Seq.{get_or-append_seam}
use Rattle.words.specs.Word.{pick}
use Rattle.words.specs.Lists.{In}
use Rattle.row_choice.specs.Choice.{count_of, records_of}
use Rattle.row_choice.proofs.WaitsLaws.{in_front, in_last}

pub records_count : (p : ℕ → Bool) (n : ℕ) → length (records_of p n) ≡ count_of p n
records_count p zero = refl
records_count p (suc n) = length-append (records_of p n) (pick (p n) (n ∷ []) []) ∙ go (p n) (records_count p n)
  where
    go : (t : Bool) → length (records_of p n) ≡ count_of p n → length (records_of p n) + length (pick t (n ∷ []) []) ≡ count_of p n + pick t 1 0
    go true e = omega arith
    go false e = omega arith

-- of two tests that agree below n they are the same
pub records_same : (p q : ℕ → Bool) (n : ℕ) → ((j : ℕ) → j < n → p j ≡ q j) → records_of p n ≡ records_of q n
records_same p q zero same = refl
records_same p q (suc n) same = rw (records_same p q n (λ j l. same j (omega arith)), same n (omega arith)) refl

-- of more records no fewer are counted
pub count_rises : (p : ℕ → Bool) (i n : ℕ) → i ≤ n → count_of p i ≤ count_of p n
count_rises p i n l = le_ind {n = i} (λ m. count_of p i ≤ count_of p m) (omega arith) (λ m up earlier. omega arith) n l

-- a list of numbers below n of which p holds, each greater than the one before it
pub record Rising (p : ℕ → Bool) (n : ℕ) (l : List ℕ) : Type 0 where
  pub below : (i : ℕ) → i < length l → get_or l i 0 < n
  pub holds : (i : ℕ) → i < length l → p (get_or l i 0) ≡ true
  pub rising : (i j : ℕ) → i < j → j < length l → get_or l i 0 < get_or l j 0

-- with the next number at its end
module _ (p : ℕ → Bool) (n : ℕ) (l : List ℕ) (r : Rising p n l) (next : p n ≡ true) where
  longer : length (l ++ (n ∷ [])) ≡ length l + 1
  longer = length-append l (n ∷ [])

  -- an entry of it
  entry : (Q : ℕ → Type 0) (i : ℕ) → i < length (l ++ (n ∷ [])) → (i < length l → Q (get_or l i 0)) → Q n → Q (get_or (l ++ (n ∷ [])) i 0)
  entry Q i inside old new = go (dec_lt i (length l))
    where
      go : Dec (i < length l) → Q (get_or (l ++ (n ∷ [])) i 0)
      go (yes before) = rw (get_or-append l (n ∷ []) 0 i before) (old before)
      go (no after) = let e : i ≡ length l = omega (arith, longer) in rw (e, get_or-append_seam l n [] 0) new

  rising_more : Rising p (suc n) (l ++ (n ∷ []))
  rising_more =
      record {
        below = λ i inside. entry (λ k. k < suc n) i inside (λ before. omega (arith, r.below i before)) (omega arith);
        holds = λ i inside. entry (λ k. p k ≡ true) i inside (r.holds i) next;
        rising = λ i j less inside.
            rw (get_or-append l (n ∷ []) 0 i (omega (arith, longer)))
            (entry (λ k. get_or l i 0 < k) j inside (r.rising i j less) (r.below i (omega (arith, longer))));
      }

pub records_rising : (p : ℕ → Bool) (n : ℕ) → Rising p n (records_of p n)
records_rising p zero =
    record { below = λ i inside. absurd (omega arith); holds = λ i inside. absurd (omega arith); rising = λ i j less inside. absurd (omega arith) }
records_rising p (suc n) = go (p n) refl (records_rising p n)
  where
    go : (t : Bool) → p n ≡ t → Rising p n (records_of p n) → Rising p (suc n) (records_of p n ++ pick t (n ∷ []) [])
    go true e r = rising_more p n (records_of p n) r e
    go false e r =
        subst (Rising p (suc n)) (sym (append-nil (records_of p n)))
        (record { below = λ i inside. omega (arith, r.below i inside); holds = r.holds; rising = r.rising })

-- each that the test holds of is among them
pub records_all : (p : ℕ → Bool) (n j : ℕ) → j < n → p j ≡ true → In (records_of p n) j
records_all p zero j l h = absurd (omega (arith, l))
records_all p (suc n) j l h = go (dec_lt j n) (records_all p n j)
  where
    go : Dec (j < n) → (j < n → p j ≡ true → In (records_of p n) j) → In (records_of p (suc n)) j
    go (yes below) earlier = in_front (records_of p n) (pick (p n) (n ∷ []) []) j (earlier below h)
    go (no last) earlier = let same : n ≡ j = omega (arith, l, last) in rw (same, h) (in_last (records_of p j) j)
