-- Two images that differ in one word: the pass finds that word alone, and where it finds one word no other differs.
-- Assumes nothing.
use mathlib.Core.Path.{◌≡◌, refl, sym, ◌∙◌}
use mathlib.Core.List.{List}
use Prim.Native.Nat.{ℕ, zero, suc, ◌≤◌, ◌<◌}
use native.Mathlib.Decide.{ℕ_discrete, dec_lt}
use native.Mathlib.Omega.{arith}
use lib.ListN.{length, get_or-eq_default}
use Rattle.words.specs.Quad.{word_at}
use Rattle.reach.specs.declared.Difference.{Difference}
use Rattle.reach.specs.Reach.{difference_of}
use Rattle.reach.specs.Differing.{OneWord, Meaning}
use Rattle.reach.proofs.DifferenceLaws.{differing_of, word_counted, word_passed, meaning}

abbrev found : ℕ → ℕ → ℕ → Difference
found count lowest highest = record { count = count; lowest = lowest; highest = highest }

module _ (image other : List ℕ) where
  -- past both images no word differs
  past_same : (n : ℕ) → length image ≡ n → length other ≡ n → (i : ℕ) → n ≤ i → word_at image i ≡ word_at other i
  past_same n long too i l = get_or-eq_default image 0 (omega arith) ∙ sym (get_or-eq_default other 0 (omega arith))

  -- before the first word that differs there is nothing
  none_before : (n : ℕ) → ((i : ℕ) → i < n → word_at image i ≡ word_at other i) → difference_of image other n ≡ found 0 0 0
  none_before zero same = refl
  none_before (suc n) same = sym (word_passed image other n (same n (omega arith))) ∙ none_before n (λ i l. same i (omega arith))

  module _ (i : ℕ) (one : OneWord image other i) where
    -- the word is one of the images
    pub within : (n : ℕ) → length image ≡ n → length other ≡ n → i < n
    within n long too = go (dec_lt i n)
      where
        go : Dec (i < n) → i < n
        go (yes l) = l
        go (no l) = absurd (one.differs (past_same n long too i (omega arith)))

    pub found_one : (n : ℕ) → i < n → difference_of image other n ≡ found 1 i i
    found_one zero l = absurd (omega arith)
    found_one (suc n) l = go (ℕ_discrete n i) (found_one n)
      where
        go : Dec (n ≡ i) → (i < n → difference_of image other n ≡ found 1 i i) → difference_of image other (suc n) ≡ found 1 i i
        go (yes e) before =
            let none = none_before n (λ j m. one.same j (λ at. omega arith)) in
            sym (word_counted image other n (λ same. one.differs (rw e at same))) ∙ rw (none, e)
        go (no e) before = sym (word_passed image other n (one.same n e)) ∙ before (omega arith)

  -- where the pass finds one word, it is the only one
  pub only_one : (n : ℕ) → length image ≡ n → length other ≡ n → (difference_of image other n).count ≡ 1
      → OneWord image other (difference_of image other n).lowest
  only_one n long too one =
      record {
        differs = rw means.lowest (means.differ.only 0 (omega (arith, single))).1;
        same = λ j ne. go j ne (dec_lt j n) (ℕ_discrete (word_at image j) (word_at other j));
      }
    where
      words : List ℕ
      words = differing_of image other n

      means : Meaning image other n (difference_of image other n) words
      means = meaning image other n

      single : length words ≡ 1
      single = omega (arith, one, means.count)

      go : (j : ℕ) → (j ≡ (difference_of image other n).lowest → ⊥) → Dec (j < n) → Dec (word_at image j ≡ word_at other j)
          → word_at image j ≡ word_at other j
      go j ne l (yes e) = e
      go j ne (no l) (no e) = past_same n long too j (omega arith)
      go j ne (yes l) (no e) =
          let listed = means.differ.all j l e in
          let first : listed.at ≡ 0 = omega (arith, listed.inside, single) in
          absurd (ne (sym listed.is ∙ rw first (sym means.lowest)))
