-- The pass over the words: what it has found among the first n words is their list's count, its first and its last. Assumes nothing.
use mathlib.Core.Path.{◌≡◌, refl, sym}
use mathlib.Core.Bool.{Bool, true, false}
use mathlib.Core.List.{List, [], ◌∷◌, ◌++◌}
use Prim.Native.Nat.{ℕ, zero, suc, ◌-◌, ◌≤◌}
use native.Mathlib.Omega.{arith}
use lib.Dec.{eqb}
use lib.ListN.{length, get_or, length-append}
use lib.Seq.{get_or_at}
use borrow.Author.Tests.{eqb-true, eqb-false, eq-eqb, ne_eqb, not-true, not-false}
use Rattle.words.specs.Word.{pick}
use Rattle.words.specs.Quad.{word_at}
use Rattle.words.proofs.AscendingLaws.{ascending_none, ascending_stays, ascending_more}
use Rattle.words.proofs.PickLaws.{pick_both}
use Rattle.reach.specs.declared.Difference.{Difference}
use Rattle.reach.specs.Reach.{differs_of, with_word_of, difference_of}
use Rattle.reach.specs.Differing.{Differs, Meaning}

-- the numbers of the differing words among the first n, ascending
abbrev pub differing_of : List ℕ → List ℕ → ℕ → List ℕ
differing_of image other zero = []
differing_of image other (suc n) = pick (differs_of image other n) (differing_of image other n ++ (n ∷ [])) (differing_of image other n)

-- ---- bounds
module _ (image other : List ℕ) where
  pub count_most : (n : ℕ) → (difference_of image other n).count ≤ n
  count_most zero = omega arith
  count_most (suc n) =
      let most = count_most n in
      pick_both (λ (d : Difference). d.count ≤ suc n) (differs_of image other n) (omega arith) (omega arith)

  pub lowest_most : (n : ℕ) → (difference_of image other n).lowest ≤ n - 1
  lowest_most zero = omega arith
  lowest_most (suc n) =
      let most = lowest_most n in
      let d = difference_of image other n in
      pick_both (λ (d : Difference). d.lowest ≤ suc n - 1) (differs_of image other n)
      (pick_both (λ (w : ℕ). w ≤ suc n - 1) (eqb d.count 0) (omega arith) (omega arith)) (omega arith)

-- ---- one word more
-- with one word more, the lowest is still the first of the list
first_of : (words : List ℕ) (n count lowest : ℕ) → count ≡ length words → lowest ≡ get_or words 0 0
    → pick (eqb count 0) n lowest ≡ get_or (words ++ (n ∷ [])) 0 0
first_of [] n count lowest e is = rw (eq-eqb count 0 e)
first_of (x ∷ words) n count lowest e is = rw (ne_eqb count 0 (λ none. omega arith)) is

module _ (image other : List ℕ) (n : ℕ) (d : Difference) (words : List ℕ) (was : Meaning image other n d words) where
  -- word n differs too
  one_more : Differs image other n → Meaning image other (suc n) (with_word_of d n) (words ++ (n ∷ []))
  one_more differs =
      record {
        count = omega (arith, length-append words (n ∷ []), was.count);
        lowest = first_of words n d.count d.lowest was.count was.lowest;
        highest = sym (get_or_at words n [] 0 (length (words ++ (n ∷ [])) - 1) (omega (arith, length-append words (n ∷ []))));
        differ = ascending_more (Differs image other) n words was.differ differs;
      }

  -- word n does not
  no_more : word_at image n ≡ word_at other n → Meaning image other (suc n) d words
  no_more same =
      record {
        count = was.count;
        lowest = was.lowest;
        highest = was.highest;
        differ = ascending_stays (Differs image other) n words was.differ (λ differs. differs same);
      }

module _ (image other : List ℕ) where
  differs_so : (n : ℕ) → differs_of image other n ≡ true → word_at image n ≡ word_at other n → ⊥
  differs_so n e = eqb-false _ _ (not-true _ e)

  same_so : (n : ℕ) → differs_of image other n ≡ false → word_at image n ≡ word_at other n
  same_so n e = eqb-true _ _ (not-false _ e)

  -- the pass at word n
  pub word_counted : (n : ℕ) → (word_at image n ≡ word_at other n → ⊥) → with_word_of (difference_of image other n) n ≡ difference_of image other (suc n)
  word_counted n ne = rw (ne_eqb (word_at image n) (word_at other n) ne)

  pub word_passed : (n : ℕ) → word_at image n ≡ word_at other n → difference_of image other n ≡ difference_of image other (suc n)
  word_passed n e = rw (eq-eqb (word_at image n) (word_at other n) e)

  pub meaning : (n : ℕ) → Meaning image other n (difference_of image other n) (differing_of image other n)
  meaning zero =
      record {
        count = refl;
        lowest = refl;
        highest = refl;
        differ = ascending_none (Differs image other);
      }
  meaning (suc n) = go (differs_of image other n) refl (meaning n)
    where
      d : Difference
      d = difference_of image other n

      words : List ℕ
      words = differing_of image other n

      go : (t : Bool) → differs_of image other n ≡ t → Meaning image other n d words
          → Meaning image other (suc n) (pick t (with_word_of d n) d) (pick t (words ++ (n ∷ [])) words)
      go true e was = one_more image other n d words was (differs_so n e)
      go false e was = no_more image other n d words was (same_so n e)
