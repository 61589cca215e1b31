-- A record waits where it is an entry of the queue. Assumes nothing.
use mathlib.Core.Path.{◌≡◌, sym, ◌∙◌}
use mathlib.Core.Bool.{true, false}
use mathlib.Core.List.{List, [], ◌∷◌, ◌++◌}
use mathlib.Core.Logic.{◌⊎◌, inl, inr}
use Prim.Native.Nat.{ℕ, ◌-◌, ◌<◌}
use native.Mathlib.Decide.{dec_lt}
use native.Mathlib.Omega.{arith}
use lib.Dec.{eqb}
use lib.ListN.{length, get_or, length-append, get_or-append}
use lib.Seq.{get_or-append_seam}
use borrow.Author.Tests.{eqb-true, eq-eqb}
use Rattle.words.proofs.BitLaws.{true_not_false}
use Rattle.words.proofs.FirstLaws.{any_some, some_any}
use Rattle.words.specs.Lists.{In}
use Rattle.row_signs.specs.Signs.{waits_of}
use Rattle.row_choice.proofs.PlaceLaws.{after_seam}

pub waits_in_lem : (l : List ℕ) (j : ℕ) → waits_of l j ≡ true → In l j
waits_in_lem l j h =
    let s = any_some (λ p. eqb (get_or l p 0) j) (length l) h in
    record { at = s.number; inside = s.below; is = eqb-true (get_or l s.number 0) j s.holds }

pub in_waits : (l : List ℕ) (j p : ℕ) → p < length l → get_or l p 0 ≡ j → waits_of l j ≡ true
in_waits l j p inside e = some_any (λ p. eqb (get_or l p 0) j) (length l) p inside (eq-eqb (get_or l p 0) j e)

pub not_waits : (l : List ℕ) (j p : ℕ) → waits_of l j ≡ false → p < length l → get_or l p 0 ≡ j → ⊥
not_waits l j p h inside e = true_not_false (sym (in_waits l j p inside e) ∙ h)

-- ---- a longer list

pub in_front : (l m : List ℕ) (j : ℕ) → In l j → In (l ++ m) j
in_front l m j w =
    record {
      at = w.at;
      inside = omega (arith, w.inside, length-append l m);
      is = get_or-append l m 0 w.at w.inside ∙ w.is;
    }

pub in_last : (l : List ℕ) (j : ℕ) → In (l ++ (j ∷ [])) j
in_last l j = record { at = length l; inside = omega (arith, length-append l (j ∷ [])); is = get_or-append_seam l j [] 0 }

-- a record of two lists together is one of either
pub in_either : (l m : List ℕ) (j : ℕ) → In (l ++ m) j → (In l j) ⊎ (In m j)
in_either l m j w = go (dec_lt w.at (length l))
  where
    go : Dec (w.at < length l) → (In l j) ⊎ (In m j)
    go (yes before) = inl (record { at = w.at; inside = before; is = sym (get_or-append l m 0 w.at before) ∙ w.is })
    go (no after) =
        inr (record {
          at = w.at - length l;
          inside = omega (arith, w.inside, after, length-append l m);
          is = sym (after_seam l m w.at (omega (arith, after))) ∙ w.is;
        })
