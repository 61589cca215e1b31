-- Declines 1 and 2 as facts: what the tests of the lengths tell, both ways, and the number that they give. Assumes nothing.
use mathlib.Core.Path.{◌≡◌, refl, sym, ◌∙◌}
use mathlib.Core.Bool.{Bool, true, false}
use mathlib.Core.List.{List, [], ◌∷◌}
use Prim.Native.Nat.{ℕ, zero, suc, ◌<◌}
use native.Mathlib.Omega.{arith}
use lib.Dec.{eqb, leb}
use lib.ListN.{length, get_or}
use borrow.Author.Tests.{eqb-true, leb-true, eq-eqb, le-leb}
use Rattle.words.proofs.PickLaws.{and_both}
use Rattle.words.proofs.BitLaws.{true_not_false}
use Rattle.words.specs.Decline.{number_of, accepted_of}
use Rattle.geometry.specs.declared.banks.Geometry.{Geometry}
use Rattle.geometry.specs.Banks.{in_range_of, bank_words_of}
use Rattle.geometry.specs.Lent.{bank_lengths, lengths_fit_of, lent_decline_of, lent_decline_up_to, Fit, LentDeclines}

each : (g : Geometry) (lengths : List ℕ) → bank_lengths g lengths ≡ true → (i : ℕ) → i < length lengths → get_or lengths i 0 ≡ bank_words_of g
each g [] h i l = absurd (omega (arith, l))
each g (words ∷ rest) h zero l = eqb-true _ _ (and_both (eqb words (bank_words_of g)) (bank_lengths g rest) h).0
each g (words ∷ rest) h (suc i) l = each g rest (and_both (eqb words (bank_words_of g)) (bank_lengths g rest) h).1 i (omega (arith, l))

tested : (g : Geometry) (lengths : List ℕ) → ((i : ℕ) → i < length lengths → get_or lengths i 0 ≡ bank_words_of g) → bank_lengths g lengths ≡ true
tested g [] h = refl
tested g (words ∷ rest) h = rw (eq-eqb words (bank_words_of g) (h 0 (omega arith))) (tested g rest (λ i l. h (suc i) (omega (arith, l))))

pub fit : (g : Geometry) (lengths : List ℕ) (sram : ℕ) → lengths_fit_of g lengths sram ≡ true → Fit g lengths sram
unfolding lengths_fit_of
fit g lengths sram h =
    let (banks, room) = and_both (bank_lengths g lengths) (leb sram 16384) h in
    record { banks = each g lengths banks; room = leb-true _ _ room }

pub fitted : (g : Geometry) (lengths : List ℕ) (sram : ℕ) → Fit g lengths sram → lengths_fit_of g lengths sram ≡ true
unfolding lengths_fit_of
fitted g lengths sram f = rw (tested g lengths f.banks) (le-leb sram 16384 f.room)

module _ (g : Geometry) (lengths : List ℕ) (sram : ℕ) where
  pub lent_meets : LentDeclines g lengths sram (number_of (lent_decline_of g lengths sram))
  unfolding lent_decline_up_to
  lent_meets =
      record {
        geometry = λ out. rw out;
        lengths_differ = λ listed unfit. rw (listed, go (lengths_fit_of g lengths sram) refl unfit);
      }
    where
      go : (t : Bool) → lengths_fit_of g lengths sram ≡ t → (Fit g lengths sram → ⊥) → lengths_fit_of g lengths sram ≡ false
      go true e unfit = absurd (unfit (fit g lengths sram e))
      go false e unfit = e

  -- where one of them applies, no other number meets them
  pub lent_fixes : (number : ℕ) → LentDeclines g lengths sram number → accepted_of (lent_decline_of g lengths sram) ≡ false
      → number ≡ number_of (lent_decline_of g lengths sram)
  unfolding lent_decline_up_to
  lent_fixes number n h = go (in_range_of g) refl (lengths_fit_of g lengths sram) refl
    where
      go : (a : Bool) → in_range_of g ≡ a → (b : Bool) → lengths_fit_of g lengths sram ≡ b → number ≡ number_of (lent_decline_of g lengths sram)
      go false ea b eb = n.geometry ea ∙ rw ea
      go true ea false eb =
          n.lengths_differ ea (λ f. true_not_false (sym (fitted g lengths sram f) ∙ eb)) ∙ rw (ea, eb)
      go true ea true eb = true_not_false (simp (ea, eb) at h)
