-- Declines 1 to 3 as facts: what a call that they pass may use, and the number that they give. Assumes nothing.
use mathlib.Core.Path.{◌≡◌, refl, sym, ◌∙◌}
use mathlib.Core.Bool.{Bool, true, false}
use mathlib.Core.List.{List}
use Prim.Native.Nat.{ℕ}
use Rattle.words.specs.Word.{pick}
use Rattle.words.specs.Decline.{Verdict, number_of, accepted_of, first_of}
use Rattle.words.proofs.BitLaws.{true_not_false}
use Rattle.geometry.specs.declared.banks.Geometry.{Geometry}
use Rattle.geometry.specs.Banks.{in_range_of}
use Rattle.geometry.specs.Lent.{lengths_fit_of, lent_decline_up_to, Fit}
use Rattle.geometry.proofs.FitLaws.{fit, fitted}
use Rattle.device.specs.declared.record.Device.{Device}
use Rattle.common_declines.specs.Possible.{possible_of}
use Rattle.common_declines.specs.CommonDecline.{common_decline_of, Usable, CommonDeclines}

module _ (g : Geometry) (d : Device) (lengths : List ℕ) (sram : ℕ) where
  pub usable : accepted_of (common_decline_of g d lengths sram) ≡ true → Usable g d lengths sram
  unfolding common_decline_of lent_decline_up_to
  usable h = go (in_range_of g) refl (lengths_fit_of g lengths sram) refl (possible_of g d) refl
    where
      go : (a : Bool) → in_range_of g ≡ a → (b : Bool) → lengths_fit_of g lengths sram ≡ b → (c : Bool) → possible_of g d ≡ c → Usable g d lengths sram
      go true ea true eb true ec = record { listed = ea; fits = fit g lengths sram eb; possible = ec }
      go true ea true eb false ec = true_not_false (sym (simp (ea, eb, ec) at h))
      go true ea false eb c ec = true_not_false (sym (simp (ea, eb) at h))
      go false ea b eb c ec = true_not_false (sym (simp ea at h))

  pub used : Usable g d lengths sram → accepted_of (common_decline_of g d lengths sram) ≡ true
  unfolding common_decline_of lent_decline_up_to
  used u = rw (u.listed, fitted g lengths sram u.fits, u.possible)

  pub common_meets : CommonDeclines g d lengths sram (number_of (common_decline_of g d lengths sram))
  unfolding common_decline_of lent_decline_up_to
  common_meets =
      record {
        lent = record { geometry = λ out. rw out; lengths_differ = λ listed unfit. rw (listed, go (lengths_fit_of g lengths sram) refl unfit) };
        impossible = λ listed f not_possible. rw (listed, fitted g lengths sram f, not_possible);
      }
    where
      go : (t : Bool) → lengths_fit_of g lengths sram ≡ t → (Fit g lengths sram → ⊥) → lengths_fit_of g lengths sram ≡ false
      go true e unfit = absurd (unfit (fit g lengths sram e))
      go false e unfit = e

  -- where none of them applies, they ask for no number
  pub common_none : Usable g d lengths sram → (number : ℕ) → CommonDeclines g d lengths sram number
  common_none u number =
      record {
        lent =
            record {
              geometry = λ out. true_not_false (sym u.listed ∙ out);
              lengths_differ = λ listed unfit. absurd (unfit u.fits);
            };
        impossible = λ listed f not_possible. true_not_false (sym u.possible ∙ not_possible);
      }

  -- whatever declines come after them
  pub common_first : (other : Verdict) → CommonDeclines g d lengths sram (number_of (first_of (common_decline_of g d lengths sram) other))
  common_first other = go (accepted_of (common_decline_of g d lengths sram)) refl
    where
      go : (t : Bool) → accepted_of (common_decline_of g d lengths sram) ≡ t
          → CommonDeclines g d lengths sram (number_of (pick t other (common_decline_of g d lengths sram)))
      go true on = common_none (usable on) _
      go false off = common_meets

  -- where one of them applies, no other number meets them
  pub common_fixes : (number : ℕ) → CommonDeclines g d lengths sram number → accepted_of (common_decline_of g d lengths sram) ≡ false
      → number ≡ number_of (common_decline_of g d lengths sram)
  unfolding common_decline_of lent_decline_up_to
  common_fixes number n h = go (in_range_of g) refl (lengths_fit_of g lengths sram) refl (possible_of g d) refl
    where
      go : (a : Bool) → in_range_of g ≡ a → (b : Bool) → lengths_fit_of g lengths sram ≡ b → (c : Bool) → possible_of g d ≡ c
          → number ≡ number_of (common_decline_of g d lengths sram)
      go false ea b eb c ec = n.lent.geometry ea ∙ rw ea
      go true ea false eb c ec = n.lent.lengths_differ ea (λ f. true_not_false (sym (fitted g lengths sram f) ∙ eb)) ∙ rw (ea, eb)
      go true ea true eb false ec = n.impossible ea (fit g lengths sram eb) ec ∙ rw (ea, eb, ec)
      go true ea true eb true ec = true_not_false (simp (ea, eb, ec) at h)
