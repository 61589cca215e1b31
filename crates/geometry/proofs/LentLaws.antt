-- What declines 1 and 2 tell where neither applies: the geometry is in range, each bank has its length, and the SRAM its room.
-- Assumes nothing.
use mathlib.Core.Path.{◌≡◌, refl, sym}
use mathlib.Core.Bool.{Bool, true, false, ◌&&◌}
use mathlib.Core.List.{List, [], ◌∷◌}
use Prim.Native.Nat.{ℕ, ◌≤◌}
use lib.Dec.{eqb, leb}
use borrow.Author.Tests.{eqb-true, leb-true}
use Rattle.words.proofs.PickLaws.{and_both}
use Rattle.words.proofs.BitLaws.{true_not_false}
use Rattle.geometry.specs.declared.banks.Geometry.{Geometry}
use Rattle.geometry.specs.Banks.{in_range_of, InRange, bank_words_of}
use Rattle.words.specs.Decline.{accepted_of}
use Rattle.geometry.specs.Lent.{bank_lengths, lengths_fit_of, lent_decline_of, lent_decline_up_to}
use Rattle.geometry.proofs.SizeLaws.{in-range}

-- each length is that of a bank
abbrev pub EachBank : Geometry → List ℕ → Type 0
EachBank g [] = Unit {0}
EachBank g (words ∷ rest) = (words ≡ bank_words_of g) × EachBank g rest

pub record Fits (g : Geometry) (lengths : List ℕ) (sram : ℕ) : Type 0 where
  pub listed : in_range_of g ≡ true
  pub range : InRange g
  pub banks : EachBank g lengths
  pub room : sram ≤ 16384

each_bank : (g : Geometry) (lengths : List ℕ) → bank_lengths g lengths ≡ true → EachBank g lengths
each_bank g [] h = tt
each_bank g (words ∷ rest) h =
    let s = and_both (eqb words (bank_words_of g)) (bank_lengths g rest) h in
    (eqb-true _ _ s.0, each_bank g rest s.1)

pub fits : (g : Geometry) (lengths : List ℕ) (sram : ℕ) → accepted_of (lent_decline_of g lengths sram) ≡ true → Fits g lengths sram
unfolding lent_decline_up_to lengths_fit_of
fits g lengths sram h =
    let (listed, fit) = go (in_range_of g) refl (bank_lengths g lengths && leb sram 16384) refl h in
    let each = and_both (bank_lengths g lengths) (leb sram 16384) fit in
    record { listed = listed; range = in-range g listed; banks = each_bank g lengths each.0; room = leb-true _ _ each.1 }
  where
    -- whichever is judged first
    go : (a : Bool) → in_range_of g ≡ a → (c : Bool) → (bank_lengths g lengths && leb sram 16384) ≡ c → accepted_of (lent_decline_of g lengths sram) ≡ true
        → (in_range_of g ≡ true) × ((bank_lengths g lengths && leb sram 16384) ≡ true)
    go true ea true ec h = (ea, ec)
    go true ea false ec h = true_not_false (sym (simp (ea, ec) at h))
    go false ea true ec h = true_not_false (sym (simp (ea, ec) at h))
    go false ea false ec h = true_not_false (sym (simp (ea, ec) at h))
