-- Declines 1 and 2: the geometry, and the lengths of what is lent with it. Assumes nothing.
use Rattle.std.specs.Prelude.{ℕ, ◌+◌, ◌*◌, ◌≤◌, ◌<◌, ◌≡◌, Bool, true, false, ◌&&◌, List, [], ◌∷◌, eqb, leb, length, get_or, Ok, Err}
use Rattle.words.specs.Word.{pick}
use Rattle.geometry.specs.declared.banks.Geometry.{Geometry}
use Rattle.words.specs.declared.decline.Decline.{Decline}
use Rattle.words.specs.Decline.{Verdict}
use Rattle.geometry.specs.declared.lent.Lent.{Lent}
use Rattle.geometry.specs.declared.lent.Lent.TheVariants.{Nothing, Bank, Banks, BanksAndImage}
use Rattle.geometry.specs.Banks.{most_program_pages, in_range_up_to, in_range_of, bank_words_of}

-- the lengths of the banks and the image that a call is lent
abbrev pub lengths_of : Lent → List ℕ
lengths_of Nothing = []
lengths_of (Bank bank) = bank ∷ []
lengths_of (Banks one two) = one ∷ two ∷ []
lengths_of (BanksAndImage one two image) = one ∷ two ∷ image ∷ []

-- each of these lengths is that of a bank
abbrev pub bank_lengths : Geometry → List ℕ → Bool
bank_lengths g [] = true
bank_lengths g (words ∷ rest) = eqb words (bank_words_of g) && bank_lengths g rest

-- "at most 16,384 words"
abbrev pub most_sram : ℕ
most_sram = 16384

-- 2 does not apply: "A bank or image has another length than N×32×Q words, or the SRAM exceeds 16,384."
unfoldable pub lengths_fit_of : Geometry → List ℕ → ℕ → Bool
lengths_fit_of g lengths sram = bank_lengths g lengths && leb sram most_sram

-- the same as facts (`fit` of proofs/FitLaws)
pub record Fit (g : Geometry) (lengths : List ℕ) (sram : ℕ) : Type 0 where
  pub banks : (i : ℕ) → i < length lengths → get_or lengths i 0 ≡ (g.b + g.p) * (32 * g.q)
  pub room : sram ≤ 16384

-- declines 1 and 2 where P is at most `most`, by the lengths of the banks and the image, and of the SRAM, which is 0 where none is lent
unfoldable pub lent_decline_up_to : ℕ → Geometry → List ℕ → ℕ → Verdict
lent_decline_up_to most g lengths sram =
    pick (in_range_up_to most g) (pick (lengths_fit_of g lengths sram) (Ok tt) (Err Decline.Length)) (Err Decline.Geometry)

abbrev pub lent_decline_of : Geometry → List ℕ → ℕ → Verdict
lent_decline_of g lengths sram = lent_decline_up_to most_program_pages g lengths sram

-- what 1 and 2 ask of the number of an answer: "The lowest number that applies is returned"
pub record LentDeclines (g : Geometry) (lengths : List ℕ) (sram number : ℕ) : Type 0 where
  -- "Q, B or P is outside its list or range."
  pub geometry : in_range_of g ≡ false → number ≡ 1
  -- "A bank or image has another length than N×32×Q words, or the SRAM exceeds 16,384."
  pub lengths_differ : in_range_of g ≡ true → (Fit g lengths sram → ⊥) → number ≡ 2
