-- The comparison of the banks' sequence words, with W-205's reason beside the bank. Assumes nothing.
use Rattle.std.specs.Prelude.{ℕ, Bool, true, false, ◌&&◌, eqb, ltb}
use Rattle.words.specs.Word.{pick}
use Rattle.sequence.specs.declared.comparison.Reason as code
use Rattle.sequence.specs.declared.comparison.Reason.TheVariants as code_variants
use Rattle.sequence.specs.declared.comparison.Comparison as code_comparison
use Rattle.sequence.specs.Sequence.{tseq_of, valid_of}

-- the reason of a comparison; or nothing was compared
pub data Reason : Type 0 where
  Higher : Reason
  Equal : Reason
  OnlyOneValid : Reason
  NoneValid : Reason
  NotCompared : Reason

pub record Comparison : Type 0 where
  pub second : Bool
  pub reason : Reason

-- a comparison of the code, as one of these
abbrev pub reason_from : code.Reason → Reason
reason_from code_variants.Higher = Higher
reason_from code_variants.Equal = Equal
reason_from code_variants.OnlyOneValid = OnlyOneValid
reason_from code_variants.NoneValid = NoneValid

abbrev pub comparison_from : code_comparison.Comparison → Comparison
comparison_from c = record { second = c.second; reason = reason_from c.reason }

-- W-205: "higher, equal, only one valid, none valid", numbered in this order (ours); 4 where nothing was compared (ours)
abbrev pub reason_number_of : Reason → ℕ
reason_number_of Higher = 0
reason_number_of Equal = 1
reason_number_of OnlyOneValid = 2
reason_number_of NoneValid = 3
reason_number_of NotCompared = 4

-- whether bank 2 goes lower, and why
abbrev pub comparison : Bool → Reason → Comparison
comparison second reason = record { second = second; reason = reason }

-- "both valid, higher T goes lower; equal T, bank 1; one valid, that one; none, bank 1", "its reason beside the bank", for the sequence
-- words of bank 1 and bank 2
unfoldable pub compare_of : ℕ → ℕ → Comparison
compare_of first other =
    pick (valid_of first && valid_of other)
    (pick (eqb (tseq_of first) (tseq_of other)) (comparison false Reason.Equal)
    (comparison (ltb (tseq_of first) (tseq_of other)) Reason.Higher))
    (pick (valid_of first) (comparison false Reason.OnlyOneValid)
    (pick (valid_of other) (comparison true Reason.OnlyOneValid)
    (comparison false Reason.NoneValid)))

-- BFSWAP as a reset sets it: whether bank 2 goes lower
abbrev pub bfswap_of : ℕ → ℕ → Bool
bfswap_of first other = (compare_of first other).second
