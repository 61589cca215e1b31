-- The halves of a word add up to 65,535 exactly where the high one is the complement of the low one.
-- Assumes nothing.
use mathlib.Core.Path.{◌≡◌, refl, sym, ap, ◌∙◌}
use mathlib.Core.Bool.{Bool, true, false, not}
use Prim.Native.Nat.{ℕ, ◌+◌, ◌-◌}
use native.Mathlib.Omega.{arith}
use lib.Dec.{eqb}
use borrow.Author.Tests.{eq-eqb, ne_eqb, eqb-true, eqb-false}
use Rattle.words.proofs.BitLaws.{bit_low, bit_high}
use Rattle.sequence.specs.Sequence.{tseq_of, cseq_of, complement_of, valid_of}
use Rattle.sequence.specs.Sum.{BySum}
use Rattle.sequence.proofs.SequenceLaws.{complement_number, valid_bits, bits_valid}

pub valid_sum : (w : ℕ) → valid_of w ≡ eqb (cseq_of w + tseq_of w) 65535
unfolding valid_of
valid_sum w = go (eqb sum 65535) refl
  where
    sum : ℕ
    sum = cseq_of w + tseq_of w

    inverse : ℕ
    inverse = complement_of (tseq_of w)

    number : inverse ≡ 65535 - tseq_of w
    number = complement_number (tseq_of w) (omega arith)

    go : (b : Bool) → eqb sum 65535 ≡ b → eqb (cseq_of w) inverse ≡ b
    go true e = eq-eqb (cseq_of w) inverse (omega (arith, number, eqb-true sum 65535 e))
    go false e = ne_eqb (cseq_of w) inverse (λ v. eqb-false sum 65535 e (omega (arith, number, v)))

pub by_sum : BySum
by_sum =
    record {
      valid_sum = valid_sum;
      sum_bits = λ w e k l. bit_high 16 k w ∙ valid_bits w (valid_sum w ∙ eq-eqb _ _ e) k l ∙ ap not (sym (bit_low 16 k w l));
      bits_sum =
          λ w h each.
          eqb-true _ _ (sym (valid_sum w) ∙ bits_valid w h (λ k l. sym (bit_high 16 k w) ∙ each k l ∙ ap not (bit_low 16 k w l)));
    }
