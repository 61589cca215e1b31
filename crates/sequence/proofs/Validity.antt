-- The sequence word by its bits: from the laws of its halves. Assumes nothing.
use mathlib.Core.Path.{◌≡◌, refl}
use Prim.Native.Nat.{ℕ, ◌+◌, ◌%◌, ◌^◌, ◌<◌}
use native.Mathlib.Omega.{arith}
use Rattle.words.specs.Quad.{word_at}
use Rattle.words.proofs.CaseLaws.{below_four}
use Rattle.sequence.specs.Sequence.{sequence_word_of, next_sequence_of}
use Rattle.sequence.specs.Validity.{Validity}
use Rattle.sequence.proofs.SequenceLaws.{complement_below, valid_bits, bits_valid, next_valid, next_tseq}

next_word : (w : ℕ) → word_at (next_sequence_of w) 0 < 2 ^ 32
unfolding next_sequence_of sequence_word_of
next_word w =
    let t = (w % 65536 + 1) % 65536 in
    let small : t < 65536 = omega arith in
    omega (arith, complement_below t small, small)

next_rest : (w j : ℕ) → 0 < j → j < 4 → word_at (next_sequence_of w) j ≡ 0xFFFF_FFFF
unfolding next_sequence_of
next_rest w j some few =
    below_four (λ j. 0 < j → word_at (next_sequence_of w) j ≡ 0xFFFF_FFFF) (λ l. absurd (omega (arith, l))) (λ l. refl) (λ l. refl) (λ l. refl) j few some

pub validity : Validity
validity =
    record {
      low_half = λ w. refl;
      valid = bits_valid;
      only = valid_bits;
      next_half = next_tseq;
      next_valid = λ w. valid_bits (word_at (next_sequence_of w) 0) (next_valid w);
      next_word = next_word;
      next_rest = next_rest;
    }
