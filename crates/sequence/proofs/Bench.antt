-- The bench values hold: by computation, and where they speak of any word, by the laws.
-- Assumes nothing.
use mathlib.Core.Path.{refl, ap, ◌∙◌}
use Prim.Native.Nat.{ℕ, ◌+◌, ◌%◌}
use borrow.Author.Tests.{le-ltb}
use native.Mathlib.Nat.{le_refl}
use Rattle.sequence.specs.Sequence.{complement_of, valid_of, sequence_word_of, next_sequence_of, tseq_of}
use Rattle.sequence.specs.Bench.{Bench}
use Rattle.sequence.proofs.ComparisonLaws.{both_valid, only_second}

pub bench : Bench
unfolding complement_of valid_of sequence_word_of next_sequence_of
bench =
    record {
      first_valid = refl;
      erased_invalid = refl;
      last_valid = refl;
      last_number = refl;
      next_of_one = λ w e. ap (λ (t : ℕ). sequence_word_of ((t + 1) % 65536)) e;
      equal_first = λ w v. both_valid w w v v ∙ le-ltb (tseq_of w) (tseq_of w) (le_refl _);
      only_second = only_second;
    }
