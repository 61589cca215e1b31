-- W-208, "Sequence check by sum": the words whose halves add up to 65,535 are the valid words of 01. Assumes nothing.
use Rattle.std.specs.Prelude.{ℕ, ◌+◌, ◌^◌, ◌<◌, ◌≡◌, not, eqb}
use Rattle.words.specs.Word.{bit}
use Rattle.sequence.specs.Sequence.{tseq_of, cseq_of, valid_of}

pub record BySum : Type 0 where
  -- "the two halves add up to 65,535. That this picks exactly the valid words of 01 is shown for every word."
  pub valid_sum : (w : ℕ) → valid_of w ≡ eqb (cseq_of w + tseq_of w) 65535
  -- 01's complement bit by bit: where the halves add up, each bit of one is the complement of that of the other, and conversely
  pub sum_bits : (w : ℕ) → cseq_of w + tseq_of w ≡ 65535 → (k : ℕ) → k < 16 → bit k (cseq_of w) ≡ not (bit k (tseq_of w))
  pub bits_sum : (w : ℕ) → w < 2 ^ 32 → ((k : ℕ) → k < 16 → bit k (cseq_of w) ≡ not (bit k (tseq_of w))) → cseq_of w + tseq_of w ≡ 65535
