-- The bench values of the paper (★) that this layer can state. Assumes nothing.
use Rattle.std.specs.Prelude.{ℕ, ◌≡◌, true, false}
use Rattle.words.specs.Quad.{word_at}
use Rattle.sequence.specs.Sequence.{tseq_of, valid_of, next_sequence_of}
use Rattle.sequence.specs.Comparison.{bfswap_of}

pub record Bench : Type 0 where
  -- "0xFFFE0001 valid"
  pub first_valid : valid_of 0xFFFE_0001 ≡ true
  -- "0xFFFFFFFF invalid"
  pub erased_invalid : valid_of 0xFFFF_FFFF ≡ false
  -- "0x0000FFFF valid, T 65,535"
  pub last_valid : valid_of 0x0000_FFFF ≡ true
  pub last_number : tseq_of 0x0000_FFFF ≡ 65535
  -- "T = 1 leads to 0xFFFD0002"
  pub next_of_one : (w : ℕ) → tseq_of w ≡ 1 → word_at (next_sequence_of w) 0 ≡ 0xFFFD_0002
  -- "Both valid and equal: bank 1"
  pub equal_first : (w : ℕ) → valid_of w ≡ true → bfswap_of w w ≡ false
  -- "Only bank 2 valid: BFSWAP 1"
  pub only_second : (w v : ℕ) → valid_of w ≡ false → valid_of v ≡ true → bfswap_of w v ≡ true
