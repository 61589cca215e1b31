-- "Banks and map", the sequence word by its bits. Assumes nothing.
use Rattle.std.specs.Prelude.{ℕ, ◌+◌, ◌%◌, ◌^◌, ◌<◌, ◌≡◌, true, not}
use Rattle.words.specs.Word.{bit}
use Rattle.words.specs.Quad.{word_at}
use Rattle.sequence.specs.Sequence.{tseq_of, valid_of, next_sequence_of}

pub record Validity : Type 0 where
  -- "Its low 16 bits are T, its high 16 bits C."
  pub low_half : (w : ℕ) → tseq_of w ≡ w % 65536
  -- "It is valid when C is the bitwise complement of T (house).", and only then
  pub valid : (w : ℕ) → w < 2 ^ 32 → ((k : ℕ) → k < 16 → bit (16 + k) w ≡ not (bit k w)) → valid_of w ≡ true
  pub only : (w : ℕ) → valid_of w ≡ true → (k : ℕ) → k < 16 → bit (16 + k) w ≡ not (bit k w)
  -- "the new sequence quad is T = t+1 (modulo 65,536), its complement, then three words of all ones"
  pub next_half : (w : ℕ) → word_at (next_sequence_of w) 0 % 65536 ≡ (w % 65536 + 1) % 65536
  pub next_valid : (w : ℕ) → (k : ℕ) → k < 16 → bit (16 + k) (word_at (next_sequence_of w) 0) ≡ not (bit k (word_at (next_sequence_of w) 0))
  pub next_word : (w : ℕ) → word_at (next_sequence_of w) 0 < 2 ^ 32
  pub next_rest : (w j : ℕ) → 0 < j → j < 4 → word_at (next_sequence_of w) j ≡ 0xFFFF_FFFF
