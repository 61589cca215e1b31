-- The bench values of the paper: all that it marks ★, with those of the layers below, and the values of an update start. Assumes nothing.
use Rattle.std.specs.Prelude.{ℕ, ◌≡◌, true, List, length, set, replicate}
use Rattle.words.specs.Word.{all_ones}
use Rattle.geometry.specs.declared.banks.Geometry.{Geometry}
use Rattle.geometry.specs.Banks.{pages_of, bank_words_of}
use Rattle.words.specs.Decline.{Verdict, number_of, accepted_of}
use Rattle.sequence.specs.Sequence.{sequence_index_of}
use Rattle.device.specs.Builders.{power_on}
use Rattle.nvmop.specs.Bench as operation-bench
use Rattle.device.specs.State.{State, state}
use Rattle.update.specs.Actions.{total_of}
use Rattle.update.specs.Start.{start_of}

-- the bench: "Q=B=P=1, all ones but bank 1's sequence word", and here bank 2's too, "after power-on" (`bench_power_on` of proofs/Bench: any
-- power-on of the banks below gives this device)
abbrev pub smallest : Geometry
smallest = record { q = 1; b = 1; p = 1 }

abbrev pub bench_bank : ℕ → List ℕ
bench_bank word = set (replicate (bank_words_of smallest) all_ones) (sequence_index_of smallest) word

abbrev pub bench_state : ℕ → ℕ → State
bench_state first second = state power_on (bench_bank first) (bench_bank second)

-- the answer to an update start there, by the sequence words of bank 1, which is lower, and of bank 2
abbrev pub bench_start : ℕ → ℕ → List ℕ → Verdict
bench_start first second image = (start_of smallest (bench_state first second) image).decline

pub record Bench : Type 0 where
  pub operation : operation-bench.Bench
  -- ★ "Total for N=2, Q=1: 252"
  pub total_small : (g : Geometry) → pages_of g ≡ 2 → g.q ≡ 1 → total_of g ≡ 252
  -- ★ "N=69, Q=128: 989,748"
  pub total_large : (g : Geometry) → pages_of g ≡ 69 → g.q ≡ 128 → total_of g ≡ 989748
  -- "t = 65,534 starts, 65,535 doesn't."
  pub last_but_one : (image : List ℕ) → length image ≡ bank_words_of smallest → accepted_of (bench_start 0x0001_FFFE 0xFFFF_FFFF image) ≡ true
  pub last : (image : List ℕ) → length image ≡ bank_words_of smallest → number_of (bench_start 0x0000_FFFF 0xFFFF_FFFF image) ≡ 11
  -- "Other bank's sequence word 0x00000000: 10; 0xFFFFFFFF starts."
  pub other_zero : (image : List ℕ) → length image ≡ bank_words_of smallest → number_of (bench_start 0xFFFE_0001 0x0000_0000 image) ≡ 10
  pub other_erased : (image : List ℕ) → length image ≡ bank_words_of smallest → accepted_of (bench_start 0xFFFE_0001 0xFFFF_FFFF image) ≡ true
