-- The hypotheses of power-fail safety are met: an update that is accepted, and its run. Assumes nothing.
use Rattle.std.specs.Prelude.{ℕ, ◌≤◌, ◌≡◌, true, List, [], length, replicate}
use Rattle.words.specs.Word.{all_ones}
use Rattle.geometry.specs.Banks.{bank_words_of}
use Rattle.device.specs.State.{State}
use Rattle.update.specs.PowerFail.{after_turns, place_after, Cut, restarted, Runs, Update}
use Rattle.update.specs.Bench.{smallest, bench_bank, bench_state}
use Rattle.geometry.specs.Lent.{most_sram}
use Rattle.resets.specs.Reset.{other_reset}

-- the bench with bank 1's sequence word 0xFFFE0001, and an image of all ones
abbrev pub example_state : State
example_state = bench_state 0xFFFE_0001 0xFFFF_FFFF

abbrev pub example_image : List ℕ
example_image = replicate (bank_words_of smallest) all_ones

-- the empty SRAMs of so many turns
abbrev pub empty_srams : ℕ → List (List ℕ)
empty_srams n = replicate n []

pub record Example : Type 0 where
  -- "any accepted update": this is one
  pub update : Update smallest example_state example_image
  -- "as many turns as the total reach it, so a run A exists": 252 turns
  pub reaches : place_after smallest example_state example_image (empty_srams 252) ≡ 252
  -- "After A, whatever reset and then a completed start-up follow, the sign runs the new bank": bank 2 with the image and T = 2
  pub new_runs : (c : Cut) → length c.sram ≤ most_sram → c.kind ≤ other_reset
      → Runs (restarted smallest (after_turns smallest example_state example_image (empty_srams 252)) c) true (bench_bank 0xFFFD_0002)
