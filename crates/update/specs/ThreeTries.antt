-- The hypotheses of W-212 are met: three tries of the update of Example. Assumes nothing.
use Rattle.std.specs.Prelude.{true, [], ◌∷◌}
use Rattle.update.specs.PowerFail.{Cut, Runs, old}
use Rattle.update.specs.Bench.{smallest, bench_bank}
use Rattle.update.specs.Example.{example_state, example_image, empty_srams}
use Rattle.update.specs.Tries.{Try, tries_of, Tried}
use Rattle.update.specs.Tries.Interruption.{reset, begun_start_up}
use Rattle.update.specs.OneTry.{one_try}
use Rattle.update.specs.Moves.{turn_moves}
use Rattle.update.specs.Moves.End.{whole}

-- brown-outs: their masks choose every bit intended, and every bit old
abbrev pub all_intended : Cut
all_intended = record { sram = []; kind = 1; mask = 0xFFFF_FFFF ∷ 0xFFFF_FFFF ∷ 0xFFFF_FFFF ∷ 0xFFFF_FFFF ∷ [] }

abbrev pub all_old : Cut
all_old = record { sram = []; kind = 1; mask = 0 ∷ 0 ∷ 0 ∷ 0 ∷ [] }

-- cut in the erasing, after the first step of the first page, with a start-up that is cut and a reset after it
abbrev pub in_erasing : Try
in_erasing = record { moves = turn_moves (empty_srams 20); end = whole; cut = all_intended; later = begun_start_up 2 ∷ reset all_old ∷ [] }

-- cut in the last step, of 252 actions the one at place 250; and the whole update, cut at its end
abbrev pub in_last_step : Try
in_last_step = one_try (empty_srams 250) all_old

abbrev pub uncut : Try
uncut = one_try (empty_srams 252) all_intended

pub record ThreeTries : Type 0 where
  pub tried : Tried smallest example_image (old example_state) example_state (in_erasing ∷ in_last_step ∷ uncut ∷ [])
  -- the sign then runs bank 2, with the image and T = 2
  pub ends : Runs (tries_of smallest example_image example_state (in_erasing ∷ in_last_step ∷ uncut ∷ [])) true (bench_bank 0xFFFD_0002)
