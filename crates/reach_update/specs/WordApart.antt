-- The hypotheses of Differing and OneWordReaches are met: the update of Example, and an image that differs from its own in word 40.
-- Assumes nothing.
use Rattle.std.specs.Prelude.{ℕ, ◌/◌, ◌≡◌, List, [], ◌∷◌, length, set}
use Rattle.sequence.specs.Sequence.{sequence_quad_of}
use Rattle.update.specs.PowerFail.{at, Words, Update}
use Rattle.update.specs.Bench.{smallest}
use Rattle.update.specs.Example.{example_state, example_image, empty_srams}
use Rattle.update.specs.Moves.{moves_of, turn_moves}
use Rattle.update.specs.Moves.Move.{read}
use Rattle.reach.specs.Reach.{ReachAnswer, reach_of}
use Rattle.reach.specs.Differing.{OneWord}
use Rattle.reach_update.specs.SameRuns.{AtOnePlace}

abbrev pub other_image : List ℕ
other_image = set example_image 40 0

pub record WordApart : Type 0 where
  pub one : OneWord example_image other_image 40
  pub long : length example_image ≡ length other_image
  pub words : Words other_image
  pub update : Update smallest example_state example_image
  -- outside the sequence quad: its store to NVMDATA0 is action 71, and the call says so
  pub outside : 40 / 4 ≡ sequence_quad_of smallest → ⊥
  pub place : (reach_of smallest example_image other_image).answer ≡ ReachAnswer.Action 71
  -- lists of other moves at one place past it: eighty turns; a read that does not wait, and eighty turns
  pub one_place : AtOnePlace smallest example_state example_image other_image (turn_moves (empty_srams 80)) (read [] 0x1D00_0000 ∷ turn_moves (empty_srams 80))
  pub past : (moves_of smallest example_image (at example_state 0) (turn_moves (empty_srams 80))).place ≡ 80
