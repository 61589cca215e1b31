-- Demand 2: "each updater turn performs the action of its listed place and no other": what a turn finds by division is the list's action.
-- Assumes nothing.
use Rattle.std.specs.Prelude.{ℕ, ◌<◌, ◌≡◌, List, length, get_or}
use Rattle.geometry.specs.declared.banks.Geometry.{Geometry}
use Rattle.update.specs.declared.actions.Action.TheVariants.{Step}
use Rattle.update.specs.Actions.{actions_of, total_of, action_at_of}

pub record Listed : Type 0 where
  -- "Total 12 + 8×N + 112×N×Q.": as many actions, for every image and every sequence word of the lower-alias bank
  pub total : (g : Geometry) (image : List ℕ) (w : ℕ) → length (actions_of g image w) ≡ total_of g
  -- "the action of its listed place"
  pub action : (g : Geometry) (image : List ℕ) (w place : ℕ) → place < total_of g → action_at_of g image w place ≡ get_or (actions_of g image w) place Step
