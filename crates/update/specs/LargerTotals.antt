-- W-211: totals and values of the larger signs. Assumes nothing.
use Rattle.std.specs.Prelude.{ℕ, ◌*◌, ◌^◌, ◌≤◌, ◌<◌, ◌≡◌, true, List, length, get_or}
use Rattle.script_format.specs.Records.{record_of, bytes_of, is_script_of}
use Rattle.geometry.specs.declared.banks.Geometry.{Geometry}
use Rattle.geometry.specs.Banks.{in_range_of}
use Rattle.geometry.specs.LargerBanks.{most_before}
use Rattle.nvmop.specs.Operation.{length_of}
use Rattle.update.specs.declared.actions.Action.{Action}
use Rattle.update.specs.Actions.{recorded, action_at_of, total_of}
use Rattle.update.specs.PowerFail.{Words}

-- "a value still has 4 bytes": the record's 8 bytes are a script and are read as the action
pub record Recorded (a : Action) : Type 0 where
  pub eight : length (bytes_of (recorded a)) ≡ 8
  pub bytes : (k : ℕ) → get_or (bytes_of (recorded a)) k 0 < 256
  pub known : is_script_of (bytes_of (recorded a)) ≡ true
  pub says : record_of (bytes_of (recorded a)) 0 ≡ recorded a

pub record LargerTotals : Type 0 where
  -- "the largest total becomes 1,907,764": of N = 133 pages with Q = 128, which are accepted
  pub largest : (g : Geometry) → g.b ≡ 5 → g.p ≡ 128 → g.q ≡ 128 → (in_range_of g ≡ true) × (total_of g ≡ 1907764)
  pub most : (g : Geometry) → in_range_of g ≡ true → total_of g ≤ 1907764
  -- 01's largest total
  pub before : (g : Geometry) → g.b ≡ 5 → g.p ≡ most_before → g.q ≡ 128 → total_of g ≡ 989748
  -- a place, a total, the bytes of the records of all its actions and a step number have 4 bytes
  pub places : (g : Geometry) → in_range_of g ≡ true → 8 * total_of g < 2 ^ 32
  pub steps : (g : Geometry) → in_range_of g ≡ true → (op : ℕ) → length_of g op < 2 ^ 32
  -- "a value still has 4 bytes": every action of an update has its record
  pub records : (g : Geometry) → in_range_of g ≡ true → (image : List ℕ) → Words image → (w place : ℕ) → place < total_of g
      → Recorded (action_at_of g image w place)
