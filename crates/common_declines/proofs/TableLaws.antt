-- The rule of the table over its eleven rows: no register of a possible device has a bit outside its mask. Assumes nothing.
use mathlib.Core.Path.{◌≡◌}
use mathlib.Core.Bool.{true}
use Prim.Native.Nat.{ℕ, ◌<◌}
use lib.ListN.{get_or}
use Rattle.words.proofs.PickLaws.{and_both, all-below}
use Rattle.words.proofs.MaskLaws.{Within, test_within}
use Rattle.geometry.specs.declared.banks.Geometry.{Geometry}
use Rattle.device.specs.declared.record.Device.{Device}
use Rattle.device.specs.Registers.{masks, within_of}
use Rattle.device.specs.Record.{register_of}
use Rattle.common_declines.specs.Possible.{implemented_of, possible_of}

-- "Other bits read 0."
pub reads_within : (g : Geometry) (d : Device) → possible_of g d ≡ true → (r : ℕ) → r < 11 → Within (get_or masks r 0) (register_of d r)
unfolding possible_of implemented_of
reads_within g d h r l = test_within _ _ (all-below (λ r. within_of r (register_of d r)) 11 (and_both (implemented_of d) _ h).0 r l)
