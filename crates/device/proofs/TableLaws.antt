-- The rule of the table, proved once over its eleven rows: a reset value has no bit outside its mask. Assumes nothing.
use mathlib.Core.Path.{refl}
use Prim.Native.Nat.{ℕ, ◌<◌}
use lib.ListN.{get_or}
use Rattle.words.proofs.PickLaws.{all-below}
use Rattle.words.proofs.MaskLaws.{Within, test_within}
use Rattle.device.specs.Registers.{masks, resets, within_of}

pub resets_within : (r : ℕ) → r < 11 → Within (get_or masks r 0) (get_or resets r 0)
resets_within r l = test_within _ _ (all-below (λ r. within_of r (get_or resets r 0)) 11 refl r l)
