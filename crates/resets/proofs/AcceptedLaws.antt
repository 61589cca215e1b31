-- What an accepted reset tells: what is lent fits and the device is possible. Assumes nothing.
use mathlib.Core.Path.{◌≡◌}
use mathlib.Core.Bool.{true}
use mathlib.Core.List.{[], ◌∷◌}
use Prim.Native.Nat.{ℕ}
use Rattle.geometry.specs.declared.banks.Geometry.{Geometry}
use Rattle.words.specs.Decline.{accepted_of}
use Rattle.words.proofs.DeclineLaws.{neither}
use Rattle.device.specs.declared.record.Device.{Device}
use Rattle.common_declines.specs.CommonDecline.{common_decline_of}
use Rattle.common_declines.proofs.CommonDeclineLaws.{Ready, ready}
use Rattle.resets.specs.Reset.{reset_decline_of}

pub reset_ready : (g : Geometry) (d : Device) (one two sram kind : ℕ) → accepted_of (reset_decline_of g d one two sram kind) ≡ true
    → Ready g d (one ∷ two ∷ []) sram
unfolding reset_decline_of
reset_ready g d one two sram kind h = ready g d (one ∷ two ∷ []) sram (neither (common_decline_of g d (one ∷ two ∷ []) sram) _ h).0
