-- What an accepted flash read tells: what is lent fits, the device is possible, and the address is in a window. Assumes nothing.
use mathlib.Core.Path.{◌≡◌, refl}
use Rattle.std.specs.Prelude.{Err}
use mathlib.Core.Bool.{Bool, true, false}
use mathlib.Core.List.{[], ◌∷◌}
use Prim.Native.Nat.{ℕ, ◌%◌}
use lib.Dec.{eqb}
use Rattle.words.specs.Word.{pick}
use Rattle.geometry.specs.declared.banks.Geometry.{Geometry}
use Rattle.words.specs.declared.decline.Decline.{Decline}
use Rattle.words.specs.Decline.{accepted_of}
use Rattle.map.specs.Windows.{locate_of}
use Rattle.words.proofs.DeclineLaws.{held, neither}
use Rattle.device.specs.declared.record.Device.{Device}
use Rattle.common_declines.specs.CommonDecline.{common_decline_of}
use Rattle.common_declines.proofs.CommonDeclineLaws.{Ready, ready}
use Rattle.reads.specs.Read.{readable_of, flash_read_decline_of}

pub read_ready : (g : Geometry) (d : Device) (one two sram address : ℕ) → accepted_of (flash_read_decline_of g d one two sram address) ≡ true
    → Ready g d (one ∷ two ∷ []) sram × ((locate_of g address).inside ≡ true)
unfolding flash_read_decline_of
read_ready g d one two sram address h =
    let s0 = neither (common_decline_of g d (one ∷ two ∷ []) sram) _ h in
    let s1 = held (readable_of g address) _ (Err Decline.Address) refl s0.1 in
    (ready g d (one ∷ two ∷ []) sram s0.0, inside (locate_of g address).inside s1.0)
  where
    inside : (t : Bool) → pick t (eqb (address % 4) 0) false ≡ true → t ≡ true
    inside true e = refl
    inside false e = e
