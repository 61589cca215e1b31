-- Declines 1, 2 and 3, which open every call of the device. Assumes nothing.
use Rattle.std.specs.Prelude.{ℕ, ◌≡◌, true, false, List, Ok, Err}
use Rattle.words.specs.Word.{pick}
use Rattle.geometry.specs.declared.banks.Geometry.{Geometry}
use Rattle.words.specs.declared.decline.Decline.{Decline}
use Rattle.words.specs.Decline.{Verdict, first_of}
use Rattle.geometry.specs.Banks.{in_range_of}
use Rattle.geometry.specs.Lent.{Fit, LentDeclines, lent_decline_of}
use Rattle.device.specs.declared.record.Device.{Device}
use Rattle.common_declines.specs.Possible.{possible_of}

-- by the geometry, the lengths of the banks and of the SRAM that are lent, and the device
unfoldable pub common_decline_of : Geometry → Device → List ℕ → ℕ → Verdict
common_decline_of g d lengths sram = first_of (lent_decline_of g lengths sram) (pick (possible_of g d) (Ok tt) (Err Decline.Device))

-- ---- the same as facts of a call and of the number of its answer (proofs/DeclineLaws)

-- none of the three applies
pub record Usable (g : Geometry) (d : Device) (lengths : List ℕ) (sram : ℕ) : Type 0 where
  pub listed : in_range_of g ≡ true
  pub fits : Fit g lengths sram
  pub possible : possible_of g d ≡ true

-- what they ask of the number
pub record CommonDeclines (g : Geometry) (d : Device) (lengths : List ℕ) (sram number : ℕ) : Type 0 where
  pub lent : LentDeclines g lengths sram number
  -- "The device record is impossible"
  pub impossible : in_range_of g ≡ true → Fit g lengths sram → possible_of g d ≡ false → number ≡ 3
