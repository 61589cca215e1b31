-- Decline 3, clause by clause: "The device record is impossible". Assumes nothing.
use Rattle.std.specs.Prelude.{ℕ, ◌%◌, ◌≤◌, ◌<◌, ◌≡◌, true, false, get_or}
use Rattle.words.specs.Word.{bit}
use Rattle.geometry.specs.declared.banks.Geometry.{Geometry}
use Rattle.geometry.specs.Banks.{in_range_of}
use Rattle.device.specs.declared.record.Device.{Device}
use Rattle.device.specs.Record.{register_of}
use Rattle.device.specs.ByNumber.{mask_column, launched_of}
use Rattle.nvmop.specs.Operation.{length_of}
use Rattle.nvmop.specs.Failing.{Fails}
use Rattle.common_declines.specs.Possible.{possible_of}

-- none of its clauses applies
pub record PossibleDevice (g : Geometry) (d : Device) : Type 0 where
  -- "an unimplemented bit set", by the table; of what was launched, by the rows of registers 2 to 7
  pub implemented : (r : ℕ) → r < 11 → (k : ℕ) → bit k (register_of d r) ≡ true → bit k (get_or mask_column r 0) ≡ true
  pub launched_bits : (r : ℕ) → 1 < r → r < 8 → (k : ℕ) → bit k (launched_of d r) ≡ true → k < 32
  -- "NVMBWP bit 6 clear, NVMKEY not 0, key step above 3"
  pub always : bit 6 (register_of d 9) ≡ true
  pub key : register_of d 1 ≡ 0
  pub key_step : d.keystep ≤ 3
  -- "WR = 0 with step number not 0"; W-209: "all 0 while WR is 0, else decline 3"
  pub rests : bit 15 (register_of d 0) ≡ false → d.step ≡ 0
  pub rests_launched : bit 15 (register_of d 0) ≡ false → (r : ℕ) → 1 < r → r < 8 → launched_of d r ≡ 0
  -- "or WR = 1 with key step not 0, WRERR = 0, LVDERR = 1"
  pub runs_key : bit 15 (register_of d 0) ≡ true → d.keystep ≡ 0
  pub runs_errors : bit 15 (register_of d 0) ≡ true → (bit 13 (register_of d 0) ≡ true) × (bit 12 (register_of d 0) ≡ false)
  -- "an NVMOP or target for which no steps begin", where W-209's "3 judges the launched target"
  pub runs_op : bit 15 (register_of d 0) ≡ true → (2 ≤ register_of d 0 % 16) × (register_of d 0 % 16 ≤ 7)
  pub runs_target : bit 15 (register_of d 0) ≡ true → Fails g (register_of d 0 % 16) (launched_of d 2) (register_of d 8 % 0x100_0000) → ⊥
  -- "or step number not below its length"
  pub runs_step : bit 15 (register_of d 0) ≡ true → d.step < length_of g (register_of d 0 % 16)

pub record DeclineThree : Type 0 where
  -- the test of decline 3 takes these devices and no others
  pub taken : (g : Geometry) (d : Device) → in_range_of g ≡ true → PossibleDevice g d → possible_of g d ≡ true
  pub only : (g : Geometry) (d : Device) → in_range_of g ≡ true → possible_of g d ≡ true → PossibleDevice g d
