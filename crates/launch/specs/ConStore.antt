-- A store to NVMCON: the fields that it takes, and whether it launches. Assumes nothing.
use Rattle.std.specs.Prelude.{ℕ, Bool, false, ◌&&◌}
use Rattle.words.specs.Word.{pick, has_of, merge_of}
use Rattle.geometry.specs.declared.banks.Geometry.{Geometry}
use Rattle.device.specs.declared.record.Device.{Device}
use Rattle.device.specs.Registers.{WR, WREN}
use Rattle.device.specs.Builders.{with_con}
use Rattle.device.specs.Record.{is_open}
use Rattle.register_fields.specs.Fields.{con_takes_of}
use Rattle.launch.specs.declared.launch.Launched.{Launched}
use Rattle.launch.specs.Launch.{launched, launch_of}

-- "wanted 1 with WREN = 1 and key open launches"
unfoldable pub launches_of : Device → ℕ → Bool
launches_of d w = has_of w WR && (has_of d.nvmcon.0 WREN && is_open d)

-- the device whose NVMCON has taken the wanted value, field by field
abbrev pub taken_of : Device → ℕ → Device
taken_of d w = with_con d (merge_of (con_takes_of d) w d.nvmcon.0) d.keystep d.step

-- NVMCON after a store to it, the event, and what is launched
unfoldable pub con_store_of : Geometry → Device → ℕ → Launched
con_store_of g d w = pick (launches_of d w) (launch_of g (taken_of d w)) (launched (taken_of d w).nvmcon.0 false d.launched)
