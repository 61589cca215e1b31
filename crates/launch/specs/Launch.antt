-- "Launch and flash steps", the launch, "In this order". Assumes nothing.
use Rattle.std.specs.Prelude.{ℕ, ◌+◌, Bool, true, false, ◌||◌, eqb, ltb}
use Rattle.std.specs.Int.Bits.{bit_or}
use Rattle.words.specs.Word.{pick, has_of, clear_of}
use Rattle.geometry.specs.declared.banks.Geometry.{Geometry}
use Rattle.device.specs.declared.record.Device.{Device}
use Rattle.device.specs.declared.record.Operands.{Operands}
use Rattle.launch.specs.declared.launch.Launched.{Launched}
use Rattle.device.specs.Registers.{WR, WRERR, LVDERR}
use Rattle.device.specs.Record.{op_of, operands_of}
use Rattle.nvmop.specs.Operation.{begins_of}
use Rattle.device.specs.Numbers.{no_operation, quad_program, both_erase}

abbrev pub launched : ℕ → Bool → Operands → Launched
launched nvmcon event operands = record { nvmcon = nvmcon; event = event; operands = operands }

-- "NVMOP 0: WRERR and LVDERR become 0, no event."; "WRERR or LVDERR set: no launch, no event."; "NVMOP 1 .. and 8 to 15 ..: no
-- launch, no event."; then "failure, meaning WRERR = 1, WR = 0, event", or "Otherwise WR = 1, WRERR = 1, and steps begin."
-- W-209: where they begin, the record holds "all six registers as they stood"
unfoldable pub launch_of : Geometry → Device → Launched
launch_of g d =
    pick (eqb (op_of d) no_operation) (launched (clear_of d.nvmcon.0 (WRERR + LVDERR)) false d.launched)
    (pick (has_of d.nvmcon.0 (WRERR + LVDERR)) (launched d.nvmcon.0 false d.launched)
    (pick (ltb (op_of d) quad_program || ltb both_erase (op_of d)) (launched d.nvmcon.0 false d.launched)
    (pick (begins_of g d) (launched (bit_or d.nvmcon.0 (WR + WRERR)) false (operands_of d))
    (launched (bit_or d.nvmcon.0 WRERR) true d.launched))))
