-- Decline 3: "The device record is impossible". Assumes nothing.
use Rattle.std.specs.Prelude.{ℕ, Bool, not, ◌&&◌, eqb, leb, ltb}
use Rattle.words.specs.Word.{pick, has_of, all_below}
use Rattle.words.specs.Quad.{word_at}
use Rattle.geometry.specs.declared.banks.Geometry.{Geometry}
use Rattle.device.specs.declared.record.Device.{Device}
use Rattle.device.specs.declared.record.Operands.{Operands}
use Rattle.device.specs.Registers.{within_of, WRERR, LVDERR, ALWAYS}
use Rattle.device.specs.Record.{register_of, running, op_of}
use Rattle.nvmop.specs.Operation.{launched_begins_of, length_of}
use Rattle.device.specs.Numbers.{NVMADDR, NVMDATA0, NVMDATA1, NVMDATA2, NVMDATA3, NVMSRCADDR}

-- each register below number n is within its mask
abbrev pub rows_fit : Device → ℕ → Bool
rows_fit d n = all_below (λ r. within_of r (register_of d r)) n

-- "an unimplemented bit set", over the table of eleven rows; "NVMKEY not 0" is its row's mask, 0
unfoldable pub implemented_of : Device → Bool
implemented_of d = rows_fit d 11

-- the launched words are within rows 2 to 7 of the table, as registers are
unfoldable pub launched_fits_of : Operands → Bool
launched_fits_of l =
    within_of NVMADDR l.nvmaddr
    && (within_of NVMDATA0 (word_at l.nvmdata 0)
    && (within_of NVMDATA1 (word_at l.nvmdata 1)
    && (within_of NVMDATA2 (word_at l.nvmdata 2)
    && (within_of NVMDATA3 (word_at l.nvmdata 3)
    && within_of NVMSRCADDR l.nvmsrcaddr))))

-- W-209: "all 0"
unfoldable pub nothing_launched_of : Operands → Bool
nothing_launched_of l =
    eqb l.nvmaddr 0
    && (eqb (word_at l.nvmdata 0) 0
    && (eqb (word_at l.nvmdata 1) 0
    && (eqb (word_at l.nvmdata 2) 0
    && (eqb (word_at l.nvmdata 3) 0
    && eqb l.nvmsrcaddr 0))))

-- "WR = 1 with key step not 0, WRERR = 0, LVDERR = 1, an NVMOP or target for which no steps begin, or step number not
-- below its length": none of these; W-209: "3 judges the launched target"
unfoldable pub running_of : Geometry → Device → Bool
running_of g d =
    eqb d.keystep 0
    && (has_of d.nvmcon.0 WRERR
    && (not (has_of d.nvmcon.0 LVDERR)
    && (launched_begins_of g d
    && ltb d.step (length_of g (op_of d)))))

-- "WR = 0 with step number not 0": not so; W-209: "all 0 while WR is 0, else decline 3"
unfoldable pub resting_of : Device → Bool
resting_of d = eqb d.step 0 && nothing_launched_of d.launched

-- "an unimplemented bit set, NVMBWP bit 6 clear, NVMKEY not 0, key step above 3, WR = 0 with step number not 0, or WR = 1
-- with" the above: none of these
unfoldable pub possible_of : Geometry → Device → Bool
possible_of g d =
    implemented_of d
    && (launched_fits_of d.launched
    && (has_of d.nvmbwp.0 ALWAYS
    && (leb d.keystep 3
    && pick (running d) (running_of g d) (resting_of d))))
