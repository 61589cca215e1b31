-- "The device record holds eleven registers, the key step (0 to 3) and the step number"; W-209: and what was launched. Assumes nothing.
use Rattle.std.specs.Prelude.{ℕ, ◌%◌, Bool, [], ◌∷◌, eqb}
use Rattle.words.specs.Word.{pick, has_of}
use Rattle.words.specs.Quad.{word_at}
use Rattle.device.specs.declared.record.Device.{Device}
use Rattle.device.specs.declared.record.Operands.{Operands}
use Rattle.device.specs.Registers.{WR, PFSWAP, BFSWAP}
use Rattle.device.specs.Numbers.{NVMCON, NVMKEY, NVMADDR, NVMDATA0, NVMDATA1, NVMDATA2, NVMDATA3, NVMSRCADDR, NVMPWP, NVMBWP, NVMCON2}

-- a register by its number, and 0 where there is none (ours; no call answers with it)
unfoldable pub register_of : Device → ℕ → ℕ
register_of d r =
    pick (eqb r NVMCON) d.nvmcon.0
    (pick (eqb r NVMKEY) d.nvmkey
    (pick (eqb r NVMADDR) d.nvmaddr
    (pick (eqb r NVMDATA0) (word_at d.nvmdata 0)
    (pick (eqb r NVMDATA1) (word_at d.nvmdata 1)
    (pick (eqb r NVMDATA2) (word_at d.nvmdata 2)
    (pick (eqb r NVMDATA3) (word_at d.nvmdata 3)
    (pick (eqb r NVMSRCADDR) d.nvmsrcaddr
    (pick (eqb r NVMPWP) d.nvmpwp.0
    (pick (eqb r NVMBWP) d.nvmbwp.0
    (pick (eqb r NVMCON2) d.nvmcon2.0 0))))))))))

-- "all six registers as they stood before the launching store, unrounded": what registers 2 to 7 hold
abbrev pub operands_of : Device → Operands
operands_of d = record { nvmaddr = d.nvmaddr; nvmdata = d.nvmdata; nvmsrcaddr = d.nvmsrcaddr }

-- "all 0 while WR is 0"
abbrev pub no_operands : Operands
no_operands = record { nvmaddr = 0; nvmdata = 0 ∷ 0 ∷ 0 ∷ 0 ∷ []; nvmsrcaddr = 0 }

-- the bits of NVMCON that other rules ask for
abbrev pub running : Device → Bool
running d = has_of d.nvmcon.0 WR

abbrev pub bfswap : Device → Bool
bfswap d = has_of d.nvmcon.0 BFSWAP

abbrev pub pfswap : Device → Bool
pfswap d = has_of d.nvmcon.0 PFSWAP

abbrev pub op_of : Device → ℕ
op_of d = d.nvmcon.0 % 16

-- "3 is open"
abbrev pub is_open : Device → Bool
is_open d = eqb d.keystep 3
