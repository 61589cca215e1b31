-- "Registers": what a store asks for, and which fields take it. Masks of fields that do not overlap are added.
-- Assumes nothing.
use Rattle.std.specs.Prelude.{ℕ, ◌+◌, ◌/◌, ◌%◌, ◌&&◌, eqb, ltb}
use Rattle.std.specs.Int.Bits.{bit_or, bit_xor}
use Rattle.words.specs.Word.{pick, has_of, clear_of}
use Rattle.device.specs.declared.record.Device.{Device}
use Rattle.device.specs.Record.{is_open}
use Rattle.device.specs.Registers.{WREN, PFSWAP, BFSWAP, NVMOP, PWPULOCK, PWP, LBWPULOCK, LBWP, UBWPULOCK, UBWP}
use Rattle.device.specs.Registers.{NVMERS, NVMWS, NVMLPRD, NVMCRD, NVMVRD, NVMRETRY, SWAPLOCK}
use Rattle.device.specs.Numbers.{plain, clear, set, key1, key2, key3}

-- "A store has form 0 plain, 1 clear, 2 set or 3 invert"; "The form gives a wanted value"
abbrev pub wanted_of : ℕ → ℕ → ℕ → ℕ
wanted_of form old value =
    pick (eqb form plain) value (pick (eqb form clear) (clear_of old value) (pick (eqb form set) (bit_or old value) (bit_xor old value)))

-- "stores of 0, 0xAA996655, 0x556699AA to NVMKEY raise the key step to 1, 2, 3"; "out of turn sets it to 1 if its value is
-- 0, else to 0"
unfoldable pub key_next_of : ℕ → ℕ → ℕ
key_next_of keystep value =
    pick (eqb value key1) 1
    (pick (eqb keystep 1 && eqb value key2) 2
    (pick (eqb keystep 2 && eqb value key3) 3 0))

-- W-203: "a register read at key step 1 leaves the step at 1; at 2 or 3 it still closes the key"; at 0 it stays 0
unfoldable pub key_after_read_of : ℕ → ℕ
key_after_read_of keystep = pick (ltb keystep 2) keystep 0

-- "WREN: always, by a launching store too. NVMOP: WREN = 0. PFSWAP, BFSWAP: WREN = 0, SWAPLOCK = 0, key open. WRERR and LVDERR: never."
unfoldable pub con_takes_of : Device → ℕ
con_takes_of d =
    WREN
    + pick (has_of d.nvmcon.0 WREN) 0 NVMOP
    + pick (has_of d.nvmcon.0 WREN) 0 (pick (has_of d.nvmcon2.0 SWAPLOCK) 0 (pick (is_open d) (PFSWAP + BFSWAP) 0))

-- "NVMPWP, NVMBWP: key open; lock bits only fall; the fields under a lock bit need it to be 1." A lock bit takes the
-- wanted value only where it is 1, so it only falls
unfoldable pub pwp_takes_of : Device → ℕ
pwp_takes_of d = pick (is_open d) (pick (has_of d.nvmpwp.0 PWPULOCK) (PWPULOCK + PWP) 0) 0

abbrev pub lower_takes_of : Device → ℕ
lower_takes_of d = pick (has_of d.nvmbwp.0 LBWPULOCK) (LBWPULOCK + LBWP) 0

abbrev pub upper_takes_of : Device → ℕ
upper_takes_of d = pick (has_of d.nvmbwp.0 UBWPULOCK) (UBWPULOCK + UBWP) 0

unfoldable pub bwp_takes_of : Device → ℕ
bwp_takes_of d = pick (is_open d) (lower_takes_of d + upper_takes_of d) 0

-- "NVMWS, NVMLPRD, NVMCRD, NVMVRD need the key"
abbrev pub keyed_takes_of : Device → ℕ
keyed_takes_of d = pick (is_open d) (NVMWS + NVMLPRD + NVMCRD + NVMVRD) 0

-- "SWAPLOCK needs SWAPLOCK other than 3": bits 7 to 6
abbrev pub swaplock_takes_of : Device → ℕ
swaplock_takes_of d = pick (eqb (d.nvmcon2.0 / 64 % 4) 3) 0 SWAPLOCK

-- "Fields given no condition always take the wanted value."
unfoldable pub con2_takes_of : Device → ℕ
con2_takes_of d = NVMERS + NVMRETRY + keyed_takes_of d + swaplock_takes_of d
