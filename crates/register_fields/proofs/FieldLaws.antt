-- The masks of the fields that take a store are small, and each is inside its register's mask.
-- Assumes nothing.
use mathlib.Core.Path.{◌≡◌, refl}
use mathlib.Core.Bool.{Bool, true, false}
use Prim.Native.Nat.{ℕ, ◌+◌, ◌≤◌, ◌/◌, ◌%◌}
use native.Mathlib.Omega.{arith}
use lib.Dec.{eqb}
use Rattle.words.specs.Word.{pick, has_of}
use Rattle.words.proofs.PickLaws.{pick_both, pick_same}
use Rattle.words.proofs.MaskLaws.{Within}
use Rattle.device.specs.declared.record.Device.{Device}
use Rattle.device.specs.Registers.{WREN, PFSWAP, BFSWAP, NVMOP, PWPULOCK, LBWPULOCK, UBWPULOCK, SWAPLOCK}
use Rattle.device.specs.Record.{is_open}
use Rattle.register_fields.specs.Fields.{con_takes_of, pwp_takes_of, lower_takes_of, upper_takes_of, bwp_takes_of}
use Rattle.register_fields.specs.Fields.{keyed_takes_of, swaplock_takes_of, con2_takes_of}

pub lower_high : (d : Device) → lower_takes_of d ≤ 0x9F00
lower_high d = pick_both (λ (x : ℕ). x ≤ 0x9F00) (has_of d.nvmbwp.0 LBWPULOCK) (omega arith) (omega arith)

pub upper_high : (d : Device) → upper_takes_of d ≤ 0x9F
upper_high d = pick_both (λ (x : ℕ). x ≤ 0x9F) (has_of d.nvmbwp.0 UBWPULOCK) (omega arith) (omega arith)

pub keyed_high : (d : Device) → keyed_takes_of d ≤ 0x1F_B000
keyed_high d = pick_both (λ (x : ℕ). x ≤ 0x1F_B000) (is_open d) (omega arith) (omega arith)

pub swaplock_high : (d : Device) → swaplock_takes_of d ≤ 0xC0
swaplock_high d = pick_both (λ (x : ℕ). x ≤ 0xC0) (eqb (d.nvmcon2.0 / 64 % 4) 3) (omega arith) (omega arith)

-- ---- what takes is inside the register's mask: of NVMCON not WR, WRERR and LVDERR, of NVMBWP not bit 6
pub con_takes_within : (d : Device) → Within 0x40CF (con_takes_of d)
unfolding con_takes_of
con_takes_within d = go (has_of d.nvmcon.0 WREN) (has_of d.nvmcon2.0 SWAPLOCK) (is_open d)
  where
    go : (enabled locked open' : Bool)
        → Within 0x40CF (WREN + pick enabled 0 NVMOP + pick enabled 0 (pick locked 0 (pick open' (PFSWAP + BFSWAP) 0)))
    go true locked open' = record { inside = refl }
    go false true open' = record { inside = refl }
    go false false true = record { inside = refl }
    go false false false = record { inside = refl }

pub pwp_takes_within : (d : Device) → Within 0x80FF_FFFF (pwp_takes_of d)
unfolding pwp_takes_of
pwp_takes_within d =
    pick_both (Within 0x80FF_FFFF) (is_open d)
    (pick_both (Within 0x80FF_FFFF) (has_of d.nvmpwp.0 PWPULOCK) (record { inside = refl }) (record { inside = refl }))
    (record { inside = refl })

pub bwp_takes_within : (d : Device) → Within 0x9F9F (bwp_takes_of d)
unfolding bwp_takes_of
bwp_takes_within d =
    pick_both (Within 0x9F9F) (is_open d) (go (has_of d.nvmbwp.0 LBWPULOCK) (has_of d.nvmbwp.0 UBWPULOCK)) (record { inside = refl })
  where
    go : (lower upper : Bool) → Within 0x9F9F (pick lower 0x9F00 0 + pick upper 0x9F 0)
    go true true = record { inside = refl }
    go true false = record { inside = refl }
    go false true = record { inside = refl }
    go false false = record { inside = refl }

pub con2_takes_within : (d : Device) → Within 0xF01F_B3C0 (con2_takes_of d)
unfolding con2_takes_of
con2_takes_within d = go (is_open d) (eqb (d.nvmcon2.0 / 64 % 4) 3)
  where
    go : (open' locked : Bool) → Within 0xF01F_B3C0 (0xF000_0300 + pick open' 0x1F_B000 0 + pick locked 0 SWAPLOCK)
    go true true = record { inside = refl }
    go true false = record { inside = refl }
    go false true = record { inside = refl }
    go false false = record { inside = refl }

-- ---- WREN always takes; the rest of NVMCON by WREN and the key
pub con_takes_wren : (d : Device) → Within (con_takes_of d) WREN
unfolding con_takes_of
con_takes_wren d = go (has_of d.nvmcon.0 WREN) (has_of d.nvmcon2.0 SWAPLOCK) (is_open d)
  where
    go : (enabled locked open' : Bool)
        → Within (WREN + pick enabled 0 NVMOP + pick enabled 0 (pick locked 0 (pick open' (PFSWAP + BFSWAP) 0))) WREN
    go true locked open' = record { inside = refl }
    go false true open' = record { inside = refl }
    go false false true = record { inside = refl }
    go false false false = record { inside = refl }

pub con_takes_enabled : (d : Device) → has_of d.nvmcon.0 WREN ≡ true → con_takes_of d ≡ WREN
unfolding con_takes_of
con_takes_enabled d enabled = rw enabled

pub con_takes_shut : (d : Device) → has_of d.nvmcon.0 WREN ≡ false → is_open d ≡ false → con_takes_of d ≡ WREN + NVMOP
unfolding con_takes_of
con_takes_shut d off shut = rw (off, shut, pick_same {A = ℕ} (has_of d.nvmcon2.0 SWAPLOCK) 0)
