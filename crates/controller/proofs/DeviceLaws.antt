-- A reset leaves a possible device, and after it BFSWAP is the comparison.
-- Assumes nothing.
use mathlib.Core.Path.{◌≡◌, refl, ◌∙◌}
use mathlib.Core.Bool.{Bool, true, false, ◌&&◌, or-false, and-false}
use Prim.Native.Nat.{ℕ}
use native.Mathlib.Omega.{arith}
use lib.Dec.{eqb, lit<}
use lib.Bits.{bit_or}
use Rattle.words.specs.Word.{pick, bit, has_of, clear_of}
use Rattle.words.proofs.CaseLaws.{below_four}
use Rattle.words.proofs.PickLaws.{pick_both}
use Rattle.words.proofs.BitLaws.{bit-or, clear_bit, has_bit}
use Rattle.words.proofs.MaskLaws.{Within, merge_within, or_within, clear_within}
use Rattle.geometry.specs.declared.banks.Geometry.{Geometry}
use Rattle.device.specs.declared.record.Device.{Device}
use Rattle.device.specs.Registers.{WR, LVDERR, BFSWAP, NVMERS}
use Rattle.device.specs.Builders.{power_on, with_con}
use Rattle.device.specs.Record.{running, bfswap}
use Rattle.common_declines.specs.Possible.{launched_fits_of, nothing_launched_of, resting_of, possible_of}
use Rattle.common_declines.proofs.PossibleLaws.{Implemented, Possible, possible, possible_test, same_rows}
use Rattle.resets.specs.Reset.{reset_con_of, reset_device_of}

fresh_rows : Implemented power_on
fresh_rows =
    record {
      con = record { inside = refl };
      key = record { inside = refl };
      addr = lit< tt;
      words = below_four _ (lit< tt) (lit< tt) (lit< tt) (lit< tt);
      src = lit< tt;
      pwp = record { inside = refl };
      bwp = record { inside = refl };
      con2 = record { inside = refl };
    }

pub power_on_possible : (g : Geometry) → possible_of g power_on ≡ true
unfolding launched_fits_of resting_of nothing_launched_of
power_on_possible g =
    possible_test g power_on (record { rows = fresh_rows; launched = refl; always = refl; keys = omega arith; runs = refl })

module _ (g : Geometry) (d : Device) (can : possible_of g d ≡ true) (kind : ℕ) (swap : Bool) where
  old : Possible g d
  old = possible g d can

  -- NVMCON after a reset: within its mask, WR and BFSWAP clear before the comparison
  Cleared : ℕ → Type 0
  Cleared c = Within 0xF0CF c × (bit 15 c ≡ false) × (bit 6 c ≡ false)

  cleared : Cleared (reset_con_of d kind)
  unfolding reset_con_of Cleared
  cleared =
      pick_both Cleared (eqb kind 0) (record { inside = refl }, refl, refl)
      (pick_both Cleared (eqb kind 1 && running d) (
        or_within 0xF0CF kept LVDERR keeps.0 (record { inside = refl }),
        bit-or 15 kept LVDERR ∙ or-false (bit 15 kept) ∙ keeps.1,
        bit-or 6 kept LVDERR ∙ or-false (bit 6 kept) ∙ keeps.2,
      )
      keeps)
    where
      kept : ℕ
      kept = clear_of d.nvmcon.0 0xC0C0

      keeps : Cleared kept
      keeps = (
        clear_within 0xF0CF d.nvmcon.0 0xC0C0 old.rows.con,
        clear_bit 15 d.nvmcon.0 0xC0C0 ∙ and-false (bit 15 d.nvmcon.0),
        clear_bit 6 d.nvmcon.0 0xC0C0 ∙ and-false (bit 6 d.nvmcon.0),
      )

  con : ℕ
  con = bit_or (reset_con_of d kind) (pick swap BFSWAP 0)

  con_within : Within 0xF0CF con
  unfolding con Cleared
  con_within = or_within 0xF0CF (reset_con_of d kind) (pick swap BFSWAP 0) cleared.0
      (pick_both (Within 0xF0CF) swap (record { inside = refl }) (record { inside = refl }))

  con_idle : has_of con WR ≡ false
  unfolding con Cleared
  con_idle = has_bit 15 con ∙ bit-or 15 (reset_con_of d kind) (pick swap BFSWAP 0) ∙ rw cleared.1 (off swap)
    where
      off : (t : Bool) → bit 15 (pick t BFSWAP 0) ≡ false
      off true = refl
      off false = refl

  con_swap : has_of con BFSWAP ≡ swap
  unfolding con Cleared
  con_swap = has_bit 6 con ∙ bit-or 6 (reset_con_of d kind) (pick swap BFSWAP 0) ∙ rw cleared.2 (is swap)
    where
      is : (t : Bool) → bit 6 (pick t BFSWAP 0) ≡ t
      is true = refl
      is false = refl

  pub reset_swap : bfswap (reset_device_of d kind swap) ≡ swap
  unfolding reset_device_of con
  reset_swap = pick_both (λ (e : Device). bfswap e ≡ swap) (eqb kind 0) con_swap con_swap

  pub reset_idle : running (reset_device_of d kind swap) ≡ false
  unfolding reset_device_of con
  reset_idle = pick_both (λ (e : Device). running e ≡ false) (eqb kind 0) con_idle con_idle

  pub reset_possible : possible_of g (reset_device_of d kind swap) ≡ true
  unfolding reset_device_of con launched_fits_of resting_of nothing_launched_of
  reset_possible =
      pick_both (λ (e : Device). possible_of g e ≡ true) (eqb kind 0)
      (possible_test g (with_con power_on con 0 0)
      (record { rows = same_rows power_on con 0 0 con_within fresh_rows; launched = refl; always = refl; keys = omega arith; runs = rw con_idle }))
      (possible_test g _
      (record {
        rows =
            record {
              con = con_within;
              key = old.rows.key;
              addr = old.rows.addr;
              words = old.rows.words;
              src = old.rows.src;
              pwp = record { inside = refl };
              bwp = record { inside = refl };
              con2 = merge_within 0xF01F_B3C0 NVMERS d.nvmcon2.0 0x001F_0000 (record { inside = refl }) (record { inside = refl });
            };
        launched = refl;
        always = refl;
        keys = omega arith;
        runs = rw con_idle;
      }))
