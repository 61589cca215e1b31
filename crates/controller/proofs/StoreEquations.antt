-- What each store of an update does to a device at rest, as one equation each.
-- Assumes nothing.
use mathlib.Core.Path.{◌≡◌, refl, sym, ap, ◌∙◌}
use mathlib.Core.Bool.{Bool, true, false, or-true}
use Prim.Native.Nat.{ℕ, ◌+◌, ◌≤◌, ◌<◌}
use native.Mathlib.Omega.{arith}
use lib.ListN.{set}
use lib.Bits.{bit_or}
use Rattle.words.specs.Word.{pick, bit, has_of, merge_of, clear_of}
use Rattle.words.proofs.CaseLaws.{below_four}
use Rattle.words.proofs.BitLaws.{bit-or, clear_bit, has_bit, bit_above}
use Rattle.words.proofs.MaskLaws.{Within, merge_set, merge_clear, merge_none}
use Rattle.geometry.specs.declared.banks.Geometry.{Geometry}
use Rattle.words.specs.Decline.{accepted_of}
use Rattle.device.specs.declared.record.Device.{Device}
use Rattle.launch.specs.declared.launch.Launched.{Launched}
use Rattle.device.specs.Answer.{Answer}
use Rattle.device.specs.Registers.{WR, WREN, NVMOP, LBWPULOCK, UBWPULOCK}
use Rattle.device.specs.Builders.{with_con, with_launched, with_address, with_data, with_bwp}
use Rattle.device.specs.Record.{register_of, is_open}
use Rattle.common_declines.specs.Possible.{resting_of}
use Rattle.register_fields.specs.Fields.{wanted_of, key_next_of, con_takes_of, bwp_takes_of, lower_takes_of}
use Rattle.launch.specs.Launch.{launched, launch_of}
use Rattle.register_access.specs.Store.{has_form_of, may_store_of, store_decline_of, applied_of, accepted, store_accepted_of, store_of}
use Rattle.launch.specs.ConStore.{launches_of, con_store_of}
use Rattle.start_up.specs.StartUp.{stores_of, key_stores}
use Rattle.register_fields.proofs.FieldLaws.{con_takes_wren, con_takes_enabled, con_takes_shut}
use Rattle.register_access.proofs.AcceptedLaws.{AtRest, rest_opens}
use Rattle.common_declines.proofs.PossibleLaws.{possible, possible_test, resting, same_rows}

module _ (g : Geometry) (d : Device) (rest : AtRest g d) where
  -- a store at rest is carried out
  pub store-accepted : (r form : ℕ) → has_form_of r form ≡ true → accepted_of (store_decline_of g d r form) ≡ true
  unfolding store_decline_of may_store_of
  store-accepted r form ok = rw (rest_opens g d rest, ok, rest.idle)

  pub store_runs : (r form value : ℕ) → has_form_of r form ≡ true → store_of g d r form value ≡ store_accepted_of g d r form value
  unfolding store_of
  store_runs r form value ok = rw (store-accepted r form ok)

  -- NVMADDR, NVMDATA0 to 3
  pub address_store : (a : ℕ) → store_of g d 2 0 a ≡ accepted (with_address d a) false
  unfolding has_form_of store_accepted_of applied_of
  address_store a = store_runs 2 0 a refl

  pub data_store : (j w : ℕ) → j < 4 → store_of g d (3 + j) 0 w ≡ accepted (with_data d (set d.nvmdata j w)) false
  unfolding has_form_of store_accepted_of applied_of
  data_store j w =
      below_four (λ j. store_of g d (3 + j) 0 w ≡ accepted (with_data d (set d.nvmdata j w)) false)
      (store_runs 3 0 w refl) (store_runs 4 0 w refl) (store_runs 5 0 w refl) (store_runs 6 0 w refl) j

  -- the key
  pub key_store_lem : (v : ℕ) → store_of g d 1 0 v ≡ accepted (with_con d d.nvmcon.0 (key_next_of d.keystep v) d.step) false
  unfolding has_form_of store_accepted_of applied_of
  key_store_lem v = store_runs 1 0 v refl

  -- NVMBWP clear 0x1F with the key open: the upper alias loses its protection
  pub upper_store : is_open d ≡ true → has_of d.nvmbwp.0 UBWPULOCK ≡ true
      → store_of g d 9 1 0x1F ≡ accepted (with_bwp d (clear_of d.nvmbwp.0 0x1F)) false
  unfolding has_form_of store_accepted_of applied_of register_of bwp_takes_of
  upper_store key lock =
      store_runs 9 1 0x1F refl
      ∙ ap (λ (x : ℕ). accepted (with_bwp d x) false)
      (rw (key, lock) (merge_clear (lower_takes_of d + 0x9F) d.nvmbwp.0 0x1F (takes (has_of d.nvmbwp.0 LBWPULOCK))))
    where
      takes : (lower : Bool) → Within (pick lower 0x9F00 0 + 0x9F) 0x1F
      takes true = record { inside = refl }
      takes false = record { inside = refl }

  -- ---- NVMCON
  pub con-store : (form value : ℕ) → has_form_of 0 form ≡ true
      → let l = con_store_of g d (wanted_of form d.nvmcon.0 value) in
      store_of g d 0 form value ≡ accepted (with_launched (with_con d l.nvmcon 0 d.step) l.operands) l.event
  unfolding store_accepted_of register_of
  con-store form value ok = store_runs 0 form value ok

  pub wr_off : bit 15 d.nvmcon.0 ≡ false
  wr_off = sym (has_bit 15 d.nvmcon.0) ∙ rest.idle

  no_launch : (w : ℕ) → bit 15 w ≡ false → con_store_of g d w ≡ launched (merge_of (con_takes_of d) w d.nvmcon.0) false d.launched
  unfolding con_store_of launches_of
  no_launch w off = rw (has_bit 15 w ∙ off)

  -- NVMCON takes the wanted value and no more happens
  taken : (form value con : ℕ) → has_form_of 0 form ≡ true → bit 15 (wanted_of form d.nvmcon.0 value) ≡ false
      → merge_of (con_takes_of d) (wanted_of form d.nvmcon.0 value) d.nvmcon.0 ≡ con
      → store_of g d 0 form value ≡ accepted (with_con d con 0 d.step) false
  taken form value con ok off e =
      con-store form value ok
      ∙ ap (λ (l : Launched). accepted (with_launched (with_con d l.nvmcon 0 d.step) l.operands) l.event)
      (no_launch (wanted_of form d.nvmcon.0 value) off ∙ ap (λ (x : ℕ). launched x false d.launched) e)

  pub clear_wren : store_of g d 0 1 0x4000 ≡ accepted (with_con d (clear_of d.nvmcon.0 WREN) 0 d.step) false
  unfolding has_form_of
  clear_wren =
      taken 1 0x4000 (clear_of d.nvmcon.0 WREN) refl (clear_bit 15 d.nvmcon.0 WREN ∙ rw wr_off)
      (merge_clear (con_takes_of d) d.nvmcon.0 WREN (con_takes_wren d))

  pub set_wren : store_of g d 0 2 0x4000 ≡ accepted (with_con d (bit_or d.nvmcon.0 WREN) 0 d.step) false
  unfolding has_form_of
  set_wren =
      taken 2 0x4000 (bit_or d.nvmcon.0 WREN) refl (bit-or 15 d.nvmcon.0 WREN ∙ rw wr_off)
      (merge_set (con_takes_of d) d.nvmcon.0 WREN (con_takes_wren d))

  pub plain_op : (op : ℕ) → op < 16 → has_of d.nvmcon.0 WREN ≡ false → is_open d ≡ false
      → store_of g d 0 0 op ≡ accepted (with_con d (merge_of (WREN + NVMOP) op d.nvmcon.0) 0 d.step) false
  unfolding has_form_of
  plain_op op l off shut =
      taken 0 op (merge_of (WREN + NVMOP) op d.nvmcon.0) refl (bit_above 4 15 op l (omega arith))
      (ap (λ (t : ℕ). merge_of t op d.nvmcon.0) (con_takes_shut d off shut))

  pub launch_store : has_of d.nvmcon.0 WREN ≡ true → is_open d ≡ true
      → let l = launch_of g d in store_of g d 0 2 0x8000 ≡ accepted (with_launched (with_con d l.nvmcon 0 d.step) l.operands) l.event
  unfolding has_form_of con_store_of launches_of
  launch_store enabled key =
      con-store 2 0x8000 refl
      ∙ ap (λ (l : Launched). accepted (with_launched (with_con d l.nvmcon 0 d.step) l.operands) l.event)
      (rw (has_bit 15 (bit_or d.nvmcon.0 WR) ∙ bit-or 15 d.nvmcon.0 WR ∙ or-true (bit 15 d.nvmcon.0), enabled, key)
      (ap (λ (c : ℕ). launch_of g (with_con d c d.keystep d.step))
      (ap (λ (t : ℕ). merge_of t (bit_or d.nvmcon.0 WR) d.nvmcon.0) (con_takes_enabled d enabled)
      ∙ merge_none WREN d.nvmcon.0 WR refl)))

  -- a device at rest stays at rest with another key step
  pub key_rest : (k : ℕ) → k ≤ 3 → AtRest g (with_con d d.nvmcon.0 k d.step)
  unfolding resting_of
  key_rest k l =
      let old = possible g d rest.possible in
      record {
        listed = rest.listed;
        range = rest.range;
        possible =
            possible_test g (with_con d d.nvmcon.0 k d.step)
            (record {
              rows = same_rows d _ k d.step old.rows.con old.rows;
              launched = old.launched;
              always = old.always;
              keys = l;
              runs = rw rest.idle (resting g d rest.possible rest.idle);
            });
        idle = rest.idle;
      }

-- ---- three key stores open the key
pub keys_open : (g : Geometry) (d : Device) → AtRest g d → stores_of g d key_stores ≡ with_con d d.nvmcon.0 3 d.step
unfolding key_next_of
keys_open g d rest =
    ap (λ (s : Answer). (store_of g (store_of g s.device 1 0 0xAA99_6655).device 1 0 0x5566_99AA).device) (key_store_lem g d rest 0)
    ∙ ap (λ (s : Answer). (store_of g s.device 1 0 0x5566_99AA).device) (key_store_lem g (at 1) (key_rest g d rest 1 (omega arith)) 0xAA99_6655)
    ∙ ap (λ (s : Answer). s.device) (key_store_lem g (at 2) (key_rest g d rest 2 (omega arith)) 0x5566_99AA)
  where
    at : ℕ → Device
    at k = with_con d d.nvmcon.0 k d.step
