-- The launch, case by case, and a store to NVMCON that launches or does not: the tests of each case are those of the definition.
-- Assumes nothing.
use mathlib.Core.Path.{◌≡◌, sym, ap, ap₂, ◌∙◌}
use mathlib.Core.Bool.{Bool, true, false, ◌||◌, or-true}
use mathlib.Core.Logic.{◌⊎◌, inl, inr}
use Prim.Native.Nat.{ℕ, ◌+◌, ◌%◌, ◌≤◌, ◌<◌}
use native.Mathlib.Nat.{mod-lt}
use native.Mathlib.Omega.{arith}
use lib.Dec.{eqb, ltb}
use lib.Bits.{bit_or}
use borrow.Author.Tests.{le-ltb, lt-ltb, ne_eqb}
use Rattle.words.specs.Word.{bit, has_of, clear_of, merge_of}
use Rattle.words.proofs.BitLaws.{has_bit, bit_other, bit_low, equal_below}
use Rattle.words.proofs.MaskLaws.{merge_keeps}
use Rattle.words.proofs.FieldMaskLaws.{has_or}
use Rattle.words.proofs.PickLaws.{pick_both}
use Rattle.geometry.specs.declared.banks.Geometry.{Geometry}
use Rattle.device.specs.declared.record.Device.{Device}
use Rattle.device.specs.declared.record.Operands.{Operands}
use Rattle.device.specs.Registers.{WR, WREN, WRERR, LVDERR}
use Rattle.device.specs.Record.{op_of, operands_of}
use Rattle.nvmop.specs.Operation.{begins_of}
use Rattle.register_fields.proofs.FieldLaws.{con_takes_enabled}
use Rattle.launch.specs.declared.launch.Launched.{Launched}
use Rattle.launch.specs.Launch.{launched, launch_of}
use Rattle.launch.specs.ConStore.{launches_of, taken_of, con_store_of}

module _ (g : Geometry) (d : Device) where
  pub launch_clears : op_of d ≡ 0 → launch_of g d ≡ launched (clear_of d.nvmcon.0 (WRERR + LVDERR)) false d.launched
  unfolding launch_of
  launch_clears op = rw op

  pub launch_errors : 0 < op_of d → has_of d.nvmcon.0 (WRERR + LVDERR) ≡ true → launch_of g d ≡ launched d.nvmcon.0 false d.launched
  unfolding launch_of
  launch_errors some on = rw (ne_eqb (op_of d) 0 (λ e. omega arith), on)

  pub launch_unknown : (op_of d ≡ 1) ⊎ (8 ≤ op_of d) → has_of d.nvmcon.0 (WRERR + LVDERR) ≡ false
      → launch_of g d ≡ launched d.nvmcon.0 false d.launched
  unfolding launch_of
  launch_unknown (inl one) clean = rw (one, clean)
  launch_unknown (inr high) clean = rw (ne_eqb (op_of d) 0 (λ e. omega arith), clean, lt-ltb 7 (op_of d) high, or-true (ltb (op_of d) 2))

  module _ (low : 2 ≤ op_of d) (high : op_of d ≤ 7) (clean : has_of d.nvmcon.0 (WRERR + LVDERR) ≡ false) where
    pub launch_begins : begins_of g d ≡ true → launch_of g d ≡ launched (bit_or d.nvmcon.0 (WR + WRERR)) false (operands_of d)
    unfolding launch_of
    launch_begins begins = rw (begins, ne_eqb (op_of d) 0 (λ e. omega arith), clean, le-ltb (op_of d) 2 low, le-ltb 7 (op_of d) high)

    pub launch_fails : begins_of g d ≡ false → launch_of g d ≡ launched (bit_or d.nvmcon.0 WRERR) true d.launched
    unfolding launch_of
    launch_fails fails = rw (fails, ne_eqb (op_of d) 0 (λ e. omega arith), clean, le-ltb (op_of d) 2 low, le-ltb 7 (op_of d) high)

  -- what is launched is what was, or the registers
  launch_operands : (P : Operands → Type 0) → P d.launched → P (operands_of d) → P (launch_of g d).operands
  unfolding launch_of
  launch_operands P was now =
      pick_both (λ (l : Launched). P l.operands) (eqb (op_of d) 0) was
      (pick_both (λ (l : Launched). P l.operands) (has_of d.nvmcon.0 (WRERR + LVDERR)) was
      (pick_both (λ (l : Launched). P l.operands) (ltb (op_of d) 2 || ltb 7 (op_of d)) was
      (pick_both (λ (l : Launched). P l.operands) (begins_of g d) now was)))

-- ---- a store to NVMCON
module _ (g : Geometry) (d : Device) (w : ℕ) where
  pub store_launches : launches_of d w ≡ true → con_store_of g d w ≡ launch_of g (taken_of d w)
  unfolding con_store_of
  store_launches on = rw on

  pub store_quiet : launches_of d w ≡ false → con_store_of g d w ≡ launched (taken_of d w).nvmcon.0 false d.launched
  unfolding con_store_of
  store_quiet off = rw off

  pub store_operands : (P : Operands → Type 0) → P d.launched → P (operands_of d) → P (con_store_of g d w).operands
  unfolding con_store_of
  store_operands P was now = pick_both (λ (l : Launched). P l.operands) (launches_of d w) (launch_operands g (taken_of d w) P was now) was

  -- with WREN at 1 a store changes no other bit: neither NVMOP nor the errors
  module _ (enabled : has_of d.nvmcon.0 WREN ≡ true) where
    other_bit : (k : ℕ) → (k ≡ 14 → ⊥) → bit k (taken_of d w).nvmcon.0 ≡ bit k d.nvmcon.0
    other_bit k other =
        ap (λ (m : ℕ). bit k (merge_of m w d.nvmcon.0)) (con_takes_enabled d enabled)
        ∙ merge_keeps k WREN w d.nvmcon.0 (bit_other 14 k (λ e. other (sym e)))

    pub taken_op : op_of (taken_of d w) ≡ op_of d
    taken_op =
        let con = d.nvmcon.0 in
        let new = (taken_of d w).nvmcon.0 in
        equal_below 4 (new % 16) (con % 16) (mod-lt new (omega arith)) (mod-lt con (omega arith))
        (λ k l. bit_low 4 k new l ∙ other_bit k (λ e. omega (arith, l, e)) ∙ sym (bit_low 4 k con l))

    pub taken_errors : has_of (taken_of d w).nvmcon.0 (WRERR + LVDERR) ≡ (bit 13 d.nvmcon.0 || bit 12 d.nvmcon.0)
    taken_errors =
        let new = (taken_of d w).nvmcon.0 in
        has_or new 0x2000 0x1000
        ∙ ap₂ (λ (s t : Bool). s || t)
        (has_bit 13 new ∙ other_bit 13 (λ e. omega (arith, e)))
        (has_bit 12 new ∙ other_bit 12 (λ e. omega (arith, e)))
