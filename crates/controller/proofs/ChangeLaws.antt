-- Which bits a store can change: those of its own register whose field takes, and at a launch WR, WRERR and LVDERR.
-- Assumes nothing.
use mathlib.Core.Path.{◌≡◌, refl, sym, ap, ◌∙◌}
use mathlib.Core.Bool.{Bool, true, false, ◌||◌, or-false, and-true}
use mathlib.Core.List.{List}
use Prim.Native.Nat.{ℕ, ◌+◌}
use lib.Dec.{eqb, ltb}
use lib.ListN.{set}
use lib.Seq.{get_or-set_other}
use lib.Bits.{bit_or}
use borrow.Author.Tests.{eqb-true, ne_eqb}
use Rattle.words.specs.Word.{pick, bit, has_of, merge_of}
use Rattle.words.specs.Quad.{word_at}
use Rattle.words.proofs.PickLaws.{pick_both}
use Rattle.words.proofs.BitLaws.{bit-or, clear_bit}
use Rattle.words.proofs.MaskLaws.{Within, outside_bit, merge_keeps}
use Rattle.geometry.specs.declared.banks.Geometry.{Geometry}
use Rattle.device.specs.declared.record.Device.{Device}
use Rattle.device.specs.declared.record.Operands.{Operands}
use Rattle.launch.specs.declared.launch.Launched.{Launched}
use Rattle.device.specs.Registers.{WRERR, LVDERR}
use Rattle.device.specs.Record.{register_of, op_of, operands_of}
use Rattle.nvmop.specs.Operation.{begins_of}
use Rattle.register_fields.specs.Fields.{con_takes_of}
use Rattle.launch.specs.Launch.{launched, launch_of}
use Rattle.register_access.specs.Store.{data_after, applied_of}
use Rattle.launch.specs.ConStore.{launches_of, taken_of, con_store_of}

-- ---- NVMCON: a bit that does not take and is none of WR, WRERR and LVDERR stays
module _ (g : Geometry) (d : Device) (k : ℕ) (apart : bit k 0xB000 ≡ false) where
  Keeps : Launched → Type 0
  Keeps l = bit k l.nvmcon ≡ bit k d.nvmcon.0

  keeps_or : (mask : ℕ) (event : Bool) (operands : Operands) → Within 0xB000 mask → Keeps (launched (bit_or d.nvmcon.0 mask) event operands)
  unfolding Keeps
  keeps_or mask event operands h = bit-or k d.nvmcon.0 mask ∙ rw (outside_bit 0xB000 mask k h apart) (or-false (bit k d.nvmcon.0))

  launch_keeps : bit k (launch_of g d).nvmcon ≡ bit k d.nvmcon.0
  unfolding launch_of Keeps
  launch_keeps =
      pick_both Keeps (eqb (op_of d) 0)
      (clear_bit k d.nvmcon.0 0x3000 ∙ rw (outside_bit 0xB000 0x3000 k (record { inside = refl }) apart) (and-true (bit k d.nvmcon.0)))
      (pick_both Keeps (has_of d.nvmcon.0 (WRERR + LVDERR)) refl
      (pick_both Keeps (ltb (op_of d) 2 || ltb 7 (op_of d)) refl
      (pick_both Keeps (begins_of g d) (keeps_or 0xA000 false (operands_of d) (record { inside = refl }))
      (keeps_or WRERR true d.launched (record { inside = refl })))))

pub con_keeps : (g : Geometry) (d : Device) (w k : ℕ) → bit k (con_takes_of d) ≡ false → bit k 0xB000 ≡ false
    → bit k (con_store_of g d w).nvmcon ≡ bit k d.nvmcon.0
unfolding con_store_of
con_keeps g d w k stays apart =
    pick_both (λ (l : Launched). bit k l.nvmcon ≡ bit k d.nvmcon.0) (launches_of d w)
    (launch_keeps g (taken_of d w) k apart ∙ kept) kept
  where
    kept : bit k (merge_of (con_takes_of d) w d.nvmcon.0) ≡ bit k d.nvmcon.0
    kept = merge_keeps k (con_takes_of d) w d.nvmcon.0 stays

-- ---- a store changes no other register
data_other : (quad : List ℕ) (r w j : ℕ) → (r ≡ 3 + j → ⊥) → word_at (data_after quad r w) j ≡ word_at quad j
data_other quad r w j ne = one 0 _ (one 1 _ (one 2 _ (one 3 _ refl)))
  where
    one : (i : ℕ) (rest : List ℕ) → word_at rest j ≡ word_at quad j → word_at (pick (eqb r (3 + i)) (set quad i w) rest) j ≡ word_at quad j
    one i rest p = go (eqb r (3 + i)) refl
      where
        go : (t : Bool) → eqb r (3 + i) ≡ t → word_at (pick t (set quad i w) rest) j ≡ word_at quad j
        go true e = get_or-set_other quad i j w 0 (λ q. ne (eqb-true r (3 + i) e ∙ ap (λ (n : ℕ). 3 + n) (sym q)))
        go false e = p

module _ (r s : ℕ) (other : r ≡ s → ⊥) where
  -- where a row of the table is asked for, it is not the one stored
  row : (i x y rest rest' : ℕ) → ((r ≡ i → ⊥) → x ≡ y) → rest ≡ rest' → pick (eqb s i) x rest ≡ pick (eqb s i) y rest'
  row i x y rest rest' f e = go (eqb s i) refl
    where
      go : (t : Bool) → eqb s i ≡ t → pick t x rest ≡ pick t y rest'
      go true h = f (λ q. other (q ∙ sym (eqb-true s i h)))
      go false h = e

  field_other : (i new old : ℕ) → (r ≡ i → ⊥) → pick (eqb r i) new old ≡ old
  field_other i new old ne = rw (ne_eqb r i ne)

  pub other_register : (d : Device) (w : ℕ) → register_of (applied_of d r w) s ≡ register_of d s
  unfolding register_of applied_of
  other_register d w =
      row 0 _ _ _ _ (λ ne. refl)
      (row 1 _ _ _ _ (λ ne. refl)
      (row 2 _ _ _ _ (field_other 2 _ _)
      (row 3 _ _ _ _ (data_other d.nvmdata r w 0)
      (row 4 _ _ _ _ (data_other d.nvmdata r w 1)
      (row 5 _ _ _ _ (data_other d.nvmdata r w 2)
      (row 6 _ _ _ _ (data_other d.nvmdata r w 3)
      (row 7 _ _ _ _ (field_other 7 _ _)
      (row 8 _ _ _ _ (field_other 8 _ _)
      (row 9 _ _ _ _ (field_other 9 _ _)
      (row 10 _ _ _ _ (field_other 10 _ _) refl))))))))))
