-- No operation changes the length of a bank or a page that is protected at that time: a store and a register read change no bank, a step and a
-- tear write in no protected page, and the steps of a flash read that waits leave the protection, too.
-- Assumes nothing.
use mathlib.Core.Path.{◌≡◌, refl, sym, ap, ◌∙◌}
use mathlib.Core.Bool.{Bool, false, not, ◌&&◌, and-true}
use mathlib.Core.List.{List}
use Prim.Native.Nat.{ℕ, ◌+◌, ◌^◌}
use Rattle.words.specs.Word.{bit, has_of, clear_of}
use Rattle.words.proofs.BitLaws.{clear_bit, has_bit}
use Rattle.geometry.specs.declared.banks.Geometry.{Geometry}
use Rattle.device.specs.declared.record.Device.{Device}
use Rattle.device.specs.Registers.{WR, WRERR}
use Rattle.device.specs.State.{State}
use Rattle.protection.specs.Protection.{protected_of}
use Rattle.flash.specs.Effect.{effect_of}
use Rattle.reads.specs.Read.{steps_of}
use Rattle.flash.specs.Step.{ended_of, advance_of, step_of}
use Rattle.controller.specs.Protection.{protected_page_of}
use Rattle.controller.specs.Controller.{Operation, transition_of, Keeps}
use Rattle.controller.specs.Controller.Operation.{store, register_read, flash_read, step, reset}
use Rattle.controller.proofs.WriteLaws.{by_step, by_advance, no_write_lem, step_writes, reset_writes}
use Rattle.controller.proofs.ReadLaws.{by_steps, by_flash_read}
use Rattle.controller.proofs.ProtectedPageLaws.{writes_keep}

pub same_keeps : (g : Geometry) (s : State) → Keeps g s s
same_keeps g s = record { long = λ second. refl; page = λ second n p. refl }

-- ---- a step leaves NVMPWP, NVMBWP and the swap bits
pub cleared_bit : (d : Device) (mask k : ℕ) → bit k mask ≡ false → has_of (clear_of d.nvmcon.0 mask) (2 ^ k) ≡ has_of d.nvmcon.0 (2 ^ k)
cleared_bit d mask k off =
    has_bit k (clear_of d.nvmcon.0 mask)
    ∙ clear_bit k d.nvmcon.0 mask
    ∙ ap (λ (t : Bool). bit k d.nvmcon.0 && not t) off
    ∙ and-true (bit k d.nvmcon.0)
    ∙ sym (has_bit k d.nvmcon.0)

module _ (g : Geometry) (d : Device) (second : Bool) (n : ℕ) where
  abbrev Same : Device → Type 0
  Same e = protected_page_of g e second n ≡ protected_page_of g d second n

  ended_same : (mask : ℕ) → bit 6 mask ≡ false → bit 7 mask ≡ false → Same (ended_of d (clear_of d.nvmcon.0 mask))
  unfolding protected_page_of protected_of
  ended_same mask boot program = rw (cleared_bit d mask 6 boot, cleared_bit d mask 7 program)

  advance_same : (aborts : Bool) → Same (advance_of g d aborts).device
  unfolding protected_page_of protected_of
  advance_same = by_advance g d Same (ended_same WR refl refl) (ended_same (WR + WRERR) refl refl) refl

step_same : (g : Geometry) (s : State) (sram : List ℕ) (second : Bool) (n : ℕ)
    → protected_page_of g (step_of g s sram).state.device second n ≡ protected_page_of g s.device second n
step_same g s sram second n =
    by_step g s sram (λ a. protected_page_of g a.state.device second n ≡ protected_page_of g s.device second n)
    (λ on. advance_same g s.device second n (effect_of g s sram).aborts)
    (λ off. refl)

-- ---- a flash read
-- the steps so far keep the banks' lengths and protected pages, and the protection
record Goes (g : Geometry) (s t : State) : Type 0 where
  kept : Keeps g s t
  same : (second : Bool) (n : ℕ) → protected_page_of g t.device second n ≡ protected_page_of g s.device second n

step_goes : (g : Geometry) (s : State) (sram : List ℕ) (t : State) → Goes g s t → Goes g s (step_of g t sram).state
step_goes g s sram t h =
    let next = writes_keep g t (step_of g t sram).state (step_writes g t sram) in
    record {
      kept =
          record {
            long = λ second. next.long second ∙ h.kept.long second;
            page = λ second n p. next.page second n (h.same second n ∙ p) ∙ h.kept.page second n p;
          };
      same = λ second n. step_same g t sram second n ∙ h.same second n;
    }

-- steps one after another, as many as one likes
pub steps_keep : (g : Geometry) (sram : List ℕ) (n : ℕ) (s : State) → Keeps g s (steps_of g sram n s).state
steps_keep g sram n s = (by_steps g sram (Goes g s) (step_goes g s sram) n s (record { kept = same_keeps g s; same = λ second n. refl })).kept

pub keeps : (g : Geometry) (s : State) (o : Operation) → Keeps g s (transition_of g s o)
keeps g s (store r form value) = writes_keep g s _ (no_write_lem g s (transition_of g s (store r form value)) refl refl)
keeps g s (register_read r) = writes_keep g s _ (no_write_lem g s (transition_of g s (register_read r)) refl refl)
keeps g s (flash_read sram address) =
    (by_flash_read g sram (Goes g s) (step_goes g s sram) s address (record { kept = same_keeps g s; same = λ second n. refl })).kept
keeps g s (step sram) = writes_keep g s _ (step_writes g s sram)
keeps g s (reset sram kind mask) = writes_keep g s _ (reset_writes g s sram kind mask)
