-- What steps keep, a flash read keeps: it leaves the state, or is steps one after another. Assumes nothing.
use mathlib.Core.List.{List}
use Prim.Native.Nat.{ℕ, zero, suc}
use Rattle.words.specs.Decline.{accepted_of}
use Rattle.words.proofs.PickLaws.{pick_both}
use Rattle.geometry.specs.declared.banks.Geometry.{Geometry}
use Rattle.map.specs.Windows.{locate_of}
use Rattle.device.specs.Record.{running}
use Rattle.device.specs.State.{State}
use Rattle.flash.specs.Step.{step_of}
use Rattle.reads.specs.Read.{second_at_of, free_of, Stepped, steps_of, remaining_of, read_answer_of, Reading, flash_read_of}

module _ (g : Geometry) (sram : List ℕ) (P : State → Type 0) (next : (t : State) → P t → P (step_of g t sram).state) where
  pub by_steps : (n : ℕ) (s : State) → P s → P (steps_of g sram n s).state
  unfolding steps_of
  by_steps zero s h = h
  by_steps (suc n) s h =
      pick_both (λ (w : Stepped). P w.state) (running (step_of g s sram).state.device) (by_steps n (step_of g s sram).state (next s h)) (next s h)

  pub by_flash_read : (s : State) (address : ℕ) → P s → P (flash_read_of g s sram address).after.state
  unfolding flash_read_of
  by_flash_read s address h =
      pick_both (λ (r : Reading). P r.after.state) (accepted_of (read_answer_of g s sram address))
      (pick_both (λ (w : Stepped). P w.state) (free_of g s.device (second_at_of s.device (locate_of g address))) h
      (by_steps (remaining_of g s.device) s h))
      h
