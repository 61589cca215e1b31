-- What an accepted step tells: the geometry is in range, the lengths fit, the device is possible, what runs.
-- Assumes nothing.
use mathlib.Core.Path.{◌≡◌, refl}
use Rattle.std.specs.Prelude.{Ok, Err}
use mathlib.Core.Bool.{true, not}
use mathlib.Core.List.{[], ◌∷◌}
use Prim.Native.Nat.{ℕ}
use lib.Dec.{eqb, ltb}
use borrow.Author.Tests.{ltb-true}
use Rattle.words.specs.Word.{has_of}
use Rattle.words.proofs.PickLaws.{and_both}
use Rattle.geometry.specs.declared.banks.Geometry.{Geometry}
use Rattle.words.specs.declared.decline.Decline.{Decline}
use Rattle.geometry.specs.Banks.{InRange}
use Rattle.words.specs.Decline.{accepted_of}
use Rattle.words.proofs.DeclineLaws.{held, neither}
use Rattle.device.specs.declared.record.Device.{Device}
use Rattle.device.specs.Registers.{WRERR, LVDERR}
use Rattle.device.specs.Record.{running, op_of}
use Rattle.nvmop.specs.Operation.{launched_begins_of, length_of}
use Rattle.common_declines.specs.Possible.{running_of, possible_of}
use Rattle.common_declines.specs.CommonDecline.{common_decline_of}
use Rattle.common_declines.proofs.PossibleLaws.{possible}
use Rattle.common_declines.proofs.CommonDeclineLaws.{Ready, ready}
use Rattle.flash.specs.Effect.{Runs}
use Rattle.flash.specs.Step.{step_decline_of}

module _ (g : Geometry) (d : Device) where
  -- an operation that runs on a possible device
  pub runs : InRange g → possible_of g d ≡ true → running d ≡ true → Runs g d
  unfolding running_of
  runs ok can on =
      let s0 = and_both (eqb d.keystep 0) _ (rw on at (possible g d can).runs) in
      let s1 = and_both (has_of d.nvmcon.0 WRERR) _ s0.1 in
      let s2 = and_both (not (has_of d.nvmcon.0 LVDERR)) _ s1.1 in
      let s3 = and_both (launched_begins_of g d) (ltb d.step (length_of g (op_of d))) s2.1 in
      record { range = ok; begins = s3.0; below = ltb-true _ _ s3.1 }

  pub step_ready : (one two sram : ℕ) → accepted_of (step_decline_of g d one two sram) ≡ true
      → Ready g d (one ∷ two ∷ []) sram × Runs g d × (running d ≡ true)
  unfolding step_decline_of
  step_ready one two sram h =
      let s = neither (common_decline_of g d (one ∷ two ∷ []) sram) _ h in
      let r = ready g d (one ∷ two ∷ []) sram s.0 in
      let on = (held (running d) (Ok tt) (Err Decline.Idle) refl s.1).0 in
      (r, runs r.lent.range r.possible on, on)
