-- W-205, "Reset passes it on": the reason beside the bank that a reset chose, and that this fixes it. Assumes nothing.
use Rattle.std.specs.Prelude.{ℕ, ◌≡◌, true, false, List}
use Rattle.words.specs.Quad.{word_at}
use Rattle.words.specs.Decline.{accepted_of}
use Rattle.geometry.specs.declared.banks.Geometry.{Geometry}
use Rattle.sequence.specs.Comparison.{Reason}
use Rattle.sequence.specs.Sequence.{sequence_index_of}
use Rattle.sequence.specs.Comparison.{reason_number_of, comparison}
use Rattle.sequence.specs.Reasons.{Reasons}
use Rattle.device.specs.Record.{bfswap}
use Rattle.device.specs.State.{State}
use Rattle.resets.specs.Reset.{reset_reason_of}
use Rattle.controller.specs.Controller.{answer_of, transition_of}
use Rattle.controller.specs.Controller.Operation.{reset}

-- of the reason that a reset gives
pub record ResetReason (g : Geometry) (s : State) (sram : List ℕ) (kind : ℕ) (mask : List ℕ) (reason : Reason) : Type 0 where
  -- it and BFSWAP are what W-205 asks of a comparison of the sequence words that the banks hold afterwards
  pub passed_on : accepted_of (answer_of g s (reset sram kind mask)) ≡ true
      → let t = transition_of g s (reset sram kind mask) in
      Reasons (word_at t.one (sequence_index_of g)) (word_at t.two (sequence_index_of g)) (comparison (bfswap t.device) reason)
  -- a declined reset has compared nothing: 4 (ours)
  pub not_compared : accepted_of (answer_of g s (reset sram kind mask)) ≡ false → reason_number_of reason ≡ 4

pub record ResetReasons : Type 0 where
  pub meets : (g : Geometry) (s : State) (sram : List ℕ) (kind : ℕ) (mask : List ℕ) → ResetReason g s sram kind mask (reset_reason_of g s sram kind mask)
  pub fixes : (g : Geometry) (s : State) (sram : List ℕ) (kind : ℕ) (mask : List ℕ) (reason : Reason) → ResetReason g s sram kind mask reason
      → reason ≡ reset_reason_of g s sram kind mask
