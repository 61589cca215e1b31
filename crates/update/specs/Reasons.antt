-- W-205 and the update: the start asks the same comparison, and no cut of an update leaves a sign whose reset finds no valid bank.
-- Assumes nothing.
use Rattle.std.specs.Prelude.{ℕ, ◌≡◌, Bool, true, false, ◌&&◌, List}
use Rattle.words.specs.Quad.{word_at}
use Rattle.words.specs.Decline.{accepted_of}
use Rattle.geometry.specs.declared.banks.Geometry.{Geometry}
use Rattle.sequence.specs.Comparison.{Reason}
use Rattle.sequence.specs.Sequence.{sequence_index_of}
use Rattle.sequence.specs.Reasons.{ChosenBefore}
use Rattle.device.specs.Record.{running, bfswap}
use Rattle.device.specs.State.{State}
use Rattle.reads.specs.Read.{same}
use Rattle.resets.specs.Reset.{reset_of, reset_reason_of}
use Rattle.update.specs.Start.{lower_valid_of, reset_keeps_of, swaps_agree_of, other_safe_of, sequence_allows_of}
use Rattle.update.specs.PowerFail.{after_turns, Cut, Update}

pub record UpdateReasons (g : Geometry) : Type 0 where
  -- "update start uses the same comparison": "a reset would choose the other bank" is asked of the comparison that a reset then makes
  pub same_comparison : (s : State) (sram : List ℕ) (kind : ℕ) (mask : List ℕ) → running s.device ≡ false
      → accepted_of (reset_of g s sram kind mask).decline ≡ true
      → reset_keeps_of g s ≡ same (bfswap (reset_of g s sram kind mask).state.device) (bfswap s.device)
  -- "Banks chosen and start's numbers don't change.": decline 10 asks for the bank that 01's cases choose, and its other clauses are as they
  -- were
  pub start_asks : (s : State) (second : Bool) → ChosenBefore (word_at s.one (sequence_index_of g)) (word_at s.two (sequence_index_of g)) second
      → sequence_allows_of g s ≡ (lower_valid_of g s && (same second (bfswap s.device) && (swaps_agree_of s && other_safe_of g s)))
  -- beyond the request: after any cut of an accepted update the reason is never "none valid"
  pub some_valid : (s : State) (image : List ℕ) → Update g s image → (srams : List (List ℕ)) (c : Cut)
      → reset_reason_of g (after_turns g s image srams) c.sram c.kind c.mask ≡ Reason.NoneValid → ⊥
