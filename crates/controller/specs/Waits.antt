-- W-207, "A read that waits": which reads wait, and what they change. What every read gives: FlashReads. Assumes nothing.
use Rattle.std.specs.Prelude.{ℕ, ◌+◌, ◌*◌, ◌≤◌, ◌<◌, ◌≡◌, Bool, true, false, ◌⊎◌, List, [], length, replicate}
use Rattle.words.specs.Word.{has_of}
use Rattle.words.specs.Quad.{word_at}
use Rattle.words.specs.Decline.{number_of, accepted_of}
use Rattle.geometry.specs.declared.banks.Geometry.{Geometry}
use Rattle.geometry.specs.Banks.{page_words_of, page_quads_of}
use Rattle.geometry.specs.Lent.{most_sram}
use Rattle.map.specs.Windows.{quad_index_of, in_second_of}
use Rattle.device.specs.declared.record.Device.{Device}
use Rattle.device.specs.Registers.{WRERR}
use Rattle.device.specs.Record.{running, bfswap, pfswap, op_of}
use Rattle.device.specs.State.{State, bank_of}
use Rattle.nvmop.specs.Operation.{length_of}
use Rattle.flash.specs.Effect.{step_at_of}
use Rattle.flash.specs.Step.{step_of}
use Rattle.reads.specs.Read.{remaining_of, read_answer_of, waits_of, Reading, flash_read_of}
use Rattle.controller.specs.Controller.{run_of, AllAccepted, Outside, Keeps}
use Rattle.controller.specs.Controller.Operation.{step}
use Rattle.controller.specs.FlashReads.{Stalls}

-- some step of the running operation lies in the bank: "a bank that the running operation targets (NVMOP 7: both)"
pub record Targeted (g : Geometry) (d : Device) (second : Bool) : Type 0 where
  pub place : ℕ
  pub below : place < length_of g (op_of d)
  pub there : in_second_of (step_at_of g (op_of d) d.launched.nvmaddr place) (bfswap d) (pfswap d) ≡ second

-- word v of a bank lies outside the quad of every step that remains
abbrev pub Untouched : Geometry → State → Bool → ℕ → Type 0
Untouched g s second v =
    let d = s.device in
    (k : ℕ) → d.step ≤ k → k < length_of g (op_of d)
    → let l = step_at_of g (op_of d) d.launched.nvmaddr k in in_second_of l (bfswap d) (pfswap d) ≡ second → Outside (quad_index_of g l) v

-- no step that remains lies in page n of a bank
abbrev pub OffPage : Geometry → State → Bool → ℕ → Type 0
OffPage g s second n =
    let d = s.device in
    (k : ℕ) → d.step ≤ k → k < length_of g (op_of d)
    → let l = step_at_of g (op_of d) d.launched.nvmaddr k in in_second_of l (bfswap d) (pfswap d) ≡ second
    → (quad_index_of g l < n * page_quads_of g) ⊎ (n * page_quads_of g + page_quads_of g ≤ quad_index_of g l)

-- t is what so many steps with this SRAM leave of s: "the remaining steps, up to an abort if one comes"
pub record LeftBySteps (g : Geometry) (s : State) (sram : List ℕ) (t : State) : Type 0 where
  pub count : ℕ
  pub some : 0 < count
  pub few : count ≤ remaining_of g s.device
  pub same : t ≡ run_of g s (replicate count (step sram))
  -- each of them is carried out, and the last one alone gives an event
  pub each : AllAccepted g s (replicate count (step sram))
  pub quiet : (k : ℕ) → k + 1 < count → (step_of g (run_of g s (replicate k (step sram))) sram).event ≡ false
  pub last : (k : ℕ) → k + 1 ≡ count → (step_of g (run_of g s (replicate k (step sram))) sram).event ≡ true
  -- fewer than remain only after an abort, where "WRERR stays 1"
  pub all : (count ≡ remaining_of g s.device) ⊎ (has_of t.device.nvmcon.0 WRERR ≡ true)

-- "Such a read shall carry out the remaining steps, up to an abort if one comes, and then give the word, with the event.": of an answer r
pub record Waited (g : Geometry) (s : State) (sram : List ℕ) (r : Reading) : Type 0 where
  -- no operation runs any more, and there is an event
  pub ends : running r.after.state.device ≡ false
  pub event : r.after.event ≡ true
  -- it leaves what single steps leave, and no word changes but those of the steps' quads
  pub steps : LeftBySteps g s sram r.after.state
  pub untouched : (second : Bool) (v : ℕ) → Untouched g s second v → word_at (bank_of r.after.state second) v ≡ word_at (bank_of s second) v
  -- so a bank that the operation does not target is as before, and so is a page in which no step lies
  pub other : (second : Bool) → (Targeted g s.device second → ⊥) → bank_of r.after.state second ≡ bank_of s second
  pub page : (second : Bool) (n i : ℕ) → OffPage g s second n → i < page_words_of g
      → let v = n * page_words_of g + i in word_at (bank_of r.after.state second) v ≡ word_at (bank_of s second) v

pub record Waits : Type 0 where
  -- what the definitions call a read that waits is one that is not declined, of a bank that the running operation targets
  pub waits : (g : Geometry) (s : State) (sram : List ℕ) (address : ℕ) → accepted_of (read_answer_of g s sram address) ≡ true
      → Stalls g s.device address → waits_of g s sram address ≡ true
  pub waits_only : (g : Geometry) (s : State) (sram : List ℕ) (address : ℕ) → waits_of g s sram address ≡ true
      → (accepted_of (read_answer_of g s sram address) ≡ true) × Stalls g s.device address
  pub waited : (g : Geometry) (s : State) (sram : List ℕ) (address : ℕ) → waits_of g s sram address ≡ true
      → Waited g s sram (flash_read_of g s sram address)
  -- an SRAM of up to 16,384 words, which 01's read did not have, changes no answer's number
  pub answers_kept : (g : Geometry) (s : State) (sram : List ℕ) (address : ℕ) → length sram ≤ most_sram
      → number_of (flash_read_of g s sram address).after.decline ≡ number_of (flash_read_of g s [] address).after.decline
  -- a read changes no page that is protected at that time, nor the length of a bank
  pub keeps : (g : Geometry) (s : State) (sram : List ℕ) (address : ℕ) → Keeps g s (flash_read_of g s sram address).after.state
