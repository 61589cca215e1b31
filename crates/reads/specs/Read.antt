-- "A flash read gives the word at its address there"; W-207: one of the bank that is worked on first carries out the steps that remain.
-- Assumes nothing.
use Rattle.std.specs.Prelude.{ℕ, zero, suc, ◌-◌, ◌%◌, Bool, true, false, not, ◌&&◌, List, [], ◌∷◌, eqb, length, Ok, Err, Result}
use Rattle.words.specs.Word.{pick}
use Rattle.words.specs.Quad.{word_at}
use Rattle.geometry.specs.declared.banks.Geometry.{Geometry}
use Rattle.words.specs.declared.decline.Decline.{Decline}
use Rattle.words.specs.Decline.{Verdict, accepted_of, first_of}
use Rattle.map.specs.Windows.{Location, locate_of, word_index_of, in_second_of}
use Rattle.device.specs.declared.record.Device.{Device}
use Rattle.device.specs.State.{State, state, bank_of, After, after}
use Rattle.device.specs.Record.{running, bfswap, pfswap, op_of}
use Rattle.common_declines.specs.CommonDecline.{common_decline_of}
use Rattle.nvmop.specs.Operation.{length_of}
use Rattle.flash.specs.Effect.{step_location_of}
use Rattle.flash.specs.Step.{step_of}
use Rattle.device.specs.Numbers.{both_erase}
use Rattle.reads.specs.declared.FlashWord.{FlashWord}

-- the bank that stands at a place, by the device's swap bits: whether it is bank 2
abbrev pub second_at_of : Device → Location → Bool
second_at_of d l = in_second_of l (bfswap d) (pfswap d)

abbrev pub same : Bool → Bool → Bool
same a b = pick a b (not b)

-- no running operation targets the bank: 01's condition of 9, "a bank that the running operation targets (NVMOP 7: both)", is false
unfoldable pub free_of : Geometry → Device → Bool → Bool
free_of g d second =
    pick (running d) (pick (eqb (op_of d) both_erase) false (not (same (second_at_of d (step_location_of g d)) second))) true

-- 8 does not apply: not "outside the four windows or not on a multiple of 4"
abbrev pub readable_of : Geometry → ℕ → Bool
readable_of g address = pick (locate_of g address).inside (eqb (address % 4) 0) false

-- declines 1, 2, 3 and 8; W-207: "Decline 9 no longer occurs"
unfoldable pub flash_read_decline_of : Geometry → Device → ℕ → ℕ → ℕ → ℕ → Verdict
flash_read_decline_of g d one two sram address =
    first_of (common_decline_of g d (one ∷ two ∷ []) sram) (pick (readable_of g address) (Ok tt) (Err Decline.Address))

-- what steps leave, and whether the last of them gave an event
pub record Stepped : Type 0 where
  pub state : State
  pub event : Bool

abbrev pub stepped : State → Bool → Stepped
stepped s event = record { state = s; event = event }

-- steps with an SRAM while WR is set, at most n of them
unfoldable pub steps_of : Geometry → List ℕ → ℕ → State → Stepped
steps_of g sram zero s = stepped s false
steps_of g sram (suc n) s = let a = step_of g s sram in pick (running a.state.device) (steps_of g sram n a.state) (stepped a.state a.event)

-- W-207: "carry out the remaining steps, up to an abort if one comes"
abbrev pub remaining_of : Geometry → Device → ℕ
remaining_of g d = length_of g (op_of d) - d.step

abbrev pub waited_of : Geometry → State → List ℕ → Stepped
waited_of g s sram = steps_of g sram (remaining_of g s.device) s

-- the declines of a read of a state with a lent SRAM
abbrev pub read_answer_of : Geometry → State → List ℕ → ℕ → Verdict
read_answer_of g s sram address = flash_read_decline_of g s.device (length s.one) (length s.two) (length sram) address

-- the read waits: it is not declined, and the running operation targets its bank
abbrev pub waits_of : Geometry → State → List ℕ → ℕ → Bool
waits_of g s sram address = accepted_of (read_answer_of g s sram address) && not (free_of g s.device (second_at_of s.device (locate_of g address)))

-- the word at an address of the four windows
abbrev pub word_read_of : Geometry → State → ℕ → ℕ
word_read_of g s address = let l = locate_of g address in word_at (bank_of s (second_at_of s.device l)) (word_index_of g l)

-- everything after a read: what it leaves, and the word
pub record Reading : Type 0 where
  pub after : After
  pub word : ℕ

abbrev pub reading : After → ℕ → Reading
reading a word = record { after = a; word = word }

-- in contracts: everything after a read of this device by its result and the banks as they are then
abbrev pub reading_from : Device → Result FlashWord Decline → List ℕ → List ℕ → Reading
reading_from d (Ok r) one two = reading (after (Ok tt) (state r.device one two) r.event) r.word
reading_from d (Err e) one two = reading (after (Err e) (state d one two) false) 0

-- "Such a read shall carry out the remaining steps .. and then give the word, with the event."; another changes nothing
abbrev pub ready_of : Geometry → State → List ℕ → ℕ → Stepped
ready_of g s sram address = pick (free_of g s.device (second_at_of s.device (locate_of g address))) (stepped s false) (waited_of g s sram)

-- a read; where it is declined nothing changes, the word is 0, and there is no event (ours)
unfoldable pub flash_read_of : Geometry → State → List ℕ → ℕ → Reading
flash_read_of g s sram address =
    pick (accepted_of (read_answer_of g s sram address))
    (let t = ready_of g s sram address in reading (after (Ok tt) t.state t.event) (word_read_of g t.state address))
    (reading (after (read_answer_of g s sram address) s false) 0)
