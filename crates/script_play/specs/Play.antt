-- A play: what each record does, and what is printed for it. Assumes nothing.
use Rattle.std.specs.Prelude.{ℕ, zero, suc, List, [], ◌∷◌, ◌++◌, eqb, length, Ok, Err, Result}
use Rattle.words.specs.Word.{pick}
use Rattle.text.specs.Buffer.{put_first, saturated_of}
use Rattle.text.specs.Lines.{line_of}
use Rattle.geometry.specs.declared.banks.Geometry.{Geometry}
use Rattle.words.specs.declared.decline.Decline.{Decline}
use Rattle.words.specs.Decline.{Verdict, number_of, accepted_of, first_of}
use Rattle.device.specs.declared.record.Device.{Device}
use Rattle.common_declines.specs.CommonDecline.{common_decline_of}
use Rattle.device.specs.State.{State, After, state}
use Rattle.controller.specs.Controller.{Operation}
use Rattle.script_record.specs.Record.{mask_zero, record_after_of}
use Rattle.script_play.specs.declared.Playback as code
use Rattle.script_format.specs.declared.Record.{Record}
use Rattle.script_format.specs.Records.{record_of, records_of, is_script_of}

-- the state after the first i records: "A refused record is printed and play goes on."
abbrev pub state_of : Geometry → List ℕ → State → List ℕ → ℕ → State
state_of g sram s script zero = s
state_of g sram s script (suc i) = (record_after_of g sram (state_of g sram s script i) (record_of script i)).state

-- the line of a record with what stands after it
abbrev pub record_line_of : ℕ → After → List ℕ
record_line_of i a = line_of i (number_of a.decline) a.state.device.nvmcon.0 a.event

-- what is printed for the first i records
abbrev pub lines_of : Geometry → List ℕ → State → List ℕ → ℕ → List ℕ
lines_of g sram s script zero = []
lines_of g sram s script (suc i) =
    lines_of g sram s script i ++ record_line_of i (record_after_of g sram (state_of g sram s script i) (record_of script i))

-- declines 1, 2, 3 and 14: "The lowest number that applies is returned"
unfoldable pub play_decline_of : Geometry → Device → ℕ → ℕ → ℕ → List ℕ → Verdict
play_decline_of g d one two sram script =
    first_of (common_decline_of g d (one ∷ two ∷ []) sram) (pick (is_script_of script) (Ok tt) (Err Decline.Script))

-- so of a play on a state and a lent SRAM
abbrev pub decline_of : Geometry → List ℕ → State → List ℕ → Verdict
decline_of g sram s script = play_decline_of g s.device (length s.one) (length s.two) (length sram) script

-- everything after a play: the answer, the bytes of the whole output, the state, the buffer
pub record Playback : Type 0 where
  pub decline : Verdict
  pub bytes : ℕ
  pub after : State
  pub buffer : List ℕ

abbrev pub playback : Verdict → ℕ → State → List ℕ → Playback
playback decline bytes after buffer = record { decline = decline; bytes = bytes; after = after; buffer = buffer }

-- in contracts: everything after a play from this device, with the banks and the buffer as they are then. Where it is declined the device is as
-- before and the bytes are 0.
abbrev pub playback_from : Device → Result code.Playback Decline → List ℕ → List ℕ → List ℕ → Playback
playback_from d (Ok p) one two buffer = playback (Ok tt) p.bytes (state p.device one two) buffer
playback_from d (Err e) one two buffer = playback (Err e) 0 (state d one two) buffer

-- a script that is played: every record in its order. The buffer takes as much of the output's front as fits, and the bytes are those
-- of the whole output (ours; `bytes_counted` of proofs/PlayLaws: exactly, of a script shorter than 2 ^ 62 bytes)
abbrev pub played_of : Geometry → List ℕ → State → List ℕ → List ℕ → Playback
played_of g sram s script buffer =
    let output = lines_of g sram s script (records_of script) in
    playback (Ok tt) (saturated_of (length output)) (state_of g sram s script (records_of script)) (put_first output buffer)

-- a play; where it is declined "device and lent memory keep their contents", and so the buffer; the bytes are 0 (ours)
unfoldable pub play_of : Geometry → List ℕ → State → List ℕ → List ℕ → Playback
play_of g sram s script buffer =
    pick (accepted_of (decline_of g sram s script)) (played_of g sram s script buffer) (playback (decline_of g sram s script) 0 s buffer)

-- the answer and the bytes that a play will give
pub record PlayLength : Type 0 where
  pub decline : Verdict
  pub bytes : ℕ

-- in contracts: those of a call's answer; the bytes are 0 where it is declined
abbrev pub play_length_from : Result ℕ Decline → PlayLength
play_length_from (Ok bytes) = record { decline = Ok tt; bytes = bytes }
play_length_from (Err e) = record { decline = Err e; bytes = 0 }

-- those of one with no buffer, as with any (ours; `play-length` of proofs/PlayLaws)
unfoldable pub play_length_of : Geometry → List ℕ → State → List ℕ → PlayLength
play_length_of g sram s script = record { decline = (play_of g sram s script []).decline; bytes = (play_of g sram s script []).bytes }

-- ---- a play as a run of the controller (`play_runs` of proofs/ControllerLaws)

-- a record as an operation of the controller
abbrev pub operation_of : List ℕ → Record → Operation
operation_of sram r =
    pick (eqb r.kind 0) (Operation.store r.number r.form r.value)
    (pick (eqb r.kind 1) (Operation.step sram) (Operation.reset sram r.number mask_zero))

-- the first i records as operations, in their order
abbrev pub operations_of : List ℕ → List ℕ → ℕ → List Operation
operations_of sram script zero = []
operations_of sram script (suc i) = operations_of sram script i ++ (operation_of sram (record_of script i) ∷ [])
