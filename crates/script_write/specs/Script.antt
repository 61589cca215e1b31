-- W-202: the script of an update, and the call that writes it into a lent buffer. Assumes nothing.
use Rattle.std.specs.Prelude.{ℕ, ◌*◌, List, [], ◌∷◌, ◌++◌, leb, length, drop, Ok, Err, Result}
use Rattle.words.specs.Word.{pick}
use Rattle.words.specs.declared.decline.Decline.{Decline}
use Rattle.words.specs.Decline.{Verdict, accepted_of, first_of}
use Rattle.script_format.specs.Records.{bytes_of}
use Rattle.geometry.specs.declared.banks.Geometry.{Geometry}
use Rattle.device.specs.State.{State}
use Rattle.update.specs.declared.actions.Action.{Action}
use Rattle.update.specs.Actions.{recorded, actions_of, total_of}
use Rattle.update.specs.Start.{lower_word_of, start_of}

-- actions "as an 8-byte record" each, "in order"
abbrev pub record_bytes_of : List Action → List ℕ
record_bytes_of [] = []
record_bytes_of (a ∷ rest) = bytes_of (recorded a) ++ record_bytes_of rest

-- "every action is written": the update's own list of actions, for the lower-alias bank's sequence word w
unfoldable pub script_of : Geometry → List ℕ → ℕ → List ℕ
script_of g image w = record_bytes_of (actions_of g image w)

-- "8 × total"
abbrev pub script_bytes_of : Geometry → ℕ
script_bytes_of g = 8 * total_of g

-- "Start's own checks come first. Turned away: 17, after those, the buffer is shorter than 8 × total.", by the buffer's length
unfoldable pub write_script_decline_of : Geometry → State → List ℕ → ℕ → Verdict
write_script_decline_of g s image buffer =
    first_of (start_of g s image).decline (pick (leb (script_bytes_of g) buffer) (Ok tt) (Err Decline.ScriptBuffer))

-- everything after the call: the answer, the number of records, the buffer
pub record Writing : Type 0 where
  pub decline : Verdict
  pub records : ℕ
  pub buffer : List ℕ

abbrev pub writing : Verdict → ℕ → List ℕ → Writing
writing decline records buffer = record { decline = decline; records = records; buffer = buffer }

-- in contracts: everything after the call, with the buffer as it is then; the records are 0 where it is declined
abbrev pub writing_from : Result ℕ Decline → List ℕ → Writing
writing_from (Ok records) buffer = writing (Ok tt) records buffer
writing_from (Err e) buffer = writing (Err e) 0 buffer

-- the buffer with the script in front: "bytes past the last record keep their contents"
abbrev pub with_script : List ℕ → List ℕ → List ℕ
with_script script buffer = script ++ drop (length script) buffer

-- the script in a lent buffer; where it is declined "device and lent memory keep their contents", and the records are 0 (ours)
unfoldable pub write_script_of : Geometry → State → List ℕ → List ℕ → Writing
write_script_of g s image buffer =
    let decline = write_script_decline_of g s image (length buffer) in
    pick (accepted_of decline)
    (writing (Ok tt) (total_of g) (with_script (script_of g image (lower_word_of g s)) buffer))
    (writing decline 0 buffer)
