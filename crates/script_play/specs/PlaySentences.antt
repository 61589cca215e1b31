-- A play, sentence by sentence, and that the sentences fix it. Assumes nothing.
use Rattle.std.specs.Prelude.{ℕ, ◌+◌, ◌-◌, ◌/◌, ◌^◌, min, ◌≡◌, List, [], ◌∷◌, ◌++◌, length}
use Rattle.words.specs.Decline.{number_of}
use Rattle.text.specs.Buffer.{put_first}
use Rattle.text.specs.LineSentences.{Line}
use Rattle.geometry.specs.declared.banks.Geometry.{Geometry}
use Rattle.script_format.specs.Records.{record_of}
use Rattle.script_format.specs.ScriptSentences.{Script}
use Rattle.device.specs.Record.{register_of}
use Rattle.device.specs.State.{State, After}
use Rattle.common_declines.specs.CommonDecline.{Usable, CommonDeclines}
use Rattle.script_record.specs.Record.{record_after_of}
use Rattle.script_play.specs.Play.{Playback, play_of}

-- the line of record i, by its answer, NVMCON and the event after it
abbrev pub RecordLine : ℕ → After → List ℕ → Type 0
RecordLine i a line = Line i (number_of a.decline) (register_of a.state.device 0) a.event line

-- the first i records played from s leave t and print the output: each gets what the one before left, and "A refused record is printed and play goes
-- on."
pub data Played (g : Geometry) (sram : List ℕ) (s : State) (script : List ℕ) : ℕ → State → List ℕ → Type 0 where
  none : Played g sram s script 0 s []
  more : (i : ℕ) (t : State) (output line : List ℕ) → Played g sram s script i t output
      → RecordLine i (record_after_of g sram t (record_of script i)) line
      → Played g sram s script (1 + i) (record_after_of g sram t (record_of script i)).state (output ++ line)

pub record PlaySentences (g : Geometry) (sram : List ℕ) (s : State) (script buffer : List ℕ) (p : Playback) : Type 0 where
  -- 1 to 3; 14, of what is no script
  pub declines : CommonDeclines g s.device (length s.one ∷ length s.two ∷ []) (length sram) (number_of p.decline)
  pub no_script : Usable g s.device (length s.one ∷ length s.two ∷ []) (length sram) → (Script script → ⊥) → number_of p.decline ≡ 14
  pub accepted : Usable g s.device (length s.one ∷ length s.two ∷ []) (length sram) → Script script → number_of p.decline ≡ 0
  -- "device and lent memory keep their contents"; no bytes (ours)
  pub declined : (number_of p.decline ≡ 0 → ⊥) → (p.after ≡ s) × ((p.buffer ≡ buffer) × (p.bytes ≡ 0))
  -- the buffer takes as much of the output's front as fits, and the bytes are those of the whole output, as a count of 64 bits (ours)
  pub played : number_of p.decline ≡ 0 → (t : State) (output : List ℕ) → Played g sram s script (length script / 8) t output
      → (p.after ≡ t) × ((p.buffer ≡ put_first output buffer) × (p.bytes ≡ min (length output) (2 ^ 64 - 1)))

pub record PlaysFixed : Type 0 where
  pub meets : (g : Geometry) (sram : List ℕ) (s : State) (script buffer : List ℕ) → PlaySentences g sram s script buffer (play_of g sram s script buffer)
  pub fixes : (g : Geometry) (sram : List ℕ) (s : State) (script buffer : List ℕ) (p : Playback) → PlaySentences g sram s script buffer p
      → p ≡ play_of g sram s script buffer
