-- What the play program prints. Assumes nothing.
use Rattle.std.specs.Prelude.{ℕ, List, [], ltb, length, set, replicate, Err}
use Rattle.words.specs.Word.{pick, all_ones}
use Rattle.text.specs.Buffer.{put_first}
use Rattle.text.specs.Lines.{line_feed, decimal_of}
use Rattle.geometry.specs.declared.banks.Geometry.{Geometry}
use Rattle.words.specs.declared.decline.Decline.{Decline}
use Rattle.geometry.specs.Banks.{bank_words_of}
use Rattle.words.specs.Decline.{number_of}
use Rattle.sequence.specs.Sequence.{sequence_index_of}
use Rattle.device.specs.Builders.{power_on}
use Rattle.device.specs.State.{State, state}
use Rattle.script_format.specs.Records.{records_of, is_script_of}
use Rattle.script_play.specs.Play.{lines_of, Playback}

-- "Q=B=P=1"
abbrev pub smallest : Geometry
smallest = record { q = 1; b = 1; p = 1 }

-- "all ones but bank 1's sequence word 0xFFFE0001"
abbrev pub erased_bank : List ℕ
erased_bank = replicate (bank_words_of smallest) all_ones

abbrev pub first_bank : List ℕ
first_bank = set erased_bank (sequence_index_of smallest) 0xFFFE_0001

-- "after power-on" (`power_on_there` of proofs/ProgramLaws: any power-on of these banks gives this device)
abbrev pub start_of : State
start_of = state power_on first_bank erased_bank

-- the longest script in bytes: "with more than 65,536 bytes, the program prints only the line 14"
abbrev pub longest : ℕ
longest = 65536

-- "the line 14"
abbrev pub decline_line : List ℕ
decline_line = decimal_of (number_of (Err Decline.Script)) line_feed

-- what is printed for a script
unfoldable pub printed_of : List ℕ → List ℕ
printed_of script =
    pick (ltb longest (length script)) decline_line
    (pick (is_script_of script) (lines_of smallest [] start_of script (records_of script)) decline_line)

-- room for every output (ours; `print_fits` of proofs/ProgramLaws): 18 bytes for each of 8,192 records
abbrev pub output_room : ℕ
output_room = 147456

-- everything after it: the bytes of the whole output, the buffer
pub record Printout : Type 0 where
  pub bytes : ℕ
  pub buffer : List ℕ

abbrev pub printout : ℕ → List ℕ → Printout
printout bytes buffer = record { bytes = bytes; buffer = buffer }

-- what the program takes of a play
abbrev pub taken_of : Playback → Printout
taken_of p = printout p.bytes p.buffer

-- an output in a lent buffer of any length (ours)
abbrev pub written_of : List ℕ → List ℕ → Printout
written_of output buffer = printout (length output) (put_first output buffer)

unfoldable pub print_of : List ℕ → List ℕ → Printout
print_of script buffer = written_of (printed_of script) buffer
