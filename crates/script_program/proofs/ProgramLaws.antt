-- What the play program prints: it is the play after a power-on, which no decline but 14 meets, and its buffer has room.
-- Assumes nothing.
use mathlib.Core.Path.{◌≡◌, refl, sym}
use Rattle.std.specs.Prelude.{Ok, Err}
use mathlib.Core.Bool.{Bool, true, false}
use mathlib.Core.List.{List, [], ◌∷◌}
use Prim.Native.Nat.{ℕ, ◌≤◌, ◌<◌}
use native.Mathlib.Decide.{dec_le}
use native.Mathlib.Omega.{arith}
use borrow.Author.Tests.{le-ltb, lt-ltb}
use lib.ListN.{length, take}
use Rattle.words.proofs.PickLaws.{pick_both}
use Rattle.words.proofs.BitLaws.{true_not_false}
use Rattle.text.specs.Buffer.{saturated_of}
use Rattle.text.specs.Digits.{width_of}
use Rattle.text.proofs.BufferLaws.{front_whole}
use Rattle.text.proofs.LineLaws.{length-four}
use Rattle.words.specs.declared.decline.Decline.{Decline}
use Rattle.geometry.specs.Banks.{listed_of, in_range_up_to}
use Rattle.words.specs.Decline.{accepted_of}
use Rattle.sequence.specs.Sequence.{complement_of, valid_of}
use Rattle.sequence.specs.Comparison.{compare_of}
use Rattle.device.specs.declared.record.Device.{Device}
use Rattle.device.specs.Builders.{power_on}
use Rattle.common_declines.specs.CommonDecline.{common_decline_of}
use Rattle.common_declines.proofs.CommonDeclineLaws.{opens}
use Rattle.resets.specs.Reset.{compared_of, reset_con_of, reset_device_of}
use Rattle.controller.proofs.Controller.{controller}
use Rattle.script_format.specs.Records.{Bytes, records_of, is_script_of}
use Rattle.controller.specs.Controller.{Sound}
use Rattle.script_play.specs.Play.{state_of, lines_of, play_decline_of, Playback, playback, played_of, play_of}
use Rattle.script_program.specs.Program.{smallest, first_bank, erased_bank, start_of, longest, decline_line, output_room}
use Rattle.script_program.specs.Program.{Printout, printed_of, taken_of, written_of, print_of}
use Rattle.script_play.proofs.ControllerLaws.{play_sound}
use Rattle.script_play.proofs.PlayLaws.{lines-length}

-- any power-on of the program's banks gives its device
pub power_on_there : (d : Device) → reset_device_of d 0 (compared_of smallest first_bank erased_bank) ≡ power_on
unfolding reset_device_of reset_con_of compare_of valid_of complement_of
power_on_there d = refl

-- ---- a play of the program

abbrev played : List ℕ → List ℕ → Playback
played script buffer = play_of smallest [] start_of script buffer

-- none of declines 1, 2 and 3 applies
pub start_opens : common_decline_of smallest power_on (length first_bank ∷ length erased_bank ∷ []) 0 ≡ Ok tt
unfolding in_range_up_to listed_of
start_opens =
    opens smallest power_on (length first_bank ∷ length erased_bank ∷ []) 0 refl (refl, (refl, tt)) (omega arith)
    (controller.power_on_lem smallest first_bank erased_bank refl refl).possible

-- so a script is played, and what is none is declined
script_played : (script buffer : List ℕ) → is_script_of script ≡ true → played script buffer ≡ played_of smallest [] start_of script buffer
unfolding play_of play_decline_of
script_played script buffer e = simp (start_opens, e)

not_script : (script buffer : List ℕ) → is_script_of script ≡ false → played script buffer ≡ playback (Err Decline.Script) 0 start_of buffer
unfolding play_of play_decline_of
not_script script buffer e = simp (start_opens, e)

-- ---- the lengths of the outputs

abbrev lines : List ℕ → List ℕ
lines script = lines_of smallest [] start_of script (records_of script)

lines_short : (script : List ℕ) → length script ≤ longest → length (lines script) ≤ output_room
lines_short script short = rw (lines-length smallest [] start_of script (records_of script)) (omega (arith, length-four (records_of script) (omega arith)))

-- no output is longer than that
printed_short : (script : List ℕ) → length (printed_of script) ≤ output_room
unfolding printed_of width_of
printed_short script = go (dec_le (length script) longest)
  where
    go : Dec (length script ≤ longest) → length (printed_of script) ≤ output_room
    go (yes short) = rw (le-ltb longest (length script) short) (pick_both (λ (l : List ℕ). length l ≤ output_room) (is_script_of script)
        (lines_short script short) (omega arith))
    go (no long) = rw (lt-ltb longest (length script) (omega arith)) (omega arith)

-- ---- what is printed

pub print_long : (script buffer : List ℕ) → longest < length script → print_of script buffer ≡ written_of decline_line buffer
unfolding print_of printed_of
print_long script buffer l = rw (lt-ltb longest (length script) l)

pub print_accepted : (script buffer : List ℕ) → length script ≤ longest → accepted_of (played script buffer).decline ≡ true
    → taken_of (played script buffer) ≡ print_of script buffer
unfolding print_of printed_of
print_accepted script buffer short = go (is_script_of script) refl
  where
    go : (t : Bool) → is_script_of script ≡ t → accepted_of (played script buffer).decline ≡ true → taken_of (played script buffer) ≡ print_of script buffer
    go true e ok =
        let counted : saturated_of (length (lines script)) ≡ length (lines script) = omega (arith, lines_short script short) in
        rw (le-ltb longest (length script) short, e, script_played script buffer e, counted)
    go false e ok = absurd (true_not_false (sym (rw (not_script script buffer e) at ok)))

pub print_declined : (script buffer : List ℕ) → length script ≤ longest → accepted_of (played script buffer).decline ≡ false
    → ((played script buffer).buffer ≡ buffer) × (print_of script buffer ≡ written_of decline_line buffer)
unfolding print_of printed_of
print_declined script buffer short = go (is_script_of script) refl
  where
    go : (t : Bool) → is_script_of script ≡ t → accepted_of (played script buffer).decline ≡ false
        → ((played script buffer).buffer ≡ buffer) × (print_of script buffer ≡ written_of decline_line buffer)
    go true e refused = absurd (true_not_false (rw (script_played script buffer e) at refused))
    go false e refused = rw (not_script script buffer e, le-ltb longest (length script) short, e) (refl, refl)

-- ---- the program's buffer

-- it holds every output whole: what is printed are its first bytes
pub print_fits : (script buffer : List ℕ) → output_room ≤ length buffer
    → ((print_of script buffer).bytes ≤ length buffer) × (take (print_of script buffer).bytes (print_of script buffer).buffer ≡ printed_of script)
unfolding print_of
print_fits script buffer large =
    let room : length (printed_of script) ≤ length buffer = omega (arith, printed_short script) in
    (room, front_whole (printed_of script) buffer room)

pub print_within : (script buffer : List ℕ) (p : Printout) → p ≡ print_of script buffer → output_room ≤ length buffer → p.bytes ≤ length buffer
print_within script buffer p e large = rw e (print_fits script buffer large).0

-- a play of the program leaves a possible device over banks of the right length, after each record
pub program_sound : (script : List ℕ) → Bytes script → (i : ℕ) → Sound smallest (state_of smallest [] start_of script i)
program_sound script bytes i = play_sound smallest [] start_of script bytes (controller.power_on_lem smallest first_bank erased_bank refl refl) i
