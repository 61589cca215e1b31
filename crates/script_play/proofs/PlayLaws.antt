-- What a play prints: each record's answer has one digit, so the length of the output is known before it is played.
-- Assumes nothing.
use mathlib.Core.Path.{◌≡◌, refl, sym, ap, ◌∙◌}
use Rattle.std.specs.Prelude.{Ok}
use mathlib.Core.Bool.{Bool, true, false}
use Prim.Native.Nat.{ℕ, zero, suc, ◌+◌, ◌-◌, ◌^◌, ◌≤◌, ◌<◌}
use native.Mathlib.Omega.{arith}
use native.Mathlib.Decide.{dec_le}
use mathlib.Core.List.{List, ◌++◌}
use lib.ListN.{length, length-append}
use lib.Seq.{sets}
use Rattle.geometry.specs.declared.banks.Geometry.{Geometry}
use Rattle.words.specs.Decline.{number_of, accepted_of}
use Rattle.device.specs.State.{State, After}
use Rattle.text.specs.Buffer.{saturated_of}
use Rattle.text.specs.Digits.{width_of}
use Rattle.text.specs.Lines.{lines_length_of}
use Rattle.text.proofs.BufferLaws.{sets_out, sets_after, sets_front}
use Rattle.text.proofs.LineLaws.{line_length, length-counted}
use Rattle.script_format.specs.declared.Record.{Record}
use Rattle.script_format.specs.Records.{record_of, records_of}
use Rattle.script_record.specs.Record.{record_after_of}
use Rattle.script_record.proofs.AnswerLaws.{record_digit}
use Rattle.script_play.specs.Play.{state_of, record_line_of, lines_of, decline_of, playback, played_of, play_of, play_length_of}

-- the length of the output is known before it is played
pub lines-length : (g : Geometry) (sram : List ℕ) (s : State) (script : List ℕ) (n : ℕ) → length (lines_of g sram s script n) ≡ lines_length_of n
lines-length g sram s script zero = refl
lines-length g sram s script (suc n) =
    let a = record_after_of g sram (state_of g sram s script n) (record_of script n) in
    rw (
      length-append (lines_of g sram s script n) (record_line_of n a),
      lines-length g sram s script n,
      line_length n (number_of a.decline) a.state.device.nvmcon.0 a.event (record_digit g sram (state_of g sram s script n) (record_of script n)),
    )

-- the answer and the bytes of a play are the same whatever its buffer, so that `play_length` gives them beforehand
pub play-length : (g : Geometry) (sram : List ℕ) (s : State) (script buffer : List ℕ)
    → ((play_length_of g sram s script).decline ≡ (play_of g sram s script buffer).decline)
    × ((play_length_of g sram s script).bytes ≡ (play_of g sram s script buffer).bytes)
unfolding play_of play_length_of
play-length g sram s script buffer = go (accepted_of (decline_of g sram s script)) refl
  where
    go : (t : Bool) → accepted_of (decline_of g sram s script) ≡ t
        → ((play_length_of g sram s script).decline ≡ (play_of g sram s script buffer).decline)
        × ((play_length_of g sram s script).bytes ≡ (play_of g sram s script buffer).bytes)
    go true e = rw e (refl, refl)
    go false e = rw e (refl, refl)

-- where the play is accepted they are those of so many lines
pub length-accepted : (g : Geometry) (sram : List ℕ) (s : State) (script : List ℕ) → accepted_of (decline_of g sram s script) ≡ true
    → play_length_of g sram s script ≡ record { decline = Ok tt; bytes = saturated_of (lines_length_of (records_of script)) }
unfolding play_of play_length_of
length-accepted g sram s script e = rw (e, lines-length g sram s script (records_of script))

-- of a script shorter than 2 ^ 62 bytes they are all counted
pub bytes_counted : (g : Geometry) (sram : List ℕ) (s : State) (script buffer : List ℕ) → length script < 2 ^ 62
    → accepted_of (decline_of g sram s script) ≡ true → (play_of g sram s script buffer).bytes ≡ length (lines_of g sram s script (records_of script))
unfolding play_of
bytes_counted g sram s script buffer short e =
    rw (e, lines-length g sram s script (records_of script)) (length-counted (records_of script) (omega arith))

-- ---- a play under way

-- after the first i records: the state, the buffer and the bytes of the output
pub record Playing (g : Geometry) (sram : List ℕ) (start : State) (script before : List ℕ) (s : State) (out : List ℕ) (bytes i : ℕ) : Type 0 where
  pub reached : s ≡ state_of g sram start script i
  pub written : out ≡ sets before 0 (lines_of g sram start script i)
  pub counted : bytes ≡ saturated_of (lines_length_of i)

-- a position that is counted no further lies past the buffer
sets_saturated : (out : List ℕ) (n : ℕ) (line : List ℕ) → length out < 2 ^ 64 → sets out (saturated_of n) line ≡ sets out n line
sets_saturated out n line small = go (dec_le n (2 ^ 64 - 1))
  where
    go : Dec (n ≤ 2 ^ 64 - 1) → sets out (saturated_of n) line ≡ sets out n line
    go (yes l) = let e : saturated_of n ≡ n = omega arith in rw e
    go (no l) = sets_out out (saturated_of n) line (omega arith) ∙ sym (sets_out out n line (omega arith))

-- so after the next
pub playing_next : (g : Geometry) (sram : List ℕ) (start : State) (script before : List ℕ) (s : State) (out : List ℕ) (bytes i : ℕ)
    → Playing g sram start script before s out bytes i → length out < 2 ^ 64
    → (r : Record) → r ≡ record_of script i → (a : After) → a ≡ record_after_of g sram s r
    → (out' : List ℕ) → out' ≡ sets out bytes (record_line_of i a) → (bytes' : ℕ) → bytes' ≡ saturated_of (bytes + (width_of i + 14))
    → Playing g sram start script before a.state out' bytes' (suc i)
playing_next g sram start script before s out bytes i p small r er a ea out' eo bytes' eb =
    let e : a ≡ record_after_of g sram (state_of g sram start script i) (record_of script i) = rw (p.reached, er) at ea in
    let lines = lines_of g sram start script i in
    let line = record_line_of i a in
    let n : 0 + length lines ≡ lines_length_of i = omega (arith, lines-length g sram start script i) in
    let joined : sets out (lines_length_of i) line ≡ sets before 0 (lines ++ line) =
    rw p.written (sym (sets_after before 0 (lines_length_of i) lines line n)) in
    record {
      reached = ap (λ (b : After). b.state) e;
      written =
          eo ∙ rw p.counted (sets_saturated out (lines_length_of i) line small) ∙ joined
          ∙ ap (λ (b : After). sets before 0 (lines ++ record_line_of i b)) e;
      counted = omega (arith, eb, p.counted);
    }

-- a play that has ended
pub playing_ends : (g : Geometry) (sram : List ℕ) (start : State) (script before : List ℕ) (s : State) (out : List ℕ) (bytes : ℕ)
    → Playing g sram start script before s out bytes (records_of script) → playback (Ok tt) bytes s out ≡ played_of g sram start script before
playing_ends g sram start script before s out bytes p =
    rw (
      p.reached,
      p.written,
      p.counted,
      sets_front before (lines_of g sram start script (records_of script)),
      lines-length g sram start script
          (records_of script),
    )
