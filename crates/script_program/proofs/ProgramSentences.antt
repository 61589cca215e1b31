-- What is no script or too long prints the line 14, every other what a play on the one bench prints. Assumes nothing.
use mathlib.Core.Path.{◌≡◌, refl, sym, ap, ◌∙◌}
use Rattle.std.specs.Prelude.{Ok}
use mathlib.Core.Bool.{Bool, true, false}
use mathlib.Core.List.{List, [], ◌∷◌}
use Prim.Native.Nat.{ℕ, ◌/◌, ◌≤◌, ◌<◌}
use native.Mathlib.Decide.{dec_le}
use native.Mathlib.Omega.{arith}
use borrow.Author.Tests.{le-ltb, lt-ltb}
use lib.ListN.{length, get_or-replicate}
use lib.Seq.{ext_get_or, get_or-set_other}
use Rattle.words.specs.Word.{all_ones}
use Rattle.words.specs.Quad.{word_at}
use Rattle.words.specs.Decline.{accepted_of}
use Rattle.words.proofs.BitLaws.{true_not_false}
use Rattle.words.proofs.CaseLaws.{or_other}
use Rattle.text.specs.Digits.{digit_of, width_of}
use Rattle.device.specs.Builders.{power_on}
use Rattle.device.specs.State.{State, After, after}
use Rattle.resets.specs.Reset.{reset_decline_of, reset_answer_of, reset_device_of, compared_of, tear_of, restart_of, explained_of, reset_of}
use Rattle.script_format.specs.Records.{is_script_of}
use Rattle.script_format.specs.ScriptSentences.{Script}
use Rattle.script_format.proofs.ScriptSentences.{script_sentences}
use Rattle.script_play.specs.Play.{lines_of}
use Rattle.script_program.specs.Program.{smallest, first_bank, erased_bank, start_of, longest, printed_of}
use Rattle.script_program.specs.ProgramSentences.{Bench, ProgramSentences}
use Rattle.script_program.proofs.ProgramLaws.{power_on_there, start_opens}

abbrev mask : List ℕ
mask = 0 ∷ 0 ∷ 0 ∷ 0 ∷ []

-- ---- there is a bench

first_word : (w : ℕ) → (w ≡ 28 → ⊥) → word_at first_bank w ≡ word_at erased_bank w
first_word w other = get_or-set_other erased_bank 28 w 0xFFFE_0001 0 other

there : Bench start_of
unfolding explained_of reset_decline_of
there =
    record {
      long = (refl, refl);
      sequence = refl;
      first = λ w l other. first_word w other ∙ get_or-replicate 64 w all_ones 0 l;
      other = λ w l. get_or-replicate 64 w all_ones 0 l;
      power_on_lem = rw (start_opens, reset_of) (rw (power_on_there power_on));
    }

-- ---- and no other

module _ (s : State) (b : Bench s) where
  same_two : s.two ≡ erased_bank
  same_two = ext_get_or 0 s.two erased_bank b.long.1 (λ w l. b.other w (inside w l) ∙ sym (there.other w (inside w l)))
    where
      inside : (w : ℕ) → w < length s.two → w < 64
      inside w l = omega (arith, b.long.1, l)

  same_one : s.one ≡ first_bank
  same_one = ext_get_or 0 s.one first_bank b.long.0 word
    where
      word : (w : ℕ) → w < length s.one → word_at s.one w ≡ word_at first_bank w
      word w l =
          let inside : w < 64 = omega (arith, b.long.0, l) in
          or_other (λ w. word_at s.one w ≡ word_at first_bank w) 28 w b.sequence
          (λ other. b.first w inside other ∙ sym (there.first w inside other))

  abbrev torn : State
  torn = tear_of smallest s [] mask

  restarted : (restart_of smallest torn 0).state ≡ s
  unfolding explained_of
  restarted = go (accepted_of (reset_answer_of smallest s [] 0)) refl b.power_on_lem
    where
      go : (t : Bool) → accepted_of (reset_answer_of smallest s [] 0) ≡ t → reset_of smallest s [] 0 mask ≡ after (Ok tt) s false
          → (restart_of smallest torn 0).state ≡ s
      go true on e = ap (λ (a : After). a.state) (rw (on, reset_of) at e)
      go false off e =
          let answer : reset_answer_of smallest s [] 0 ≡ Ok tt = ap (λ (a : After). a.decline) (rw (off, reset_of) at e) in
          absurd (true_not_false (sym (ap accepted_of answer) ∙ off))

  same_device : s.device ≡ power_on
  same_device =
      let one : torn.one ≡ first_bank = ap (λ (a : State). a.one) restarted ∙ same_one in
      let two : torn.two ≡ erased_bank = ap (λ (a : State). a.two) restarted ∙ same_two in
      let device : reset_device_of torn.device 0 (compared_of smallest torn.one torn.two) ≡ s.device = ap (λ (a : State). a.device) restarted in
      sym device ∙ rw (one, two) (power_on_there torn.device)

  one_bench : s ≡ start_of
  one_bench = λ i. record { device = same_device i; one = same_one i; two = same_two i }

-- ---- what is printed

print_long : (script : List ℕ) → 65536 < length script → printed_of script ≡ 49 ∷ 52 ∷ 10 ∷ []
unfolding printed_of digit_of width_of
print_long script l = rw (lt-ltb longest (length script) (omega (arith, l)))

print_none : (script : List ℕ) → (Script script → ⊥) → printed_of script ≡ 49 ∷ 52 ∷ 10 ∷ []
unfolding printed_of digit_of width_of
print_none script bad = go (dec_le (length script) longest) (is_script_of script) refl
  where
    go : Dec (length script ≤ longest) → (t : Bool) → is_script_of script ≡ t → printed_of script ≡ 49 ∷ 52 ∷ 10 ∷ []
    go (no l) t e = rw (lt-ltb longest (length script) (omega arith))
    go (yes l) true e = absurd (bad (script_sentences.scripts script e))
    go (yes l) false e = rw (le-ltb longest (length script) l, e)

print_played : (script : List ℕ) → length script ≤ 65536 → Script script → (s : State) → Bench s
    → printed_of script ≡ lines_of smallest [] s script (length script / 8)
unfolding printed_of
print_played script short good s b = rw (one_bench s b, le-ltb longest (length script) (omega (arith, short)), script_sentences.no_others script good)

pub program_sentences : ProgramSentences
program_sentences = record { long = print_long; no_script = print_none; bench = start_of; there = there; played = print_played }
