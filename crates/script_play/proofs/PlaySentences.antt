-- A script is played record by record in one way, and the declines are told by two tests. Assumes nothing.
use mathlib.Core.Path.{◌≡◌, refl, sym, ap, ap₂, subst, ◌∙◌}
use Rattle.std.specs.Prelude.{Ok, Err}
use mathlib.Core.Bool.{Bool, true, false}
use mathlib.Core.List.{List, [], ◌∷◌, ◌++◌}
use Prim.Native.Nat.{ℕ, zero, suc, ◌+◌, ◌/◌}
use native.Mathlib.Numerals.{one-add}
use native.Mathlib.Decide.{ℕ_discrete}
use borrow.Author.Tests.{eq-eqb, ne_eqb, eqb-true}
use lib.ListN.{length}
use Rattle.words.specs.Word.{pick}
use Rattle.words.specs.declared.decline.Decline.{Decline}
use Rattle.words.specs.Decline.{Verdict, number_of, accepted_of, first_of}
use Rattle.words.proofs.Numbers.{numbers}
use Rattle.words.proofs.BitLaws.{true_not_false}
use Rattle.text.proofs.LineSentences.{lines_fixed}
use Rattle.script_format.specs.Records.{record_of, is_script_of}
use Rattle.script_format.specs.ScriptSentences.{Script}
use Rattle.script_format.proofs.ScriptSentences.{script_sentences}
use Rattle.geometry.specs.declared.banks.Geometry.{Geometry}
use Rattle.device.specs.State.{State, After}
use Rattle.device.proofs.FieldLaws.{con_is}
use Rattle.common_declines.specs.CommonDecline.{common_decline_of, Usable, CommonDeclines}
use Rattle.common_declines.proofs.DeclineLaws.{usable, used, common_first, common_fixes}
use Rattle.script_record.specs.Record.{record_after_of}
use Rattle.script_play.specs.Play.{state_of, record_line_of, lines_of, play_decline_of, decline_of, Playback, playback, played_of, play_of}
use Rattle.script_play.specs.PlaySentences.{RecordLine, Played, PlaySentences, PlaysFixed}
use Rattle.script_play.specs.PlaySentences.Played.{none, more}

-- ---- the line of a record
module _ (i : ℕ) (a : After) where
  record_line : RecordLine i a (record_line_of i a)
  record_line = rw (con_is a.state.device) (lines_fixed.meets i (number_of a.decline) a.state.device.nvmcon.0 a.event)

  one_line : (line : List ℕ) → RecordLine i a line → line ≡ record_line_of i a
  one_line line l = lines_fixed.fixes i (number_of a.decline) a.state.device.nvmcon.0 a.event line (rw (con_is a.state.device) at l)

-- ---- the records one after another
module _ (g : Geometry) (sram : List ℕ) (s : State) (script : List ℕ) where
  abbrev next : ℕ → State → After
  next i t = record_after_of g sram t (record_of script i)

  plays : (i : ℕ) → Played g sram s script i (state_of g sram s script i) (lines_of g sram s script i)
  plays zero = none
  plays (suc i) =
      let t = state_of g sram s script i in
      subst (λ (n : ℕ). Played g sram s script n (next i t).state (lines_of g sram s script (suc i))) (one-add i)
      (more i t (lines_of g sram s script i) (record_line_of i (next i t)) (plays i) (record_line i (next i t)))

  -- a record after those that are played as they should be
  one_more : (i : ℕ) (t : State) (output line : List ℕ) → t ≡ state_of g sram s script i → output ≡ lines_of g sram s script i
      → line ≡ record_line_of i (next i t)
      → ((next i t).state ≡ state_of g sram s script (1 + i)) × (output ++ line ≡ lines_of g sram s script (1 + i))
  one_more i t output line reached printed e =
      rw (one-add i)
      (ap (λ (u : State). (next i u).state) reached, ap₂ ◌++◌ printed (e ∙ ap (λ (u : State). record_line_of i (next i u)) reached))

  -- so they are played in one way
  pub one_output : (i : ℕ) (t : State) (output : List ℕ) → Played g sram s script i t output
      → (t ≡ state_of g sram s script i) × (output ≡ lines_of g sram s script i)
  one_output i t output none = (refl, refl)
  one_output i t output (more j u before line p l) =
      let (reached, printed) = one_output j u before p in
      one_more j u before line reached printed (one_line j (next j u) line l)

-- ---- the play
module _ (g : Geometry) (sram : List ℕ) (s : State) (script buffer : List ℕ) where
  abbrev own : Playback
  own = play_of g sram s script buffer

  abbrev lengths : List ℕ
  lengths = length s.one ∷ length s.two ∷ []

  abbrev common : Verdict
  common = common_decline_of g s.device lengths (length sram)

  abbrev known : Verdict
  known = pick (is_script_of script) (Ok tt) (Err Decline.Script)

  same_number : number_of own.decline ≡ number_of (first_of common known)
  unfolding play_of play_decline_of
  same_number = go (first_of common known) (accepted_of (first_of common known)) refl
    where
      go : (d : Verdict) (t : Bool) → accepted_of d ≡ t
          → number_of (pick t (played_of g sram s script buffer) (playback d 0 s buffer)).decline ≡ number_of d
      go d true on = sym (eqb-true _ _ on)
      go d false off = refl

  by_script : Usable g s.device lengths (length sram) → number_of own.decline ≡ number_of known
  by_script u = same_number ∙ rw (used g s.device lengths (length sram) u)

  no_script : (Script script → ⊥) → is_script_of script ≡ false
  no_script bad = go (is_script_of script) refl
    where
      go : (t : Bool) → is_script_of script ≡ t → is_script_of script ≡ false
      go true e = absurd (bad (script_sentences.scripts script e))
      go false e = e

  declined : (number_of own.decline ≡ 0 → ⊥) → (own.after ≡ s) × ((own.buffer ≡ buffer) × (own.bytes ≡ 0))
  unfolding play_of play_decline_of
  declined h =
      let off : accepted_of (decline_of g sram s script) ≡ false = ne_eqb _ _ (λ e. h (same_number ∙ e)) in
      rw off (refl, (refl, refl))

  played : number_of own.decline ≡ 0 → own ≡ played_of g sram s script buffer
  unfolding play_of play_decline_of
  played h =
      let on : accepted_of (decline_of g sram s script) ≡ true = eq-eqb _ _ (sym same_number ∙ h) in
      rw on

  sentences : PlaySentences g sram s script buffer own
  sentences =
      record {
        declines = subst (CommonDeclines g s.device lengths (length sram)) (sym same_number)
            (common_first g s.device lengths (length sram) known);
        no_script = λ u bad. by_script u ∙ rw (no_script bad);
        accepted = λ u good. by_script u ∙ rw (script_sentences.no_others script good);
        declined = declined;
        played = λ h t output p.
            let (reached, printed) = one_output g sram s script (length script / 8) t output p in
            rw (played h, reached, printed) (refl, (refl, refl));
      }

  -- nothing else is a play
  module _ (p : Playback) (m : PlaySentences g sram s script buffer p) where
    one_number : number_of p.decline ≡ number_of own.decline
    one_number = go (accepted_of common) refl (is_script_of script) refl
      where
        u : accepted_of common ≡ true → Usable g s.device lengths (length sram)
        u = usable g s.device lengths (length sram)

        fixed : (n : ℕ) → CommonDeclines g s.device lengths (length sram) n → accepted_of common ≡ false → n ≡ number_of common
        fixed = common_fixes g s.device lengths (length sram)

        go : (t : Bool) → accepted_of common ≡ t → (k : Bool) → is_script_of script ≡ k → number_of p.decline ≡ number_of own.decline
        go false off k e = fixed _ m.declines off ∙ sym (fixed _ sentences.declines off)
        go true on true e =
            let good = script_sentences.scripts script e in
            m.accepted (u on) good ∙ sym (sentences.accepted (u on) good)
        go true on false e =
            let bad : Script script → ⊥ = λ good. true_not_false (sym (script_sentences.no_others script good) ∙ e) in
            m.no_script (u on) bad ∙ sym (sentences.no_script (u on) bad)

    same_parts : (p.after ≡ own.after) × ((p.buffer ≡ own.buffer) × (p.bytes ≡ own.bytes))
    same_parts = go (ℕ_discrete (number_of p.decline) 0)
      where
        go : Dec (number_of p.decline ≡ 0) → (p.after ≡ own.after) × ((p.buffer ≡ own.buffer) × (p.bytes ≡ own.bytes))
        go (no off) =
            let (after, (taken, bytes)) = m.declined off in
            let (own-after, (own-taken, own-bytes)) = declined (λ h. off (one_number ∙ h)) in
            (after ∙ sym own-after, (taken ∙ sym own-taken, bytes ∙ sym own-bytes))
        go (yes h) = rw (played (sym one_number ∙ h)) (m.played h _ _ (plays g sram s script (length script / 8)))

    one_play : p ≡ own
    one_play =
        let decline = numbers.one p.decline own.decline one_number in
        let (after, (taken, bytes)) = same_parts in
        λ i. record { decline = decline i; bytes = bytes i; after = after i; buffer = taken i }

pub plays_fixed : PlaysFixed
plays_fixed = record { meets = sentences; fixes = one_play }
