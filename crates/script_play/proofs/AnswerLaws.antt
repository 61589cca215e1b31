-- What the records of a play answer: 0, 4, 5 or 6, since the play's own declines leave nothing that could decline a record by another
-- number.
-- Assumes nothing.
use mathlib.Core.Path.{◌≡◌, refl, sym}
use mathlib.Core.Bool.{Bool, true, false}
use mathlib.Core.List.{List, [], ◌∷◌}
use Prim.Native.Nat.{ℕ, ◌%◌, ◌≤◌, ◌<◌}
use lib.Dec.{eqb}
use lib.ListN.{length}
use Rattle.words.proofs.PickLaws.{and_both, all-below}
use Rattle.words.proofs.BitLaws.{true_not_false}
use Rattle.geometry.specs.declared.banks.Geometry.{Geometry}
use Rattle.geometry.specs.Banks.{in_range_of}
use Rattle.words.specs.Decline.{Verdict, accepted_of}
use Rattle.common_declines.specs.CommonDecline.{common_decline_of}
use Rattle.common_declines.proofs.CommonDeclineLaws.{ready}
use Rattle.device.specs.State.{State}
use Rattle.controller.specs.Controller.{Sound}
use Rattle.script_format.specs.Records.{Bytes, record_of, is_record_of, records_of, is_script_of}
use Rattle.script_record.specs.Record.{record_after_of}
use Rattle.script_record.proofs.AnswerLaws.{RecordAnswer, record_answer}
use Rattle.script_play.specs.Play.{state_of, play_decline_of, decline_of}
use Rattle.script_play.proofs.ControllerLaws.{play_sound}

-- a play that is accepted is declined neither by 1 to 3 nor for its script
neither_declines : (g : Geometry) (sram : List ℕ) (s : State) (script : List ℕ) → accepted_of (decline_of g sram s script) ≡ true
    → (accepted_of (common_decline_of g s.device (length s.one ∷ length s.two ∷ []) (length sram)) ≡ true) × (is_script_of script ≡ true)
unfolding play_decline_of
neither_declines g sram s script = go (accepted_of common) refl (is_script_of script) refl
  where
    common : Verdict
    common = common_decline_of g s.device (length s.one ∷ length s.two ∷ []) (length sram)

    go : (a : Bool) → accepted_of common ≡ a → (b : Bool) → is_script_of script ≡ b → accepted_of (decline_of g sram s script) ≡ true
        → (accepted_of common ≡ true) × (is_script_of script ≡ true)
    go true ea true eb h = (ea, eb)
    go false ea true eb h = absurd (true_not_false (sym (simp (ea, eb) at h)))
    go false ea false eb h = absurd (true_not_false (sym (simp (ea, eb) at h)))
    go true ea false eb h = absurd (true_not_false (sym (simp (ea, eb) at h)))

-- so it begins with a possible device over banks of the geometry's length
accepted_sound : (g : Geometry) (sram : List ℕ) (s : State) (script : List ℕ) → accepted_of (decline_of g sram s script) ≡ true
    → (in_range_of g ≡ true) × (length sram ≤ 16384) × Sound g s × (is_script_of script ≡ true)
accepted_sound g sram s script h =
    let (opened, known) = neither_declines g sram s script h in
    let r = ready g s.device (length s.one ∷ length s.two ∷ []) (length sram) opened in
    (r.lent.listed, r.lent.room, record { possible = r.possible; first = r.lent.banks.0; other = r.lent.banks.1.0 }, known)

-- so every record of a play
pub record_answers : (g : Geometry) (sram : List ℕ) (s : State) (script : List ℕ) → Bytes script → accepted_of (decline_of g sram s script) ≡ true
    → (i : ℕ) → i < records_of script → RecordAnswer (record_after_of g sram (state_of g sram s script i) (record_of script i)).decline
unfolding is_script_of
record_answers g sram s script bytes h i l =
    let (listed, room, sound, known) = accepted_sound g sram s script h in
    record_answer g sram (state_of g sram s script i) (record_of script i) listed room (play_sound g sram s script bytes sound i)
    (all-below (λ k. is_record_of (record_of script k)) (records_of script) (and_both (eqb (length script % 8) 0) _ known).1 i l)
