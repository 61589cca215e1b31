-- Playing the records of an update's actions: each record is the turn of its place, so i records leave what i turns leave.
-- Assumes nothing.
use mathlib.Core.Path.{◌≡◌, refl, sym, ap, ◌∙◌}
use mathlib.Core.Bool.{true}
use mathlib.Core.List.{List, [], ◌∷◌, ◌++◌}
use Prim.Native.Nat.{ℕ, zero, suc, ◌*◌, ◌≤◌, ◌<◌}
use native.Mathlib.Omega.{arith}
use lib.ListN.{length, get_or, take, replicate, length-replicate, length-take}
use Rattle.words.specs.Quad.{word_at}
use Rattle.words.specs.Decline.{accepted_of}
use Rattle.geometry.specs.declared.banks.Geometry.{Geometry}
use Rattle.geometry.proofs.SizeLaws.{in-range}
use Rattle.sequence.specs.Sequence.{sequence_index_of}
use Rattle.device.specs.State.{State, After, bank_of}
use Rattle.common_declines.proofs.CommonDeclineLaws.{opens}
use Rattle.script_format.specs.declared.Record.{Record}
use Rattle.script_format.specs.Records.{record_of, records_of}
use Rattle.script_record.specs.Record.{record_after_of}
use Rattle.script_play.specs.Play.{state_of, decline_of, play_decline_of, played_of, play_of}
use Rattle.update.specs.declared.actions.Action.{Action}
use Rattle.update.specs.declared.actions.Action.TheVariants.{Store, Step}
use Rattle.update.specs.Actions.{recorded, actions_of, action_at_of, total_of}
use Rattle.update.specs.Start.{lower_word_of}
use Rattle.update.specs.Turn.{next_action_of, perform_of, performed, Turning, turn_of}
use Rattle.update.specs.PowerFail.{Position, at, turns_of, after_turns, place_after, Cut, restarted, Restarts, old, Lower, SameBanks, Update, Claims}
use Rattle.update.proofs.StartLaws.{starts}
use Rattle.update.proofs.ActionLaws.{actions_total, action_listed}
use Rattle.update.proofs.RunLaws.{one_position, turns_action, turns_place}
use Rattle.update.proofs.MoveLaws.{turns_append}
use Rattle.update.proofs.LargerTotals.{action_fits}
use Rattle.update.proofs.PowerFail.{power_fail}
use Rattle.script_write.specs.Script.{record_bytes_of, script_of}
use Rattle.script_update.proofs.ReadLaws.{AllFit, record_read, records_counted, records_script, first_records_lem, first_fit, first_read}

-- what the record of an action does is what the action does
record_performs : (g : Geometry) (sram : List ℕ) (s : State) (a : Action) → record_after_of g sram s (recorded a) ≡ perform_of g s sram a
unfolding record_after_of
record_performs g sram s (Store r form value) = refl
record_performs g sram s Step = refl

replicate_next : {A : Type 0} (n : ℕ) (x : A) → replicate (suc n) x ≡ replicate n x ++ (x ∷ [])
replicate_next zero x = refl
replicate_next (suc n) x = ap (λ l. x ∷ l) (replicate_next n x)

module _ (sram : List ℕ) (short : length sram ≤ 16384) where
  all_short : (n i : ℕ) → length (get_or (replicate n sram) i []) ≤ 16384
  all_short zero zero = omega arith
  all_short zero (suc i) = omega arith
  all_short (suc n) zero = short
  all_short (suc n) (suc i) = all_short n i

  module _ (g : Geometry) (s : State) (image : List ℕ) (update : Update g s image) where
    abbrev w : ℕ
    w = lower_word_of g s

    abbrev actions : List Action
    actions = actions_of g image w

    abbrev script : List ℕ
    script = record_bytes_of actions

    fits : AllFit actions
    fits i m =
        let l : i < total_of g = omega (arith, actions_total g image w) in
        rw (sym (action_listed g image w i l))
        (action_fits g (in-range g (starts g s image update.accepted).listed) image update.new_words_lem w i l)

    -- n turns with this SRAM
    abbrev turns : ℕ → List (List ℕ)
    turns n = replicate n sram

    turns_count : (n : ℕ) → n ≤ total_of g → place_after g s image (turns n) ≡ n
    turns_count n l =
        let count : length (turns n) ≡ n = length-replicate n sram in
        turns_place g s image update (turns n) (all_short n) (omega arith) ∙ count

    -- the turn of place n, after n turns
    module _ (n : ℕ) (l : n < total_of g) where
      here : place_after g s image (turns n) ≡ n
      here = turns_count n (omega arith)

      turn_performs : turn_of g (after_turns g s image (turns n)) image sram n
          ≡ performed n (perform_of g (after_turns g s image (turns n)) sram (action_at_of g image w n))
      turn_performs =
          let below : place_after g s image (turns n) < total_of g = omega (arith, here) in
          rw here at
          (((power_fail g image).turns (turns_of g image (at s 0) (turns n)) sram).performs ((power_fail g image).answers s update (turns n) sram short) below
          ∙ ap (λ (a : Action). performed (place_after g s image (turns n)) (perform_of g (after_turns g s image (turns n)) sram a))
          (turns_action g s image update (turns n) below))

      turns_next : after_turns g s image (turns (suc n)) ≡ (turn_of g (after_turns g s image (turns n)) image sram n).state
      turns_next =
          ap (after_turns g s image) (replicate_next n sram)
          ∙ ap (λ (p : Position). p.state) (turns_append g image (at s 0) (turns n) (sram ∷ []))
          ∙ ap (λ (k : ℕ). (turn_of g (after_turns g s image (turns n)) image sram k).state) here

      record_next : record_of script n ≡ recorded (action_at_of g image w n)
      record_next =
          let m : n < length actions = omega (arith, actions_total g image w) in
          record_read actions fits n m ∙ ap recorded (sym (action_listed g image w n l))

    -- n records leave what n turns leave
    played : (n : ℕ) → n ≤ total_of g → state_of g sram s script n ≡ after_turns g s image (turns n)
    played zero l = refl
    played (suc n) l =
        let m : n < total_of g = omega arith in
        ap (λ (u : State). (record_after_of g sram u (record_of script n)).state) (played n (omega arith))
        ∙ ap (λ (r : Record). (record_after_of g sram (after_turns g s image (turns n)) r).state) (record_next n m)
        ∙ ap (λ (a : After). a.state) (record_performs g sram (after_turns g s image (turns n)) (action_at_of g image w n))
        ∙ sym (ap (λ (r : Turning). r.state) (turn_performs n m))
        ∙ sym (turns_next n m)

    -- and the next record is the turn of its place
    pub record_turn : (n : ℕ) → n < total_of g → let u = state_of g sram s script n in
        turn_of g u image sram n ≡ performed n (record_after_of g sram u (record_of script n))
    record_turn n l =
        rw (played n (omega arith), record_next n l, record_performs g sram (after_turns g s image (turns n)) (action_at_of g image w n)) (turn_performs n l)

    pub record_action : (n : ℕ) → n < total_of g → record_of script n ≡ recorded (next_action_of g (state_of g sram s script n) image n)
    record_action n l =
        record_next n l
        ∙ ap recorded
        (sym
        (ap (λ (u : State). next_action_of g u image n) (played n (omega arith))
        ∙ rw (here n l) at (turns_action g s image update (turns n) (omega (arith, here n l)))))

    pub record_accepted : (n : ℕ) → n < total_of g → accepted_of (turn_of g (state_of g sram s script n) image sram n).decline ≡ true
    record_accepted n l =
        rw (played n (omega arith)) (rw (here n l) at ((power_fail g image).answers s update (turns n) sram short))

    -- any turns that did so many actions
    pub under_way : (srams : List (List ℕ)) → state_of g sram s script (place_after g s image srams) ≡ after_turns g s image srams
    under_way srams =
        let n = place_after g s image srams in
        let within : n ≤ total_of g = (power_fail g image).within s update srams in
        played n within ∙ ap (λ (p : Position). p.state) (one_position g s image update (turns n) srams (turns_count n within))

    -- ---- a play of records of actions that fit is not declined
    accepted : (l : List Action) → AllFit l → accepted_of (decline_of g sram s (record_bytes_of l)) ≡ true
    unfolding play_decline_of
    accepted l fit =
        let at_start = starts g s image update.accepted in
        rw (
          opens g s.device (length s.one ∷ length s.two ∷ []) (length sram) at_start.listed
              (at_start.sound.first, (at_start.sound.other, tt)) short at_start.sound.possible,
          records_script l fit,
        )

    plays : (l : List Action) → AllFit l → (buffer : List ℕ) → play_of g sram s (record_bytes_of l) buffer ≡ played_of g sram s (record_bytes_of l) buffer
    unfolding play_of
    plays l fit buffer = rw (accepted l fit)

    pub play_ends : (buffer : List ℕ) → let a = play_of g sram s script buffer in
        (accepted_of a.decline ≡ true) × (a.after ≡ state_of g sram s script (total_of g))
    play_ends buffer = rw (plays actions fits buffer, records_counted actions, actions_total g image w) (refl, refl)

    -- the first n records by themselves
    module _ (n : ℕ) (few : n ≤ total_of g) where
      within : n ≤ length actions
      within = rw (actions_total g image w) few

      same_first : (k : ℕ) → k ≤ n → state_of g sram s (record_bytes_of (take n actions)) k ≡ state_of g sram s script k
      same_first zero l = refl
      same_first (suc k) l =
          ap (λ (u : State). (record_after_of g sram u (record_of (record_bytes_of (take n actions)) k)).state) (same_first k (omega arith))
          ∙ ap (λ (r : Record). (record_after_of g sram (state_of g sram s script k) r).state) (first_read actions fits n within k (omega arith))

      pub play_first : (buffer : List ℕ) → let a = play_of g sram s (take (8 * n) script) buffer in
          (accepted_of a.decline ≡ true) × (a.after ≡ state_of g sram s script n)
      play_first buffer =
          let first = take n actions in
          let count : records_of (record_bytes_of first) ≡ n = records_counted first ∙ omega (arith, length-take n actions, within) in
          rw (first_records_lem actions n within, plays first (first_fit actions fits n within) buffer, count) (refl, same_first n (omega arith))

    -- ---- cuts
    pub play_claims : (n : ℕ) → n ≤ total_of g → Claims g s image (state_of g sram s script (total_of g)) (state_of g sram s script n)
    play_claims n l =
        let most : total_of g ≤ total_of g = omega arith in
        rw (played (total_of g) most, played n l) ((power_fail g image).claims s update (turns (total_of g)) (turns n) (turns_count (total_of g) most))

    module _ (n : ℕ) (l : n ≤ total_of g) (c : Cut) where
      abbrev cut : State
      cut = restarted g (state_of g sram s script n) c

      -- where the old bank runs again its sequence word is the same
      pub same_word : Lower cut (old s) → lower_word_of g cut ≡ lower_word_of g s
      same_word lower =
          ap (λ b. word_at (bank_of cut b) (sequence_index_of g)) lower.0
          ∙ ap (λ (bank : List ℕ). word_at bank (sequence_index_of g)) ((play_claims n l).old_kept_cut c).1

-- ---- and the same script ends the same
pub play_again : (g : Geometry) (s : State) (image : List ℕ) → Update g s image → (sram : List ℕ) → length sram ≤ 16384 → (n : ℕ) → n ≤ total_of g → (c : Cut)
    → let all = script_of g image (lower_word_of g s) in
    let u = state_of g sram s all n in
    Restarts g u c → Lower (restarted g u c) (old s) → (other : List ℕ) → length other ≤ 16384
    → SameBanks (state_of g sram s all (total_of g)) (state_of g other (restarted g u c) all (total_of g))
unfolding script_of
play_again g s image update sram short n l c restarts lower other room =
    let (again, ends) = (play_claims sram short g s image update n l).again c restarts lower in
    let after = cut sram short g s image update n l c in
    let same = same_word sram short g s image update n l c lower in
    let most : total_of g ≤ total_of g = omega arith in
    let end = rw same at (played other room g after image again (total_of g) most) in
    rw end (ends (replicate (total_of g) other) (turns_count other room g after image again (total_of g) most))
