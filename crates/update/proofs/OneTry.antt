-- One try of turns alone: its list has one element, and a second update after it is a second element.
-- Assumes nothing.
use mathlib.Core.Path.{◌≡◌, sym, subst, ap, ◌∙◌}
use mathlib.Core.Bool.{true, not}
use mathlib.Core.List.{List, [], ◌∷◌}
use Prim.Native.Nat.{ℕ}
use native.Mathlib.Omega.{arith}
use Rattle.words.specs.Decline.{accepted_of}
use Rattle.geometry.specs.declared.banks.Geometry.{Geometry}
use Rattle.device.specs.State.{State, bank_of}
use Rattle.update.specs.Actions.{total_of}
use Rattle.update.specs.PowerFail.{Position, at, turns_of, after_turns, place_after, Cut, reset_by, started_up, restarted}
use Rattle.update.specs.PowerFail.{old, Lower, Runs, new_bank_of, SameBanks, Update}
use Rattle.update.specs.Moves.{moves_of, turn_moves}
use Rattle.update.specs.Tries.{Try, fails_at, tried_of, tries_of, Tried, AfterTries, EachTry, Tries}
use Rattle.update.specs.OneTry.{one_try, OneTry}
use Rattle.update.proofs.PlacedLaws.{same_bank}
use Rattle.update.proofs.Moves.{moves_fail}

-- a power-on with no bit torn
power_on : Cut
power_on = record { sram = []; kind = 0; mask = [] }

module _ (g : Geometry) (image : List ℕ) (tries : Tries g image) where
  -- as moves the turns leave what they leave as turns
  turns_alone : (t : State) (B : List (List ℕ)) → moves_of g image (at t 0) (turn_moves B) ≡ turns_of g image (at t 0) B
  turns_alone t B = (moves_fail g image).turns_alone (at t 0) B

  fails_same : (t : State) (B : List (List ℕ)) (c : Cut) → fails_at g image t (one_try B c) ≡ after_turns g t image B
  fails_same t B c = ap (λ (p : Position). p.state) (turns_alone t B)

  place_same : (t : State) (B : List (List ℕ)) → place_after g t image B ≡ total_of g → (moves_of g image (at t 0) (turn_moves B)).place ≡ total_of g
  place_same t B done = ap (λ (p : Position). p.place) (turns_alone t B) ∙ done

  started_same : (t : State) (B : List (List ℕ)) (c : Cut) → started_up g (tried_of g image t (one_try B c)) ≡ restarted g (after_turns g t image B) c
  started_same t B c = ap (λ (s : State). restarted g s c) (fails_same t B c)

  module _ (s : State) (update : Update g s image) where
    -- the cut of a list of turns, as a try
    tried : (B : List (List ℕ)) (c : Cut) → accepted_of (reset_by g (after_turns g s image B) c).decline ≡ true → Tried g image (old s) s (one_try B c ∷ [])
    tried B c ok = ((tries.none s update).0, ap (λ (t : State). accepted_of (reset_by g t c).decline) (fails_same s B c) ∙ ok, tt)

    one : (B : List (List ℕ)) (c : Cut) → accepted_of (reset_by g (after_turns g s image B) c).decline ≡ true
        → AfterTries g s image (restarted g (after_turns g s image B) c)
    one B c ok = rw (started_same s B c) at (tries.after s update (one_try B c ∷ []) [] (tried B c ok))

    each : (y : Try) → EachTry g s image s y
    each y = tries.each s update [] tt (tries.none s update).0 y

    -- run A: cut by a power-on it ends with the new, and with its own banks
    module _ (A : List (List ℕ)) (done : place_after g s image A ≡ total_of g) where
      new_runs : (c : Cut) → accepted_of (reset_by g (after_turns g s image A) c).decline ≡ true
          → Runs (restarted g (after_turns g s image A) c) (not (old s)) (new_bank_of g s image)
      new_runs c ok =
          subst (λ (u : State). Runs u (not (old s)) (new_bank_of g s image)) (started_same s A c)
          ((each (one_try A c)).reaches (place_same s A done) (ap (λ (t : State). accepted_of (reset_by g t c).decline) (fails_same s A c) ∙ ok))

      accepted : accepted_of (reset_by g (after_turns g s image A) power_on).decline ≡ true
      unfolding power_on
      accepted =
          sym (ap (λ (t : State). accepted_of (reset_by g t power_on).decline) (fails_same s A power_on))
          ∙ (each (one_try A power_on)).cuts power_on (omega arith) (omega arith)

      new_left : bank_of (after_turns g s image A) (not (old s)) ≡ new_bank_of g s image
      new_left =
          let runs = new_runs power_on accepted in
          let same = (one A power_on accepted).as_uncut runs.0 A done in
          sym (same_bank (after_turns g s image A) (restarted g (after_turns g s image A) power_on) same (not (old s))) ∙ runs.1

  -- a second update from where the old bank runs: as a second try it ends with A's banks, and as a first one with its own
  module _ (s : State) (update : Update g s image) (A B C : List (List ℕ)) (done : place_after g s image A ≡ total_of g) (c : Cut)
      (ok : accepted_of (reset_by g (after_turns g s image B) c).decline ≡ true) (lower : Lower (restarted g (after_turns g s image B) c) (old s))
      (end : place_after g (restarted g (after_turns g s image B) c) image C ≡ total_of g) where
    abbrev t : State
    t = restarted g (after_turns g s image B) c

    abbrev last : State
    last = restarted g (after_turns g t image C) power_on

    next : Update g t image
    next = (one s update B c ok).next lower

    ok_again : accepted_of (reset_by g (after_turns g t image C) power_on).decline ≡ true
    ok_again = accepted t next C end

    -- the second try, from what the first left
    abbrev Second : State → Type 0
    Second a = Lower a (old s) × (accepted_of (reset_by g (fails_at g image a (one_try C power_on)) power_on).decline ≡ true) × Unit {0}

    second : Second (started_up g (tried_of g image s (one_try B c)))
    second =
        subst Second (sym (started_same s B c))
        (lower, ap (λ (u : State). accepted_of (reset_by g u power_on).decline) (fails_same t C power_on) ∙ ok_again, tt)

    two : Tried g image (old s) s (one_try B c ∷ one_try C power_on ∷ [])
    two = let (from, cut_ok, none) = tried s update B c ok in (from, cut_ok, second)

    ends_at : tries_of g image s (one_try B c ∷ one_try C power_on ∷ []) ≡ last
    ends_at = ap (λ (u : State). started_up g (tried_of g image u (one_try C power_on))) (started_same s B c) ∙ started_same t C power_on

    runs : Lower last (not (old s))
    runs =
        let (boot, program) = (new_runs t next C end power_on ok_again).0 in
        (boot ∙ ap not lower.0, program ∙ ap not lower.0)

    ends_same : SameBanks (after_turns g s image A) (after_turns g t image C)
    ends_same =
        let from_s = (subst (AfterTries g s image) ends_at (tries.after s update (one_try B c ∷ one_try C power_on ∷ []) [] two)).as_uncut runs A done in
        let from_t = (one t next C power_on ok_again).as_uncut (new_runs t next C end power_on ok_again).0 C end in
        (sym from_t.0 ∙ from_s.0, sym from_t.1 ∙ from_s.1)

  pub one_try_lem : (s : State) → Update g s image → OneTry g s image
  one_try_lem s update =
      record {
        complete = λ A done. (new_left s update A done, new_runs s update A done);
        cut = λ A B done c ok. rw (new_left s update A done) (one s update B c ok).old_or_new;
        again = λ A B done c ok lower. ((one s update B c ok).next lower, λ C end. ends_same s update A B C done c ok lower end);
      }
