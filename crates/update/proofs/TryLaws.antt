-- One try: where the supply fails some list of turns stands; its cut leaves a sign at rest, and every reset and cut start-up after it does.
-- Assumes nothing.
use mathlib.Core.Path.{◌≡◌, refl, sym, ap, ◌∙◌}
use mathlib.Core.Bool.{Bool, true, false, not}
use mathlib.Core.List.{List, [], ◌∷◌}
use Prim.Native.Nat.{ℕ}
use lib.ListN.{length, take}
use Rattle.words.specs.Decline.{accepted_of}
use Rattle.geometry.specs.declared.banks.Geometry.{Geometry}
use Rattle.geometry.specs.Banks.{bank_words_of}
use Rattle.device.specs.Record.{running}
use Rattle.device.specs.State.{State, bank_of}
use Rattle.start_up.specs.StartUp.{stores_of, start_up_stores}
use Rattle.controller.specs.Controller.{Operation, Sound}
use Rattle.controller.proofs.Controller.{controller}
use Rattle.controller.proofs.WaitLaws.{idle_free}
use Rattle.update.specs.Actions.{total_of}
use Rattle.update.specs.PowerFail.{Position, at, turns_of, after_turns, place_after, Cut, reset_by, started_up, old, Lower, Runs, new_bank_of}
use Rattle.update.specs.PowerFail.{SameBanks, OldKept, Update}
use Rattle.update.specs.Moves.{moves_of, waits_in, turns_among, End, end_state_of, ByTurns}
use Rattle.update.specs.Moves.End.{whole, inside}
use Rattle.update.specs.Tries.{EarlyCut, Interruption, cut_stores_of, interrupted_of, interruptions_of, Try, fails_at, tried_of}
use Rattle.update.specs.Tries.Interruption.{reset, begun_start_up}
use Rattle.update.proofs.RestartLaws.{reset_fresh, fresh_wakes, reset_quad, stores_quad, waking_answers, cut_wakes}
use Rattle.update.proofs.PlacedLaws.{placed, both_placed, same_bank, bank_new}
use Rattle.update.proofs.Blocks.{Fixed, Stands, new_bank}
use Rattle.update.proofs.StandsLaws.{stands_turns}
use Rattle.update.proofs.CutLaws.{idle_tear, left_as, after_new}
use Rattle.update.proofs.StartLaws.{start_fixed, start_stands}
use Rattle.update.proofs.RestedLaws.{chosen, Rested, whole_runs, losing_runs}
use Rattle.update.proofs.PowerFail.{reset_idle, kept, cut_left, leaves, done_idle, power_fail}
use Rattle.update.proofs.Moves.{moves_fail}

module _ (u : Fixed) where
  open u use {g, b, old, listed, old_long}

  -- ---- a sign at rest
  module _ (t : State) (r : Rested u t) where
    rested_idle : running t.device ≡ false
    rested_idle = ap (λ (s : State). running s.device) r.state ∙ r.wakes.rest.idle

    pub rested_sound : Sound g t
    rested_sound =
        rw r.state
        (let (one, two) = both_placed (λ (l : List ℕ). length l ≡ bank_words_of g) b old r.new old_long r.long in
        record { possible = r.wakes.rest.possible; first = one; other = two })

    rested_new : r.new ≡ bank_of t (not b)
    rested_new = sym (ap (λ (s : State). bank_of s (not b)) r.state ∙ bank_new b r.device old r.new)

    -- a reset of it, declined or not
    reset_rests : (c : Cut) → Rested u (reset_by g t c).state
    reset_rests c = go (accepted_of (reset_by g t c).decline) refl
      where
        moved : (s : State) → s ≡ placed b r.device old r.new → accepted_of (reset_by g s c).decline ≡ true → Rested u (reset_by g s c).state
        moved s e ok =
            record {
              device = _;
              new = r.new;
              state =
                  ap (λ (s : State). (reset_by g s c).state) e
                  ∙ left_as u r.device r.new r.new c (rw e at ok) (idle_tear u r.device r.new c r.wakes.rest.idle);
              long = r.long;
              outcome = r.outcome;
              quad = reset_quad r.device c.kind (chosen u r.new) r.quad;
              wakes =
                  fresh_wakes g (chosen u r.new) _ (reset_fresh g listed r.device r.wakes.rest.possible c.kind (chosen u r.new));
            }

        go : (d : Bool) → accepted_of (reset_by g t c).decline ≡ d → Rested u (reset_by g t c).state
        go true ok = moved t r.state ok
        go false off = rw (controller.declined_same g t (Operation.reset c.sram c.kind c.mask) off) r

    -- and a start-up that is cut
    stores_rest : (n : ℕ) → Rested u (interrupted_of g t (begun_start_up n))
    stores_rest n =
        record {
          device = cut_stores_of g r.device n;
          new = r.new;
          state = ap (λ (s : State). interrupted_of g s (begun_start_up n)) r.state;
          long = r.long;
          outcome = r.outcome;
          quad = rw done (stores_quad g r.device (take n (start_up_stores r.device)) ∙ r.quad);
          wakes = rw done (cut_wakes g (chosen u r.new) r.device r.wakes n);
        }
      where
        done : cut_stores_of g r.device n ≡ stores_of g r.device (take n (start_up_stores r.device))
        done = rw (waking_answers g (chosen u r.new) r.device r.wakes)

    interruption_rests : (i : Interruption) → Rested u (interrupted_of g t i)
    interruption_rests (reset c) = reset_rests c
    interruption_rests (begun_start_up n) = stores_rest n

    -- none of them changes a bank
    interruption_keeps : (i : Interruption) → SameBanks t (interrupted_of g t i)
    interruption_keeps (reset c) = reset_idle g t c rested_idle
    interruption_keeps (begun_start_up n) = (refl, refl)

  interruptions_rest : (t : State) → Rested u t → (l : List Interruption) → Rested u (interruptions_of g t l)
  interruptions_rest t r [] = r
  interruptions_rest t r (i ∷ l) = interruptions_rest (interrupted_of g t i) (interruption_rests t r i) l

  interruptions_keep : (t : State) → Rested u t → (l : List Interruption) → SameBanks t (interruptions_of g t l)
  interruptions_keep t r [] = (refl, refl)
  interruptions_keep t r (i ∷ l) =
      let first = interruption_keeps t r i in
      let later = interruptions_keep (interrupted_of g t i) (interruption_rests t r i) l in
      (later.0 ∙ first.0, later.1 ∙ first.1)

-- ---- a try of an update from t
module _ (g : Geometry) (image : List ℕ) (t : State) (update : Update g t image) (y : Try) where
  abbrev pub try_fixed : Fixed
  try_fixed = start_fixed g t image update (old t) refl

  -- where the supply fails some list of turns stands
  fails : ByTurns g t image (fails_at g image t y) (moves_of g image (at t 0) y.moves).place
  fails = (moves_fail g image).left t update y.moves y.end

  stands : (srams : List (List ℕ)) → Stands try_fixed (turns_of g image (at t 0) srams)
  stands = stands_turns try_fixed (at t 0) (start_stands g t image update (old t) refl)

  pub fails_sound : Sound g (fails_at g image t y)
  fails_sound = rw (← fails.same) (stands fails.srams).sound

  pub fails_kept : OldKept t (fails_at g image t y)
  fails_kept = rw (← fails.same) (kept try_fixed (turns_of g image (at t 0) fails.srams) (stands fails.srams))

  -- its cut leaves a sign at rest
  cut_rests : accepted_of (reset_by g (fails_at g image t y) y.cut).decline ≡ true → Rested try_fixed (reset_by g (fails_at g image t y) y.cut).state
  cut_rests = rw (← fails.same) (leaves try_fixed (turns_of g image (at t 0) fails.srams) (stands fails.srams) y.cut)

  module _ (ok : accepted_of (reset_by g (fails_at g image t y) y.cut).decline ≡ true) where
    pub tried_rests : Rested try_fixed (tried_of g image t y)
    tried_rests = interruptions_rest try_fixed _ (cut_rests ok) y.later

    -- a cut before the last step, where no read waited
    module _ (unwaited : waits_in g image (at t 0) y.moves ≡ false) (whole_end : y.end ≡ whole)
        (early : EarlyCut g (moves_of g image (at t 0) y.moves).place y.cut) where
      turns : moves_of g image (at t 0) y.moves ≡ turns_of g image (at t 0) (turns_among y.moves)
      turns = (moves_fail g image).unwaited (at t 0) y.moves unwaited

      at_turns : fails_at g image t y ≡ after_turns g t image (turns_among y.moves)
      at_turns = ap (end_state_of g (moves_of g image (at t 0) y.moves).state) whole_end ∙ ap (λ (p : Position). p.state) turns

      pub early_runs : Lower (started_up g (tried_of g image t y)) (old t)
      early_runs =
          let p = turns_of g image (at t 0) (turns_among y.moves) in
          let left = cut_left try_fixed p (stands (turns_among y.moves)) y.cut (rw at_turns at ok) in
          let loses = left.early (rw turns at early) in
          let cut = (reset_by g (fails_at g image t y) y.cut).state in
          let same : tried_rests.new ≡ left.new =
          rested_new try_fixed (tried_of g image t y) tried_rests
          ∙ same_bank cut (tried_of g image t y) (interruptions_keep try_fixed _ (cut_rests ok) y.later) (not (old t))
          ∙ ap (λ (s : State). bank_of (reset_by g s y.cut).state (not (old t))) at_turns
          ∙ after_new try_fixed _ _ y.cut left in
          losing_runs try_fixed (tried_of g image t y) tried_rests (rw same loses)

    -- a try whose moves reach the total
    module _ (done : (moves_of g image (at t 0) y.moves).place ≡ total_of g) where
      turned : moves_of g image (at t 0) y.moves ≡ turns_of g image (at t 0) (turns_among y.moves)
      turned = (moves_fail g image).total t update y.moves done

      reached : place_after g t image (turns_among y.moves) ≡ total_of g
      reached = ap (λ (p : Position). p.place) (sym turned) ∙ done

      idle : running (moves_of g image (at t 0) y.moves).state.device ≡ false
      idle =
          ap (λ (p : Position). running p.state.device) turned
          ∙ done_idle try_fixed (turns_of g image (at t 0) (turns_among y.moves)) (stands (turns_among y.moves)) reached

      -- no operation runs, so no read waits there
      ends : fails_at g image t y ≡ after_turns g t image (turns_among y.moves)
      ends = go y.end ∙ ap (λ (p : Position). p.state) turned
        where
          go : (end : End) → end_state_of g (moves_of g image (at t 0) y.moves).state end ≡ (moves_of g image (at t 0) y.moves).state
          go whole = refl
          go (inside sram address n) = rw (idle_free g (moves_of g image (at t 0) y.moves).state sram address idle)

      -- so the new bank is whole, and stays so
      whole_new : tried_rests.new ≡ new_bank try_fixed
      whole_new =
          let rests = cut_rests ok in
          let cut = (reset_by g (fails_at g image t y) y.cut).state in
          let off : running (fails_at g image t y).device ≡ false =
          ap (λ (s : State). running s.device) (ends ∙ sym (ap (λ (p : Position). p.state) turned)) ∙ idle in
          rested_new try_fixed (tried_of g image t y) tried_rests
          ∙ same_bank cut (tried_of g image t y) (interruptions_keep try_fixed _ rests y.later) (not (old t))
          ∙ same_bank (fails_at g image t y) cut (reset_idle g (fails_at g image t y) y.cut off) (not (old t))
          ∙ ap (λ (s : State). bank_of s (not (old t))) ends
          ∙ ((power_fail g image).claims t update (turns_among y.moves) [] reached).new_left

      pub reaches_runs : Runs (started_up g (tried_of g image t y)) (not (old t)) (new_bank_of g t image)
      reaches_runs = whole_runs try_fixed (tried_of g image t y) tried_rests whole_new
