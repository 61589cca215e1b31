-- The same turns of both updates: both are declined or both perform their actions, so they stay at the same place and near each other; they
-- are the same up to the differing store, and their devices are the same again from the next store to that register on.
-- Assumes nothing.
use mathlib.Core.Path.{◌≡◌, refl, sym, ap, ◌∙◌}
use Rattle.std.specs.Prelude.{Ok, Err}
use mathlib.Core.Bool.{true}
use mathlib.Core.List.{List}
use mathlib.Core.Logic.{◌⊎◌, inl, inr}
use Prim.Native.Nat.{ℕ, ◌+◌, ◌%◌, ◌≤◌, ◌<◌}
use native.Mathlib.Decide.{dec_le}
use native.Mathlib.Omega.{arith}
use lib.ListN.{length}
use Rattle.words.specs.Quad.{word_at}
use Rattle.words.specs.declared.decline.Decline.{Decline}
use Rattle.words.specs.Decline.{accepted_of}
use Rattle.words.proofs.DeclineLaws.{held}
use Rattle.geometry.specs.declared.banks.Geometry.{Geometry}
use Rattle.device.specs.Record.{running}
use Rattle.device.specs.State.{State}
use Rattle.update.specs.declared.actions.Action.{Action}
use Rattle.update.specs.declared.actions.Action.TheVariants.{Store, Step}
use Rattle.update.specs.Actions.{total_of}
use Rattle.update.specs.Turn.{next_action_of, action_decline_of, perform_of, Turning}
use Rattle.update.specs.PowerFail.{Position, at, turned_of, old, Update}
use Rattle.update.proofs.TurnLaws.{answers_so, performs, turn_cases, turn_done}
use Rattle.update.proofs.Blocks.{Fixed, Finished, Stands}
use Rattle.update.proofs.PhaseLaws.{action_at, phase_place}
use Rattle.update.proofs.StandsLaws.{goes, stands_action, stands_answers, stands_turn}
use Rattle.reach_update.specs.Near.{NearState}
use Rattle.reach_update.proofs.DeviceLaws.{store_near}
use Rattle.reach_update.proofs.PairLaws.{u, v, Alike, actions_alike, listed, few, step_near}

module _ (g : Geometry) (s : State) (image other : List ℕ) (i : ℕ) (update : Update g s image) (also : Update g s other)
    (same : (j : ℕ) → (j ≡ i → ⊥) → word_at image j ≡ word_at other j) where
  abbrev pub first : Fixed
  first = u g s image other i update also same

  abbrev pub second : Fixed
  second = v g s image other i update also same

  -- where the two updates are after the same turns
  pub record Pair (p q : Position) : Type 0 where
    pub at_p : Stands first p
    pub at_q : Stands second q
    pub place : p.place ≡ q.place
    pub near : NearState (old s) i p.state q.state

  moved : (a b c d : Position) → a ≡ c → b ≡ d → NearState (old s) i c.state d.state → NearState (old s) i a.state b.state
  moved a b c d e f h = rw (e, f) h

  -- ---- one turn
  module _ (p q : Position) (pair : Pair p q) (sram : List ℕ) where
    -- what the actions of the place leave
    abbrev pub next_p : Position
    next_p = at (perform_of g p.state sram (next_action_of g p.state image p.place)).state (p.place + 1)

    abbrev pub next_q : Position
    next_q = at (perform_of g q.state sram (next_action_of g q.state other q.place)).state (q.place + 1)

    action_near : length sram ≤ 16384 → (a b : Action) → Alike (i % 4) a b → accepted_of (action_decline_of p.state.device a) ≡ true
        → NearState (old s) i (perform_of g p.state sram a).state (perform_of g q.state sram b).state
    action_near short (Store r form v) (Store t form' w) (er, ef, ev) ok =
        rw (← er, ← ef)
        (record {
          device =
              store_near g (listed g s image other i update also same) (i % 4) (few g s image other i update also same) p.state.device q.state.device
              pair.at_p.sound.possible pair.at_q.sound.possible pair.near.device r form v w ev;
          old_bank = pair.near.old_bank;
          new_bank_lem = pair.near.new_bank_lem;
        })
    action_near short Step Step alike ok =
        step_near g s image other i update also same p q pair.at_p pair.at_q pair.near
        (held (running p.state.device) (Ok tt) (Err Decline.Idle) refl ok).0 sram short
    action_near short (Store r form v) Step alike ok = absurd alike
    action_near short Step (Store r form v) alike ok = absurd alike

    module _ (short : length sram ≤ 16384) (below : p.place < total_of g) where
      below_q : q.place < total_of g
      below_q = omega (arith, pair.place)

      pub action_p : next_action_of g p.state image p.place ≡ action_at first p.place
      action_p = stands_action first p pair.at_p below

      pub action_q : next_action_of g q.state other q.place ≡ action_at second p.place
      action_q = stands_action second q pair.at_q below_q ∙ ap (action_at second) (sym pair.place)

      pub allowed : accepted_of (action_decline_of p.state.device (action_at first p.place)) ≡ true
      allowed =
          ap (λ (t : State). accepted_of (action_decline_of t.device (action_at first p.place))) pair.at_p.state
          ∙ (goes first p pair.at_p sram short below).allowed

      performs_near : NearState (old s) i next_p.state next_q.state
      performs_near =
          rw (action_p, action_q)
          (action_near short (action_at first p.place) (action_at second p.place) (actions_alike g s image other i update also same p.place) allowed)

      turned_p : turned_of g image p sram ≡ next_p
      turned_p =
          ap (λ (t : Turning). at t.state t.place)
          (performs g p.state image sram p.place below
          (ap accepted_of (sym (answers_so g p.state image sram p.place)) ∙ stands_answers first p pair.at_p sram short))

      turned_q : turned_of g other q sram ≡ next_q
      turned_q =
          ap (λ (t : Turning). at t.state t.place)
          (performs g q.state other sram q.place below_q
          (ap accepted_of (sym (answers_so g q.state other sram q.place)) ∙ stands_answers second q pair.at_q sram short))

    -- both perform their actions, or both stay
    pub data Turned : Type 0 where
      both : length sram ≤ 16384 → p.place < total_of g → turned_of g image p sram ≡ next_p → turned_of g other q sram ≡ next_q → Turned
      neither : turned_of g image p sram ≡ p → turned_of g other q sram ≡ q → Turned

    pub turned : Turned
    turned = go (phase_place first pair.at_p.device pair.at_p.new p.place pair.at_p.phase) (dec_le (length sram) 16384)
      where
        stays_p : p.place < total_of g → (length sram ≤ 16384 → ⊥) → turned_of g image p sram ≡ p
        stays_p l long = case (turn_cases g p.state image sram p.place l)
          where
            case : (turned_of g image p sram ≡ p) ⊎ ((length sram ≤ 16384) × (turned_of g image p sram ≡ next_p)) → turned_of g image p sram ≡ p
            case (inl e) = e
            case (inr (short, e)) = absurd (long short)

        stays_q : q.place < total_of g → (length sram ≤ 16384 → ⊥) → turned_of g other q sram ≡ q
        stays_q l long = case (turn_cases g q.state other sram q.place l)
          where
            case : (turned_of g other q sram ≡ q) ⊎ ((length sram ≤ 16384) × (turned_of g other q sram ≡ next_q)) → turned_of g other q sram ≡ q
            case (inl e) = e
            case (inr (short, e)) = absurd (long short)

        go : (p.place < total_of g) ⊎ Finished first pair.at_p.device pair.at_p.new p.place → Dec (length sram ≤ 16384) → Turned
        go (inl l) (yes short) = both short l (turned_p short l) (turned_q short l)
        go (inl l) (no long) = neither (stays_p l long) (stays_q (omega (arith, pair.place)) long)
        go (inr c) d =
            neither (turn_done g p.state image sram p.place c.here) (turn_done g q.state other sram q.place (sym pair.place ∙ c.here))

    pub turn_pair : Pair (turned_of g image p sram) (turned_of g other q sram)
    turn_pair = go turned
      where
        go : Turned → Pair (turned_of g image p sram) (turned_of g other q sram)
        go (both short l e f) =
            record {
              at_p = stands_turn first p pair.at_p sram;
              at_q = stands_turn second q pair.at_q sram;
              place = ap (λ (r : Position). r.place) e ∙ ap (λ (n : ℕ). n + 1) pair.place ∙ sym (ap (λ (r : Position). r.place) f);
              near = moved _ _ next_p next_q e f (performs_near short l);
            }
        go (neither e f) = rw (e, f) pair
