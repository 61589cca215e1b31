-- Turns are operations of the controller: where the invariant holds the action of a place is the list's, and no step of it reads the SRAM.
-- Assumes nothing.
use mathlib.Core.Path.{◌≡◌, refl, sym, ap, ◌∙◌}
use mathlib.Core.Bool.{true, false, not}
use mathlib.Core.List.{List, [], ◌∷◌, ◌++◌}
use mathlib.Core.Logic.{◌⊎◌, inl, inr}
use Prim.Native.Nat.{ℕ, ◌+◌, ◌≤◌, ◌<◌}
use native.Mathlib.Numerals.{add-one}
use native.Mathlib.Omega.{arith}
use lib.ListN.{length, get_or, take}
use lib.Seq.{take-suc}
use Rattle.geometry.specs.declared.banks.Geometry.{Geometry}
use Rattle.device.specs.declared.record.Device.{Device}
use Rattle.start_up.specs.StartUp.{Access, access}
use Rattle.flash.specs.Effect.{Effect}
use Rattle.flash.specs.Write.{written_of}
use Rattle.flash.specs.Effect.{effect, effect_of}
use Rattle.flash.specs.Step.{advance_of, step_effect_of, stepped_of, step_of}
use Rattle.device.specs.State.{State, After}
use Rattle.device.specs.Record.{running}
use Rattle.controller.specs.Controller.{transition_of, run_of, Sound}
use Rattle.update.specs.declared.actions.Action.{Action}
use Rattle.update.specs.declared.actions.Action.TheVariants.{Step}
use Rattle.update.specs.Actions.{actions_of, action_at_of, total_of}
use Rattle.update.specs.Start.{lower_word_of}
use Rattle.update.specs.Turn.{next_action_of, perform_of}
use Rattle.update.specs.PowerFail.{Position, at, turned_of, turns_of, after_turns, place_after, old, Update}
use Rattle.update.specs.Run.{operation_of, operations_of}
use Rattle.update.proofs.StoringLaws.{none}
use Rattle.update.proofs.PlaceLaws.{store_of_access}
use Rattle.update.proofs.FormLaws.{step_carried}
use Rattle.update.proofs.TurnLaws.{turn_done, turn_cases}
use Rattle.update.proofs.PlacedLaws.{placed}
use Rattle.update.proofs.Blocks.{Fixed, Finished, Stepping, Phase, Stands, stores_in, quad_in, words_in, old_word}
use Rattle.update.proofs.Blocks.Phase.{storing, stepping, ending, finished}
use Rattle.update.proofs.BlockActions.{store_action, step_action, end_action}
use Rattle.update.proofs.BlockSteps.{block_codes, block_writes}
use Rattle.update.proofs.PhaseLaws.{action_at, phase_place}
use Rattle.update.proofs.StandsLaws.{stands_action, stands_turn, stands_turns, turns_raise}
use Rattle.update.proofs.StartLaws.{start_fixed, start_stands}
use Rattle.update.proofs.ActionLaws.{actions_total, action_listed}

-- ---- one action
module _ (u : Fixed) (d : Device) (new : List ℕ) (place : ℕ) (sram : List ℕ) (sound : Sound u.g (placed u.b d u.old new)) where
  open u use {g, image, b, old, listed}

  -- what a place's action leaves is what the operation leaves
  abbrev Same : Type 0
  Same = (perform_of g (placed b d old new) sram (action_at u place)).state ≡ transition_of g (placed b d old new) (operation_of (action_at u place))

  store_same : (a : Access) → action_at u place ≡ store_of_access a → Same
  store_same a action = rw action

  -- a step whose effect is the same with no SRAM
  step_same : length sram ≤ 16384 → action_at u place ≡ Step → Stepping u d new place → Same
  step_same short action c =
      rw action
      (carried sram short
      ∙ ap (λ (e : Effect). written_of (placed b d old new) (advance_of g d e.aborts).device e.write) (writes sram ∙ sym (writes []))
      ∙ sym (carried [] (omega arith)))
    where
      carried : (l : List ℕ) → length l ≤ 16384
          → (step_of g (placed b d old new) l).state ≡ (stepped_of (placed b d old new) (step_effect_of g (placed b d old new) l)).state
      carried l room =
          ap (λ (a : After). a.state) (step_carried g (placed b d old new) l listed sound room (ap running c.device ∙ (block_codes u c.block).on))

      writes : (l : List ℕ)
          → effect_of g (placed b d old new) l ≡ effect false true (not b) (quad_in u c.block c.count) (words_in u c.block)
      writes l =
          ap (λ (e : Device). effect_of g (placed b e old new) l) c.device
          ∙ block_writes u c.block c.first c.count new c.within c.few l

  phase_same : length sram ≤ 16384 → place < total_of g → Phase u d new place → Same
  phase_same short l (storing c) =
      store_same (get_or (stores_in u c.block) c.count none) (ap (action_at u) c.here ∙ store_action u c.block c.within.has c.count c.few)
  phase_same short l (stepping c) = step_same short (ap (action_at u) c.here ∙ step_action u c.block c.within.has c.count c.few) c
  phase_same short l (ending c) = store_same (access 0 1 0x4000) (ap (action_at u) c.here ∙ end_action u c.block c.within.has c.ran)
  phase_same short l (finished c) = absurd (omega (arith, c.here))

-- ---- the list
-- one operation more
run_next : (g : Geometry) (s : State) (l : List Action) (a : Action)
    → transition_of g (run_of g s (operations_of l)) (operation_of a) ≡ run_of g s (operations_of (l ++ (a ∷ [])))
run_next g s [] a = refl
run_next g s (x ∷ l) a = run_next g (transition_of g s (operation_of x)) l a

module _ (g : Geometry) (image : List ℕ) (w : ℕ) (s : State) where
  -- the run of the first actions of the list
  first_run : ℕ → State
  first_run place = run_of g s (operations_of (take place (actions_of g image w)))

  first_next : (place : ℕ) → place < total_of g → transition_of g (first_run place) (operation_of (action_at_of g image w place)) ≡ first_run (place + 1)
  unfolding first_run
  first_next place l =
      rw (add-one place, take-suc (actions_of g image w) place Step (rw (actions_total g image w) l), action_listed g image w place l)
      (run_next g s (take place (actions_of g image w)) (get_or (actions_of g image w) place Step))

-- ---- the turns
module _ (u : Fixed) (s : State) where
  open u use {g, image}

  -- a position whose state is the run of the actions before its place
  abbrev Follows : Position → Type 0
  Follows p = p.state ≡ first_run g image (old_word u) s p.place

  moved : (p q : Position) → p ≡ q → Follows q → Follows p
  moved p q e follows = rw e follows

  module _ (p : Position) (stands : Stands u p) (sram : List ℕ) (follows : Follows p) where
    performs : length sram ≤ 16384 → p.place < total_of g
        → Follows (at (perform_of g p.state sram (next_action_of g p.state image p.place)).state (p.place + 1))
    performs short l =
        ap (λ (a : Action). (perform_of g p.state sram a).state) (stands_action u p stands l)
        ∙ same p.state stands.state stands.sound
        ∙ ap (λ (t : State). transition_of g t (operation_of (action_at u p.place))) follows
        ∙ first_next g image (old_word u) s p.place l
      where
        same : (t : State) → t ≡ placed u.b stands.device u.old stands.new → Sound g t
            → (perform_of g t sram (action_at u p.place)).state ≡ transition_of g t (operation_of (action_at u p.place))
        same t e sound = rw e (phase_same u stands.device stands.new p.place sram (rw e at sound) short l stands.phase)

    turn_follows : Follows (turned_of g image p sram)
    turn_follows = before (phase_place u stands.device stands.new p.place stands.phase)
      where
        before : (p.place < total_of g) ⊎ Finished u stands.device stands.new p.place → Follows (turned_of g image p sram)
        before (inl l) = turn (turn_cases g p.state image sram p.place l)
          where
            next : Position
            next = at (perform_of g p.state sram (next_action_of g p.state image p.place)).state (p.place + 1)

            turn : (turned_of g image p sram ≡ p) ⊎ ((length sram ≤ 16384) × (turned_of g image p sram ≡ next)) → Follows (turned_of g image p sram)
            turn (inl e) = moved _ p e follows
            turn (inr (short, e)) = moved _ next e (performs short l)
        before (inr c) = moved _ p (turn_done g p.state image sram p.place c.here) follows

  turns_follow : (p : Position) → Stands u p → (srams : List (List ℕ)) → Follows p → Follows (turns_of g image p srams)
  turns_follow p stands [] follows = follows
  turns_follow p stands (sram ∷ srams) follows =
      turns_follow (turned_of g image p sram) (stands_turn u p stands sram) srams (turn_follows p stands sram follows)

-- after any list of turns of an accepted update the state is the run of the first `place` actions
turns_run : (g : Geometry) (s : State) (image : List ℕ) → Update g s image → (srams : List (List ℕ))
    → after_turns g s image srams ≡ run_of g s (operations_of (take (place_after g s image srams) (actions_of g image (lower_word_of g s))))
unfolding first_run
turns_run g s image update srams = turns_follow (start_fixed g s image update (old s) refl) s (at s 0) (start_stands g s image update (old s) refl) srams refl

-- so lists of turns that are at one place are in one state, whichever turns were declined and whatever SRAMs they had
pub one_position : (g : Geometry) (s : State) (image : List ℕ) → Update g s image → (A B : List (List ℕ))
    → place_after g s image A ≡ place_after g s image B → turns_of g image (at s 0) A ≡ turns_of g image (at s 0) B
one_position g s image update A B place =
    let state : after_turns g s image A ≡ after_turns g s image B =
    turns_run g s image update A
    ∙ ap (λ (n : ℕ). run_of g s (operations_of (take n (actions_of g image (lower_word_of g s))))) place
    ∙ sym (turns_run g s image update B) in
    λ i. at (state i) (place i)

-- and the action of its place is the list's: t is what it was at the start
pub turns_action : (g : Geometry) (s : State) (image : List ℕ) → Update g s image → (srams : List (List ℕ)) → place_after g s image srams < total_of g
    → next_action_of g (after_turns g s image srams) image (place_after g s image srams) ≡ action_at_of g image (lower_word_of g s)
    (place_after g s image srams)
turns_action g s image update srams l =
    let u = start_fixed g s image update (old s) refl in
    stands_action u (turns_of g image (at s 0) srams) (stands_turns u (at s 0) (start_stands g s image update (old s) refl) srams) l

-- each turn with a short SRAM raises the place, up to the total
pub turns_place : (g : Geometry) (s : State) (image : List ℕ) → Update g s image → (srams : List (List ℕ))
    → ((i : ℕ) → length (get_or srams i []) ≤ 16384) → length srams ≤ total_of g → place_after g s image srams ≡ length srams
turns_place g s image update srams short few =
    turns_raise (start_fixed g s image update (old s) refl) (at s 0) (start_stands g s image update (old s) refl) srams short (omega arith) ∙ omega arith
