-- Every list of turns from where the invariant holds leads to where it holds: a declined turn leaves its position, an accepted one goes from
-- phase to phase. With a short SRAM none is declined.
-- Assumes nothing.
use mathlib.Core.Path.{◌≡◌, ap, ◌∙◌}
use mathlib.Core.Bool.{true}
use mathlib.Core.List.{List, [], ◌∷◌}
use mathlib.Core.Logic.{◌⊎◌, inl, inr}
use Prim.Native.Nat.{ℕ, suc, ◌+◌, ◌≤◌, ◌<◌}
use native.Mathlib.Numerals.{add-one}
use native.Mathlib.Omega.{arith}
use lib.ListN.{length, get_or}
use Rattle.words.specs.Decline.{accepted_of}
use Rattle.device.specs.State.{State}
use Rattle.update.specs.Actions.{total_of}
use Rattle.update.specs.Turn.{next_action_of, action_decline_of, perform_of, turn_of}
use Rattle.update.specs.PowerFail.{Position, at, turned_of, turns_of}
use Rattle.update.proofs.TurnLaws.{turn_done, turn_cases, every_turn, turn_answers, total_answers}
use Rattle.update.proofs.PlacedLaws.{placed}
use Rattle.update.proofs.Blocks.{Fixed, Finished, Stands}
use Rattle.update.proofs.PhaseLaws.{Goes, action_at, phase_place, phase_goes, next_action}

module _ (u : Fixed) where
  open u use {g, image, b, old, listed, image_long}

  module _ (p : Position) (stands : Stands u p) where
    place_cases : (p.place < total_of g) ⊎ Finished u stands.device stands.new p.place
    place_cases = phase_place u stands.device stands.new p.place stands.phase

    pub stands_within : p.place ≤ total_of g
    stands_within = go place_cases
      where
        go : (p.place < total_of g) ⊎ Finished u stands.device stands.new p.place → p.place ≤ total_of g
        go (inl l) = omega arith
        go (inr c) = omega (arith, c.here)

    pub stands_action : p.place < total_of g → next_action_of g p.state image p.place ≡ action_at u p.place
    stands_action l =
        ap (λ (s : State). next_action_of g s image p.place) stands.state ∙ next_action u stands.device stands.new p.place stands.phase l

    module _ (sram : List ℕ) where
      pub goes : length sram ≤ 16384 → p.place < total_of g → Goes u stands.device stands.new p.place sram
      goes short l = phase_goes u stands.device stands.new p.place sram (rw stands.state at stands.sound) short l stands.phase

      -- where its action leads
      abbrev next : Position
      next = at (perform_of g p.state sram (next_action_of g p.state image p.place)).state (p.place + 1)

      performed : length sram ≤ 16384 → p.place < total_of g → Stands u next
      performed short l =
          record {
            device = go.device;
            new = go.bank;
            state = leaves;
            sound = rw leaves go.sound;
            quad = go.four stands.quad;
            phase = rw (add-one p.place) go.phase;
          }
        where
          go : Goes u stands.device stands.new p.place sram
          go = goes short l

          leaves : (perform_of g p.state sram (next_action_of g p.state image p.place)).state ≡ placed b go.device old go.bank
          leaves =
              ap (λ a. (perform_of g p.state sram a).state) (stands_action l)
              ∙ ap (λ (s : State). (perform_of g s sram (action_at u p.place)).state) stands.state
              ∙ go.leaves

      pub stands_turn : Stands u (turned_of g image p sram)
      stands_turn = before place_cases
        where
          before : (p.place < total_of g) ⊎ Finished u stands.device stands.new p.place → Stands u (turned_of g image p sram)
          before (inl l) = turn (turn_cases g p.state image sram p.place l)
            where
              turn : (turned_of g image p sram ≡ p) ⊎ ((length sram ≤ 16384) × (turned_of g image p sram ≡ next)) → Stands u (turned_of g image p sram)
              turn (inl e) = rw e stands
              turn (inr (short, e)) = rw e (performed short l)
          before (inr c) = rw (turn_done g p.state image sram p.place c.here) stands

      pub stands_answers : length sram ≤ 16384 → accepted_of (turn_of g p.state image sram p.place).decline ≡ true
      stands_answers short = before place_cases
        where
          before : (p.place < total_of g) ⊎ Finished u stands.device stands.new p.place
              → accepted_of (turn_of g p.state image sram p.place).decline ≡ true
          before (inl l) =
              turn_answers g p.state image sram p.place listed stands.sound image_long short l
              (ap (λ a. accepted_of (action_decline_of p.state.device a)) (stands_action l)
              ∙ ap (λ (s : State). accepted_of (action_decline_of s.device (action_at u p.place))) stands.state
              ∙ (goes short l).allowed)
          before (inr c) = total_answers g p.state image sram p.place listed stands.sound image_long short c.here

  pub stands_turns : (p : Position) → Stands u p → (srams : List (List ℕ)) → Stands u (turns_of g image p srams)
  stands_turns p stands [] = stands
  stands_turns p stands (sram ∷ srams) = stands_turns (turned_of g image p sram) (stands_turn p stands sram) srams

  -- each turn with a short SRAM raises the place, up to the total
  pub turns_raise : (p : Position) → Stands u p → (srams : List (List ℕ)) → ((i : ℕ) → length (get_or srams i []) ≤ 16384)
      → p.place + length srams ≤ total_of g → (turns_of g image p srams).place ≡ p.place + length srams
  turns_raise p stands [] short e = omega arith
  turns_raise p stands (sram ∷ srams) short e =
      let raised = (every_turn g p.state image sram p.place).raises (stands_answers p stands sram (short 0)) (omega arith) in
      let later = turns_raise (turned_of g image p sram) (stands_turn p stands sram) srams (λ i. short (suc i)) (omega arith) in
      omega (arith, later, raised)
