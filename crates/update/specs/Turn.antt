-- A turn: why it is declined, and what it does. Assumes nothing.
use Rattle.std.specs.Prelude.{ℕ, ◌+◌, ◌<◌, ◌≡◌, Bool, true, false, ◌&&◌, List, [], ◌∷◌, eqb, ltb, length, Ok, Err}
use Rattle.words.specs.Word.{pick}
use Rattle.geometry.specs.declared.banks.Geometry.{Geometry}
use Rattle.words.specs.declared.decline.Decline.{Decline}
use Rattle.words.specs.Decline.{Verdict, accepted_of, first_of}
use Rattle.device.specs.declared.record.Device.{Device}
use Rattle.device.specs.Record.{running}
use Rattle.common_declines.specs.CommonDecline.{common_decline_of}
use Rattle.register_access.specs.Store.{has_form_of, may_store_of, store_of}
use Rattle.flash.specs.Step.{step_of}
use Rattle.device.specs.State.{State, After, answered_of, state}
use Rattle.flash.specs.Write.{written_of}
use Rattle.update.specs.Answers.{Turned, TurnEffect}
use Rattle.update.specs.declared.actions.Action.{Action}
use Rattle.update.specs.declared.actions.Action.TheVariants.{Store, Step}
use Rattle.update.specs.Actions.{action_at_of, total_of}
use Rattle.update.specs.Start.{lower_word_of}

-- "Let t be the low half of the lower-alias bank's sequence word, read at each turn": the action of a place
abbrev pub next_action_of : Geometry → State → List ℕ → ℕ → Action
next_action_of g s image place = action_at_of g image (lower_word_of g s) place

-- "a turn whose action is declined (5 or 6)"
abbrev pub action_decline_of : Device → Action → Verdict
action_decline_of d (Store r form value) = pick (may_store_of d r) (Ok tt) (Err Decline.Running)
action_decline_of d Step = pick (running d) (Ok tt) (Err Decline.Idle)

-- declines 1, 2, 3, 5 or 6, and 13: "A turn whose place exceeds the total."
unfoldable pub turn_decline_of : Geometry → State → List ℕ → ℕ → ℕ → Verdict
turn_decline_of g s image sram place =
    first_of (common_decline_of g s.device (length s.one ∷ length s.two ∷ length image ∷ []) sram)
    (pick (ltb place (total_of g)) (action_decline_of s.device (next_action_of g s image place))
    (pick (eqb place (total_of g)) (Ok tt) (Err Decline.Place)))

-- everything after a turn
pub record Turning : Type 0 where
  pub decline : Verdict
  pub done : Bool
  pub state : State
  pub place : ℕ
  pub event : Bool

abbrev pub turning : Verdict → Bool → State → ℕ → Bool → Turning
turning decline done s place event = record { decline = decline; done = done; state = s; place = place; event = event }

-- everything after an action that is carried out
abbrev pub perform_of : Geometry → State → List ℕ → Action → After
perform_of g s sram (Store r form value) = answered_of s (store_of g s.device r form value)
perform_of g s sram Step = step_of g s sram

-- "Each turn does one action and raises the place by 1"
abbrev pub performed : ℕ → After → Turning
performed place a = turning a.decline false a.state (place + 1) a.event

-- a store of a register that has its form, as every store of the list is (`actions_formed` of proofs/FormLaws)
abbrev pub Formed : Action → Type 0
Formed (Store r form value) = has_form_of r form ≡ true
Formed Step = Unit {0}

-- "a turn whose action is declined (5 or 6) gives that number and keeps its place"; it gives no event (ours)
unfoldable pub act_of : Geometry → State → List ℕ → ℕ → Action → Turning
act_of g s sram place a =
    pick (accepted_of (action_decline_of s.device a)) (performed place (perform_of g s sram a)) (turning (action_decline_of s.device a) false s place false)

-- "At the total, and only there, it says done and changes nothing." Done or declined it gives no event, and declined by another
-- number than 5 or 6 it keeps its place, too (ours)
unfoldable pub turn_of : Geometry → State → List ℕ → List ℕ → ℕ → Turning
turn_of g s image sram place =
    pick (accepted_of (turn_decline_of g s image (length sram) place))
    (pick (eqb place (total_of g)) (turning (Ok tt) true s place false)
    (performed place (perform_of g s sram (next_action_of g s image place))))
    (turning (turn_decline_of g s image (length sram) place) false s place false)

-- everything after the turn that has this effect, once it is written
abbrev pub effected_of : State → TurnEffect → Turning
effected_of s e = let t = e.turned in turning t.decline t.done (written_of s t.device e.write) t.place t.event

-- in contracts: an answer with the banks as they are then
abbrev pub turn_leaves : Turned → List ℕ → List ℕ → Turning
turn_leaves t one two = turning t.decline t.done (state t.device one two) t.place t.event

-- what holds of every turn, whatever it is given
pub record EveryTurn (g : Geometry) (s : State) (image sram : List ℕ) (place : ℕ) : Type 0 where
  -- its answer is the decline above, no other
  pub answer : (turn_of g s image sram place).decline ≡ turn_decline_of g s image (length sram) place
  -- declined it "keeps its place", the device and both banks
  pub declined : accepted_of (turn_of g s image sram place).decline ≡ false
      → ((turn_of g s image sram place).state ≡ s) × ((turn_of g s image sram place).place ≡ place)
  -- "At the total, and only there, it says done and changes nothing."
  pub done : (turn_of g s image sram place).done ≡ (accepted_of (turn_of g s image sram place).decline && eqb place (total_of g))
  pub unchanged : place ≡ total_of g → ((turn_of g s image sram place).state ≡ s) × ((turn_of g s image sram place).place ≡ place)
  -- "Each turn does one action": that of its place, with t read from the banks as the turn gets them
  pub performs : accepted_of (turn_of g s image sram place).decline ≡ true → place < total_of g
      → turn_of g s image sram place ≡ performed place (perform_of g s sram (action_at_of g image (lower_word_of g s) place))
  -- "and raises the place by 1"
  pub raises : accepted_of (turn_of g s image sram place).decline ≡ true → place < total_of g → (turn_of g s image sram place).place ≡ place + 1
