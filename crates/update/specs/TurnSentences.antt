-- A turn, sentence by sentence, and that the sentences fix it: its action is the list's. Assumes nothing.
use Rattle.std.specs.Prelude.{ℕ, ◌+◌, ◌≤◌, ◌<◌, ◌≡◌, true, false, List, [], ◌∷◌, ◌⊎◌, length, get_or}
use Rattle.words.specs.Word.{bit}
use Rattle.words.specs.Decline.{number_of}
use Rattle.geometry.specs.declared.banks.Geometry.{Geometry}
use Rattle.device.specs.Record.{register_of}
use Rattle.device.specs.State.{State, state}
use Rattle.common_declines.specs.CommonDecline.{Usable, CommonDeclines}
use Rattle.register_access.specs.Store.{store_of}
use Rattle.flash.specs.Step.{step_of}
use Rattle.update.specs.declared.actions.Action.{Action}
use Rattle.update.specs.declared.actions.Action.TheVariants.{Store, Step}
use Rattle.update.specs.Actions.{actions_of}
use Rattle.update.specs.Turn.{Turning, turn_of}
use Rattle.update.specs.StartSentences.{list_total, lower_in}

-- "the action of its listed place", with t "read at each turn" from the lower-alias bank's sequence word
abbrev pub listed_action : Geometry → State → List ℕ → ℕ → Action
listed_action g s image place = get_or (actions_of g image (lower_in g s)) place Step

-- a store that decline 5 lets pass
abbrev pub Passes : State → ℕ → Type 0
Passes s r = (bit 15 (register_of s.device 0) ≡ false) ⊎ ((2 ≤ r) × (r ≤ 7))

-- the action of the place was done
pub record Done (t : State) (place : ℕ) (a : Turning) : Type 0 where
  pub accepted : number_of a.decline ≡ 0
  pub more : a.done ≡ false
  pub left : a.state ≡ t
  pub raised : a.place ≡ place + 1

pub record TurnSentences (g : Geometry) (s : State) (image sram : List ℕ) (place : ℕ) (a : Turning) : Type 0 where
  pub declines : CommonDeclines g s.device (length s.one ∷ length s.two ∷ length image ∷ []) (length sram) (number_of a.decline)
  -- "13. A turn whose place exceeds the total."
  pub beyond : Usable g s.device (length s.one ∷ length s.two ∷ length image ∷ []) (length sram) → list_total g < place → number_of a.decline ≡ 13
  -- "At the total, and only there, it says done and changes nothing."
  pub done : Usable g s.device (length s.one ∷ length s.two ∷ length image ∷ []) (length sram) → place ≡ list_total g
      → (number_of a.decline ≡ 0) × ((a.done ≡ true) × ((a.state ≡ s) × ((a.place ≡ place) × (a.event ≡ false))))
  -- "a turn whose action is declined (5 or 6) gives that number and keeps its place"
  pub no_store : Usable g s.device (length s.one ∷ length s.two ∷ length image ∷ []) (length sram) → place < list_total g
      → (r form value : ℕ) → listed_action g s image place ≡ Store r form value → (Passes s r → ⊥) → number_of a.decline ≡ 5
  pub no_step : Usable g s.device (length s.one ∷ length s.two ∷ length image ∷ []) (length sram) → place < list_total g
      → listed_action g s image place ≡ Step → bit 15 (register_of s.device 0) ≡ false → number_of a.decline ≡ 6
  pub declined : (number_of a.decline ≡ 0 → ⊥) → (a.done ≡ false) × ((a.state ≡ s) × ((a.place ≡ place) × (a.event ≡ false)))
  -- "Each turn does one action and raises the place by 1"
  pub stores : Usable g s.device (length s.one ∷ length s.two ∷ length image ∷ []) (length sram) → place < list_total g
      → (r form value : ℕ) → listed_action g s image place ≡ Store r form value → Passes s r
      → let b = store_of g s.device r form value in Done (state b.device s.one s.two) place a × (a.event ≡ b.event)
  pub steps : Usable g s.device (length s.one ∷ length s.two ∷ length image ∷ []) (length sram) → place < list_total g
      → listed_action g s image place ≡ Step → bit 15 (register_of s.device 0) ≡ true
      → Done (step_of g s sram).state place a × (a.event ≡ (step_of g s sram).event)

pub record TurnsFixed : Type 0 where
  pub meets : (g : Geometry) (s : State) (image sram : List ℕ) (place : ℕ) → TurnSentences g s image sram place (turn_of g s image sram place)
  pub fixes : (g : Geometry) (s : State) (image sram : List ℕ) (place : ℕ) (a : Turning) → TurnSentences g s image sram place a
      → a ≡ turn_of g s image sram place
