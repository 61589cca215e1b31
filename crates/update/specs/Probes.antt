-- W-203: an update with a probe beside it. Assumes nothing.
use Rattle.std.specs.Prelude.{ℕ, ◌≤◌, ◌<◌, ◌≡◌, Bool, true, false, not, ◌&&◌, List, [], ◌∷◌, eqb, length, get_or}
use Rattle.words.specs.Decline.{accepted_of}
use Rattle.geometry.specs.declared.banks.Geometry.{Geometry}
use Rattle.geometry.specs.Lent.{most_sram}
use Rattle.device.specs.State.{State}
use Rattle.device.specs.Numbers.{NVMKEY, NVMCON2, key1}
use Rattle.controller.specs.Controller.{answer_of, transition_of}
use Rattle.controller.specs.Controller.Operation.{register_read}
use Rattle.update.specs.declared.actions.Action.{Action}
use Rattle.update.specs.declared.actions.Action.TheVariants.{Store, Step}
use Rattle.update.specs.Actions.{total_of}
use Rattle.update.specs.Turn.{next_action_of, turn_of}
use Rattle.update.specs.PowerFail.{Position, at, turned_of, turns_of, Cut, Restarts, restarted, old, Lower, SameBanks, Update, Claims}

-- a turn by its SRAM, or the probe's read of a register
pub data Beside : Type 0 where
  turn : List ℕ → Beside
  read : ℕ → Beside

-- a register read leaves the place
abbrev pub read_of : Geometry → Position → ℕ → Position
read_of g p r = at (transition_of g p.state (register_read r)) p.place

-- where turns with reads between them stand
abbrev pub beside_of : Geometry → List ℕ → Position → List Beside → Position
beside_of g image p [] = p
beside_of g image p (turn sram ∷ rest) = beside_of g image (turned_of g image p sram) rest
beside_of g image p (read r ∷ rest) = beside_of g image (read_of g p r) rest

-- the turns alone
abbrev pub turns_alone_of : List Beside → List (List ℕ)
turns_alone_of [] = []
turns_alone_of (turn sram ∷ rest) = sram ∷ turns_alone_of rest
turns_alone_of (read r ∷ rest) = turns_alone_of rest

-- each read is met at key step 0 or 1
abbrev pub Polled : Geometry → List ℕ → Position → List Beside → Type 0
Polled g image p [] = Unit {0}
Polled g image p (turn sram ∷ rest) = Polled g image (turned_of g image p sram) rest
Polled g image p (read r ∷ rest) = (p.state.device.keystep ≤ 1) × Polled g image (read_of g p r) rest

-- the second and the third key store, after which the key step is 2 and 3
abbrev pub later_key_of : Action → Bool
later_key_of (Store r form value) = eqb r NVMKEY && not (eqb value key1)
later_key_of Step = false

-- such a list from an update's start, and what it leaves
pub record ProbedRun (g : Geometry) (s : State) (image : List ℕ) : Type 0 where
  pub moves : List Beside
  pub polled : Polled g image (at s 0) moves

abbrev pub after_run : (g : Geometry) (s : State) (image : List ℕ) → ProbedRun g s image → Position
after_run g s image run = beside_of g image (at s 0) run.moves

-- "updates tried beside it never launch": now they stand where the turns alone stand, so demand 3 holds of such lists
pub record Probed (g : Geometry) (image : List ℕ) : Type 0 where
  pub stands : (p : Position) (l : List Beside) → Polled g image p l → beside_of g image p l ≡ turns_of g image p (turns_alone_of l)
  -- when a read is met at key step 0 or 1: after a turn that did any action of the list but the second or third key store
  pub met_low : (p : Position) (sram : List ℕ) → accepted_of (turn_of g p.state image sram p.place).decline ≡ true → p.place < total_of g
      → later_key_of (next_action_of g p.state image p.place) ≡ false → (turned_of g image p sram).state.device.keystep ≤ 1
  -- a read of a register that there is is not declined
  pub read_answers : (s : State) → Update g s image → (B : ProbedRun g s image) (r : ℕ) → r ≤ NVMCON2
      → accepted_of (answer_of g (after_run g s image B).state (register_read r)) ≡ true
  -- PowerFail's fields about lists of turns, of lists with such reads
  pub claims : (s : State) → Update g s image → (A B : ProbedRun g s image) → (after_run g s image A).place ≡ total_of g
      → Claims g s image (after_run g s image A).state (after_run g s image B).state
  pub again : (s : State) → Update g s image → (A B : ProbedRun g s image) → (after_run g s image A).place ≡ total_of g
      → (c : Cut) → Restarts g (after_run g s image B).state c → let t = restarted g (after_run g s image B).state c in
      Lower t (old s) → (C : ProbedRun g t image) → (after_run g t image C).place ≡ total_of g
      → SameBanks (after_run g s image A).state (after_run g t image C).state
  pub answers : (s : State) → Update g s image → (B : ProbedRun g s image) (sram : List ℕ) → length sram ≤ most_sram
      → let p = after_run g s image B in accepted_of (turn_of g p.state image sram p.place).decline ≡ true
  pub within : (s : State) → Update g s image → (B : ProbedRun g s image) → (after_run g s image B).place ≤ total_of g
  pub reaches : (s : State) → Update g s image → (B : ProbedRun g s image) → ((i : ℕ) → length (get_or (turns_alone_of B.moves) i []) ≤ most_sram)
      → length (turns_alone_of B.moves) ≡ total_of g → (after_run g s image B).place ≡ total_of g
