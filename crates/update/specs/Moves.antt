-- W-207 and demand 3: lists of turns with flash reads between them, also ended inside a read that waits. Assumes nothing.
use Rattle.std.specs.Prelude.{ℕ, ◌+◌, ◌≤◌, ◌<◌, ◌≡◌, Bool, true, false, not, ◌&&◌, ◌⊎◌, List, [], ◌∷◌, leb, length, replicate}
use Rattle.words.specs.Word.{pick}
use Rattle.words.specs.Decline.{number_of, accepted_of}
use Rattle.geometry.specs.declared.banks.Geometry.{Geometry}
use Rattle.geometry.specs.Lent.{most_sram}
use Rattle.map.specs.Windows.{locate_of}
use Rattle.device.specs.Record.{running}
use Rattle.device.specs.State.{State, bank_of}
use Rattle.reads.specs.Read.{second_at_of, same, remaining_of, read_answer_of, waits_of, steps_of, flash_read_of}
use Rattle.controller.specs.Controller.{run_of, Keeps}
use Rattle.controller.specs.Controller.Operation.{step}
use Rattle.update.specs.Actions.{total_of}
use Rattle.update.specs.Turn.{turn_of}
use Rattle.update.specs.PowerFail.{Position, at, turned_of, turns_of, after_turns, place_after, Cut, restarted, Restarts}
use Rattle.update.specs.PowerFail.{old, Runs, new_bank_of, SameBanks, OldKept, Update, Claims}
use Rattle.update.specs.Start.{start_of}

-- a turn with its SRAM; a flash read of an address, with its SRAM
pub data Move : Type 0 where
  turn : List ℕ → Move
  read : List ℕ → ℕ → Move

-- a move, declined or not; a read keeps the place
abbrev pub moved_of : Geometry → List ℕ → Position → Move → Position
moved_of g image p (turn sram) = turned_of g image p sram
moved_of g image p (read sram address) = at (flash_read_of g p.state sram address).after.state p.place

abbrev pub moves_of : Geometry → List ℕ → Position → List Move → Position
moves_of g image p [] = p
moves_of g image p (m ∷ rest) = moves_of g image (moved_of g image p m) rest

-- some read of a list waits, in the state that it gets
abbrev pub move_waits : Geometry → Position → Move → Bool
move_waits g p (turn sram) = false
move_waits g p (read sram address) = waits_of g p.state sram address

abbrev pub waits_in : Geometry → List ℕ → Position → List Move → Bool
waits_in g image p [] = false
waits_in g image p (m ∷ rest) = pick (move_waits g p m) true (waits_in g image (moved_of g image p m) rest)

-- the turns alone
abbrev pub turns_among : List Move → List (List ℕ)
turns_among [] = []
turns_among (turn sram ∷ rest) = sram ∷ turns_among rest
turns_among (read sram address ∷ rest) = turns_among rest

abbrev pub turn_moves : List (List ℕ) → List Move
turn_moves [] = []
turn_moves (sram ∷ rest) = turn sram ∷ turn_moves rest

-- "each step inside one is a place where the supply may fail": a list ends whole, or after n steps of a read that waits
pub data End : Type 0 where
  whole : End
  inside : List ℕ → ℕ → ℕ → End

abbrev pub end_state_of : Geometry → State → End → State
end_state_of g s whole = s
end_state_of g s (inside sram address n) = pick (waits_of g s sram address) (steps_of g sram n s).state s

abbrev pub after_moves : Geometry → State → List ℕ → List Move → End → State
after_moves g s image moves end = end_state_of g (moves_of g image (at s 0) moves).state end

-- some list of turns leaves t, at this place or a later one
pub record ByTurns (g : Geometry) (s : State) (image : List ℕ) (t : State) (least : ℕ) : Type 0 where
  pub srams : List (List ℕ)
  pub same : after_turns g s image srams ≡ t
  pub later : least ≤ place_after g s image srams

-- after a read that waited: every later turn is declined and keeps its place, below the total, whatever other moves come
pub record Declined (g : Geometry) (image : List ℕ) (p : Position) : Type 0 where
  pub below : p.place < total_of g
  -- "a turn whose step a read has done is declined as 6 and keeps its place"; as 2 where its SRAM is too long
  pub turns : (sram : List ℕ) → number_of (turn_of g p.state image sram p.place).decline ≡ pick (leb (length sram) most_sram) 6 2
  pub stays : (moves : List Move) → moves_of g image p moves ≡ p

-- the same start, from t and without a reset: an update again, of the same old bank, which ends as the first one would have
pub record StartsAgain (g : Geometry) (s : State) (image : List ℕ) (t : State) : Type 0 where
  pub update : Update g t image
  pub same_old : (old t ≡ old s) × OldKept s t
  pub same_end : (A C : List (List ℕ)) → place_after g s image A ≡ total_of g → place_after g t image C ≡ total_of g
      → SameBanks (after_turns g s image A) (after_turns g t image C)

-- the new bank of an update from s is whole in t, and runs after every reset and completed start-up
pub record NewWhole (g : Geometry) (s : State) (image : List ℕ) (t : State) : Type 0 where
  pub left : bank_of t (not (old s)) ≡ new_bank_of g s image
  pub runs : (c : Cut) → Restarts g t c → Runs (restarted g t c) (not (old s)) (new_bank_of g s image)

pub record MovesFail (g : Geometry) (image : List ℕ) : Type 0 where
  -- every list of moves leaves the device and the banks that some list of turns leaves, also one ended inside a read: those of the list's
  -- place or a later one
  pub left : (s : State) → Update g s image → (B : List Move) (end : End)
      → ByTurns g s image (after_moves g s image B end) (moves_of g image (at s 0) B).place
  -- "Demand 3's run B may now hold such reads between its turns"; "Run A holds none"
  pub claims : (s : State) → Update g s image → (A : List (List ℕ)) (B : List Move) (end : End) → place_after g s image A ≡ total_of g
      → Claims g s image (after_turns g s image A) (after_moves g s image B end)
  -- a list that reaches the total leaves what its turns alone leave, place too
  pub total : (s : State) → Update g s image → (B : List Move) → (moves_of g image (at s 0) B).place ≡ total_of g
      → moves_of g image (at s 0) B ≡ turns_of g image (at s 0) (turns_among B)
  -- a list in which no read waits is the list of its turns; with one that does it goes no further
  pub unwaited : (p : Position) (B : List Move) → waits_in g image p B ≡ false → moves_of g image p B ≡ turns_of g image p (turns_among B)
  pub stuck : (s : State) → Update g s image → (B : List Move) → waits_in g image (at s 0) B ≡ true → Declined g image (moves_of g image (at s 0) B)
  -- after a read that waits the update goes no further
  pub waited : (s : State) → Update g s image → (B : List Move) (sram : List ℕ) (address : ℕ) → let p = moves_of g image (at s 0) B in
      waits_of g p.state sram address ≡ true → Declined g image (moved_of g image p (read sram address))
  -- which reads those are: while an operation of the update runs, the accepted ones of the new bank
  pub which : (s : State) → Update g s image → (B : List Move) (sram : List ℕ) (address : ℕ) → let t = (moves_of g image (at s 0) B).state in
      waits_of g t sram address
      ≡ (accepted_of (read_answer_of g t sram address) && (running t.device && same (second_at_of t.device (locate_of g address)) (not (old s))))
  -- and how a user leaves that: without a reset the same start is accepted, or declined 10 exactly where the new bank is already whole
  pub start_again : (s : State) → Update g s image → (B : List Move) (sram : List ℕ) (address : ℕ) → let p = moves_of g image (at s 0) B in
      waits_of g p.state sram address ≡ true
      → let t = (moved_of g image p (read sram address)).state in
      (StartsAgain g s image t × (bank_of t (not (old s)) ≡ new_bank_of g s image → ⊥))
      ⊎ ((number_of (start_of g t image).decline ≡ 10) × NewWhole g s image t)
  -- "each step inside one is a place where the supply may fail": after n steps of a read the state is what n single steps leave, and after
  -- as many as remain it is what the read leaves
  pub inside_steps : (s : State) (sram : List ℕ) (address n : ℕ) → waits_of g s sram address ≡ true
      → end_state_of g s (inside sram address n) ≡ run_of g s (replicate n (step sram))
  pub inside_all : (s : State) (sram : List ℕ) (address : ℕ) → waits_of g s sram address ≡ true
      → end_state_of g s (inside sram address (remaining_of g s.device)) ≡ (flash_read_of g s sram address).after.state
  -- those of the place n further on, while no more are done than remain
  pub inside_turns : (s : State) → Update g s image → (B : List Move) (sram : List ℕ) (address n : ℕ) → let p = moves_of g image (at s 0) B in
      waits_of g p.state sram address ≡ true → n ≤ remaining_of g p.state.device
      → turns_of g image p (replicate n sram) ≡ at (end_state_of g p.state (inside sram address n)) (p.place + n)
  -- turns with no read between them are the turns of the old statement
  pub turns_alone : (p : Position) (srams : List (List ℕ)) → moves_of g image p (turn_moves srams) ≡ turns_of g image p srams
  -- neither a move nor a part of a read changes a page that is protected at that time, nor the length of a bank
  pub move_keeps : (p : Position) (m : Move) → Keeps g p.state (moved_of g image p m).state
  pub end_keeps : (s : State) (end : End) → Keeps g s (end_state_of g s end)
