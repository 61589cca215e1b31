-- W-214: two updates from the same accepted start, whose images differ in one word, with the same moves, cuts and tears. Assumes nothing.
use Rattle.std.specs.Prelude.{ℕ, ◌+◌, ◌/◌, ◌≤◌, ◌<◌, ◌≡◌, true, false, not, List, length}
use Rattle.words.specs.Quad.{word_at}
use Rattle.words.specs.Decline.{accepted_of}
use Rattle.geometry.specs.declared.banks.Geometry.{Geometry}
use Rattle.sequence.specs.Sequence.{sequence_quad_of}
use Rattle.device.specs.Record.{bfswap, pfswap}
use Rattle.start_up.specs.StartUp.{start_up_of}
use Rattle.reads.specs.Read.{waits_of, flash_read_of}
use Rattle.resets.specs.Reset.{power_on_reset, reset_reason_of}
use Rattle.device.specs.State.{State, bank_of}
use Rattle.update.specs.Actions.{total_of, quad_actions}
use Rattle.update.specs.Start.{start_of}
use Rattle.update.specs.Turn.{turn_of}
use Rattle.update.specs.PowerFail.{at, Cut, reset_by, restarted, old, Words, Update}
use Rattle.update.specs.Moves.{Move, End, moves_of, waits_in, after_moves}
use Rattle.reach.specs.Reach.{data_place_of}
use Rattle.reach.specs.Differing.{OneWord}
use Rattle.reach_update.specs.Near.{NearState}

-- after the same cut of a and of b
pub record SameCut (g : Geometry) (s : State) (i : ℕ) (a b : State) (c : Cut) : Type 0 where
  -- the reset gives the same answer and the same reason, and "the banks differ in at most that one word"
  pub decline : (reset_by g a c).decline ≡ (reset_by g b c).decline
  pub reason : reset_reason_of g a c.sram c.kind c.mask ≡ reset_reason_of g b c.sram c.kind c.mask
  pub near : NearState (old s) i (reset_by g a c).state (reset_by g b c).state
  -- a power-on leaves no difference in the device, another kind leaves NVMDATA of both as it was
  pub power_on_lem : accepted_of (reset_by g a c).decline ≡ true → c.kind ≡ power_on_reset → (reset_by g a c).state.device ≡ (reset_by g b c).state.device
  pub kept : accepted_of (reset_by g a c).decline ≡ true → (c.kind ≡ power_on_reset → ⊥)
      → ((reset_by g a c).state.device.nvmdata ≡ a.device.nvmdata) × ((reset_by g b c).state.device.nvmdata ≡ b.device.nvmdata)
  -- and so after the start-up that follows; the same bank runs
  pub start_up : (start_up_of g (reset_by g a c).state.device).decline ≡ (start_up_of g (reset_by g b c).state.device).decline
  pub near_started : NearState (old s) i (restarted g a c) (restarted g b c)
  pub same_runs : (bfswap (restarted g a c).device ≡ bfswap (restarted g b c).device) × (pfswap (restarted g a c).device ≡ pfswap (restarted g b c).device)

-- a list of moves for each image, in which no read waits, and both are at one place
pub record AtOnePlace (g : Geometry) (s : State) (image other : List ℕ) (B C : List Move) : Type 0 where
  pub first : waits_in g image (at s 0) B ≡ false
  pub second : waits_in g other (at s 0) C ≡ false
  pub place : (moves_of g image (at s 0) B).place ≡ (moves_of g other (at s 0) C).place

-- "Outside the sequence quad": the differing action is at the place of the word's store
pub record Outside (g : Geometry) (s : State) (image other : List ℕ) (i : ℕ) : Type 0 where
  -- "At every place of the two updates, begun from the same accepted start": two lists in which no read waits, each with the turns and SRAMs
  -- that it had, which are at one place; "the banks differ in at most that one word", "and after any equal cut and tear"
  pub every_place : (B C : List Move) → AtOnePlace g s image other B C
      → NearState (old s) i (moves_of g image (at s 0) B).state (moves_of g other (at s 0) C).state
  pub every_cut : (B C : List Move) → AtOnePlace g s image other B C → (c : Cut)
      → SameCut g s i (moves_of g image (at s 0) B).state (moves_of g other (at s 0) C).state c
  -- of lists in which reads wait, with the same moves for both: these are at the same place
  pub place : (B : List Move) → (moves_of g image (at s 0) B).place ≡ (moves_of g other (at s 0) B).place
  -- "the banks differ in at most that one word", of the new bank, and the devices in one register of NVMDATA and what was launched of it
  pub near : (B : List Move) (end : End) → NearState (old s) i (after_moves g s image B end) (after_moves g s other B end)
  -- up to the differing store nothing differs; the devices are the same again from the next store to that register on, a quad's actions later
  pub before : (B : List Move) (end : End) → (moves_of g image (at s 0) B).place ≤ data_place_of g i → after_moves g s image B end ≡ after_moves g s other B end
  pub later : (B : List Move) (end : End) → data_place_of g i + quad_actions < (moves_of g image (at s 0) B).place
      → (after_moves g s image B end).device ≡ (after_moves g s other B end).device
  -- at the total exactly that word differs: each new bank has its image's
  pub total : (B : List Move) → (moves_of g image (at s 0) B).place ≡ total_of g → let p = moves_of g image (at s 0) B in let q = moves_of g other (at s 0) B in
      (word_at (bank_of p.state (not (old s))) i ≡ word_at image i) × (word_at (bank_of q.state (not (old s))) i ≡ word_at other i)
  -- a read there gets the same answer, and waits in both or in neither
  pub reads : (B : List Move) (end : End) (sram : List ℕ) (address : ℕ) → let a = after_moves g s image B end in let b = after_moves g s other B end in
      ((flash_read_of g a sram address).after.decline ≡ (flash_read_of g b sram address).after.decline)
      × (waits_of g a sram address ≡ waits_of g b sram address)
  -- "and after any equal cut and tear"
  pub cut : (B : List Move) (end : End) (c : Cut) → SameCut g s i (after_moves g s image B end) (after_moves g s other B end) c

-- of two images that differ in word i alone
pub record SameRuns (g : Geometry) (image other : List ℕ) (i : ℕ) : Type 0 where
  -- "begun from the same accepted start": both images get the same answer from start, in every state, and are updates together
  pub start : (s : State) → start_of g s image ≡ start_of g s other
  pub update : (s : State) → Update g s image → Update g s other
  pub outside : (i / 4 ≡ sequence_quad_of g → ⊥) → (s : State) → Update g s image → Outside g s image other i
  -- "Inside the sequence quad nothing differs.": every turn, in every state, and so after the same moves place, device and banks
  pub inside_turn : i / 4 ≡ sequence_quad_of g → (s : State) (sram : List ℕ) (place : ℕ) → turn_of g s image sram place ≡ turn_of g s other sram place
  pub inside_place : i / 4 ≡ sequence_quad_of g → (s : State) → Update g s image → (B C : List Move) → AtOnePlace g s image other B C
      → moves_of g image (at s 0) B ≡ moves_of g other (at s 0) C
  pub inside : i / 4 ≡ sequence_quad_of g → (s : State) (B : List Move) (end : End)
      → (moves_of g image (at s 0) B ≡ moves_of g other (at s 0) B) × (after_moves g s image B end ≡ after_moves g s other B end)

-- for every geometry and every two images of one length, of words of 32 bits, that differ in exactly one word
pub record OneWordReaches : Type 0 where
  pub runs : (g : Geometry) (image other : List ℕ) (i : ℕ) → length image ≡ length other → Words other → OneWord image other i → SameRuns g image other i
