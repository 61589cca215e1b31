-- W-212: a supply that fails again and again. One claim about whole lists of tries of one update with one image. Assumes nothing.
use Rattle.std.specs.Prelude.{ℕ, ◌+◌, ◌≤◌, ◌<◌, ◌≡◌, Bool, true, false, not, List, [], ◌∷◌, ◌++◌, ◌⊎◌, length, take}
use Rattle.words.specs.Word.{pick}
use Rattle.words.specs.Quad.{word_at}
use Rattle.words.specs.Decline.{accepted_of}
use Rattle.geometry.specs.declared.banks.Geometry.{Geometry}
use Rattle.geometry.specs.Lent.{most_sram}
use Rattle.device.specs.declared.record.Device.{Device}
use Rattle.start_up.specs.StartUp.{stores_of, start_up_stores, start_up_decline_of, start_up_of}
use Rattle.resets.specs.Reset.{other_reset}
use Rattle.device.specs.State.{State, state, bank_of}
use Rattle.controller.specs.Controller.{run_of, store_operations, AllAccepted, Keeps}
use Rattle.update.specs.Actions.{total_of}
use Rattle.update.specs.PowerFail.{Position, at, after_turns, place_after, Cut, reset_by, started_up, old, Lower, Runs, new_bank_of, SameBanks, OldKept, Update}
use Rattle.update.specs.Moves.{Move, moved_of, waits_in, End, end_state_of, moves_of, after_moves}
use Rattle.update.specs.Moves.End.{whole}

-- "followed by any number of resets and cut start-ups": a reset, or the first n stores of a start-up and then no more
pub data Interruption : Type 0 where
  reset : Cut → Interruption
  begun_start_up : ℕ → Interruption

-- the stores of a start-up that is cut; a declined one does none
abbrev pub cut_stores_of : Geometry → Device → ℕ → Device
cut_stores_of g d n = pick (accepted_of (start_up_decline_of g d)) (stores_of g d (take n (start_up_stores d))) d

abbrev pub interrupted_of : Geometry → State → Interruption → State
interrupted_of g s (reset c) = (reset_by g s c).state
interrupted_of g s (begun_start_up n) = state (cut_stores_of g s.device n) s.one s.two

abbrev pub interruptions_of : Geometry → State → List Interruption → State
interruptions_of g s [] = s
interruptions_of g s (i ∷ rest) = interruptions_of g (interrupted_of g s i) rest

-- "each a list of turns and W-207's reads as in run B, cut anywhere, torn with any bits, followed by .."
pub record Try : Type 0 where
  pub moves : List Move
  pub end : End
  pub cut : Cut
  pub later : List Interruption

-- where the supply fails in a try from s, at place 0; what its cut leaves; and the sign when the supply stays again
abbrev pub fails_at : Geometry → List ℕ → State → Try → State
fails_at g image s t = after_moves g s image t.moves t.end

abbrev pub tried_of : Geometry → List ℕ → State → Try → State
tried_of g image s t = interruptions_of g (reset_by g (fails_at g image s t) t.cut).state t.later

-- "each later one begun after a completed start-up"
abbrev pub tries_of : Geometry → List ℕ → State → List Try → State
tries_of g image s [] = s
tries_of g image s (t ∷ rest) = tries_of g image (started_up g (tried_of g image s t)) rest

-- a list of tries whose cuts are not declined, each begun while the sign runs the bank that was old at the very first start: "tries stop
-- once it runs the new"
abbrev pub Tried : Geometry → List ℕ → Bool → State → List Try → Type 0
Tried g image first s [] = Unit {0}
Tried g image first s (t ∷ rest) =
    Lower s first
    × (accepted_of (reset_by g (fails_at g image s t) t.cut).decline ≡ true)
    × Tried g image first (started_up g (tried_of g image s t)) rest

-- of an update from s and what a list of tries left, u
pub record AfterTries (g : Geometry) (s : State) (image : List ℕ) (u : State) : Type 0 where
  -- "after a completed start-up the sign runs the whole old bank or exactly the new": as they were and would be at the very first start
  pub old_or_new : Runs u (old s) (bank_of s (old s)) ⊎ Runs u (not (old s)) (new_bank_of g s image)
  pub old_kept : OldKept s u
  -- "While it runs the old, the next start is accepted": it is an update
  pub next : Lower u (old s) → Update g u image
  -- where it runs the new, both banks are those of one uncut update from the very first start
  pub as_uncut : Lower u (not (old s)) → (A : List (List ℕ)) → place_after g s image A ≡ total_of g → SameBanks (after_turns g s image A) u

-- a cut before the last step, or in it with a mask that leaves the sequence word its old bits
abbrev pub EarlyCut : Geometry → ℕ → Cut → Type 0
EarlyCut g place c = (place + 2 < total_of g) ⊎ ((place + 1 < total_of g) × (word_at c.mask 0 ≡ 0))

-- of a try t from u, while the sign runs the bank that was old at the very first start s
pub record EachTry (g : Geometry) (s : State) (image : List ℕ) (u : State) (t : Try) : Type 0 where
  -- where the supply fails the old bank is whole; with at most 16,384 words of SRAM no cut there is declined
  pub fails_kept : OldKept s (fails_at g image u t)
  pub cuts : (c : Cut) → length c.sram ≤ most_sram → c.kind ≤ other_reset → accepted_of (reset_by g (fails_at g image u t) c).decline ≡ true
  -- nor, once its own cut was accepted, is a further reset, nor the start-up, nor a store of one that is cut
  pub tried_kept : accepted_of (reset_by g (fails_at g image u t) t.cut).decline ≡ true → OldKept s (tried_of g image u t)
  pub resets : accepted_of (reset_by g (fails_at g image u t) t.cut).decline ≡ true
      → (c : Cut) → length c.sram ≤ most_sram → c.kind ≤ other_reset → accepted_of (reset_by g (tried_of g image u t) c).decline ≡ true
  pub start_up : accepted_of (reset_by g (fails_at g image u t) t.cut).decline ≡ true
      → accepted_of (start_up_of g (tried_of g image u t).device).decline ≡ true
  pub stores : accepted_of (reset_by g (fails_at g image u t) t.cut).decline ≡ true
      → (n : ℕ) → AllAccepted g (tried_of g image u t) (store_operations (take n (start_up_stores (tried_of g image u t).device)))
  -- a try of turns and reads that do not wait, whose cut is early, leaves the sign running the old
  pub early : waits_in g image (at u 0) t.moves ≡ false → t.end ≡ whole → EarlyCut g (moves_of g image (at u 0) t.moves).place t.cut
      → accepted_of (reset_by g (fails_at g image u t) t.cut).decline ≡ true → Lower (started_up g (tried_of g image u t)) (old s)
  -- "The first try that reaches the total uncut ends, after a reset and a completed start-up, with the new."
  pub reaches : (moves_of g image (at u 0) t.moves).place ≡ total_of g → accepted_of (reset_by g (fails_at g image u t) t.cut).decline ≡ true
      → Runs (started_up g (tried_of g image u t)) (not (old s)) (new_bank_of g s image)

pub record Tries (g : Geometry) (image : List ℕ) : Type 0 where
  -- with no try at all the sign runs the old
  pub none : (s : State) → Update g s image → Runs s (old s) (bank_of s (old s))
  -- "For any finite list of tries of one update with one image, the first from an accepted start": after each try, whatever tries follow
  pub after : (s : State) → Update g s image → (l rest : List Try) → Tried g image (old s) s (l ++ rest) → AfterTries g s image (tries_of g image s l)
  -- and of each try, whatever the tries before it were
  pub each : (s : State) → Update g s image → (l : List Try) → Tried g image (old s) s l → let u = tries_of g image s l in
      Lower u (old s) → (t : Try) → EachTry g s image u t
  -- "cut start-ups": the run of its first stores, all of them where it has no more; a declined one changes nothing
  pub cut_start_up : (s : State) (n : ℕ) → interrupted_of g s (begun_start_up n) ≡ run_of g s (store_operations (take n (start_up_stores s.device)))
  pub all_stores : (s : State) (n : ℕ) → length (start_up_stores s.device) ≤ n → interrupted_of g s (begun_start_up n) ≡ started_up g s
  -- a declined reset "leaves what it got"
  pub declined : (s : State) (c : Cut) → accepted_of (reset_by g s c).decline ≡ false → interrupted_of g s (reset c) ≡ s
  -- no page protected at the time is changed by a move, a part of a read, a reset, a tear, a store of a start-up that is cut, or a whole one
  pub move_keeps : (p : Position) (m : Move) → Keeps g p.state (moved_of g image p m).state
  pub end_keeps : (s : State) (end : End) → Keeps g s (end_state_of g s end)
  pub interruption_keeps : (s : State) (i : Interruption) → Keeps g s (interrupted_of g s i)
  pub start_up_keeps : (s : State) → Keeps g s (started_up g s)
