-- Power-fail safety: demand 3, one claim about whole lists of turns, run A and run B of one update together. Assumes nothing.
use Rattle.std.specs.Prelude.{ℕ, ◌^◌, ◌≤◌, ◌<◌, ◌≡◌, Bool, true, false, not, List, [], ◌∷◌, ◌⊎◌, length, get_or}
use Rattle.words.specs.Quad.{word_at, put_quad}
use Rattle.words.specs.Decline.{accepted_of}
use Rattle.geometry.specs.declared.banks.Geometry.{Geometry}
use Rattle.sequence.specs.Sequence.{sequence_quad_of, next_sequence_of}
use Rattle.device.specs.Record.{bfswap, pfswap}
use Rattle.start_up.specs.StartUp.{start_up_of}
use Rattle.resets.specs.Reset.{reset_of, other_reset}
use Rattle.device.specs.State.{State, bank_of, state, After}
use Rattle.controller.specs.Controller.{Keeps}
use Rattle.update.specs.Actions.{total_of}
use Rattle.update.specs.Start.{lower_word_of, start_of}
use Rattle.update.specs.Turn.{turn_of, EveryTurn}
use Rattle.geometry.specs.Lent.{most_sram}

-- where a list of turns stands
pub record Position : Type 0 where
  pub state : State
  pub place : ℕ

abbrev pub at : State → ℕ → Position
at s place = record { state = s; place = place }

-- "Every turn gets the start's geometry and image and any SRAM." A turn, declined or not, by its SRAM
abbrev pub turned_of : Geometry → List ℕ → Position → List ℕ → Position
turned_of g image p sram = let t = turn_of g p.state image sram p.place in at t.state t.place

-- "each later one what the turn before left": the turns of a list of SRAMs
abbrev pub turns_of : Geometry → List ℕ → Position → List (List ℕ) → Position
turns_of g image p [] = p
turns_of g image p (sram ∷ rest) = turns_of g image (turned_of g image p sram) rest

-- "the first turn gets the start's device and banks and place 0"
abbrev pub after_turns : Geometry → State → List ℕ → List (List ℕ) → State
after_turns g s image srams = (turns_of g image (at s 0) srams).state

abbrev pub place_after : Geometry → State → List ℕ → List (List ℕ) → ℕ
place_after g s image srams = (turns_of g image (at s 0) srams).place

-- "A cut is one reset after the list, of any of the three kinds and any mask."
pub record Cut : Type 0 where
  pub sram : List ℕ
  pub kind : ℕ
  pub mask : List ℕ

abbrev pub reset_by : Geometry → State → Cut → After
reset_by g s c = reset_of g s c.sram c.kind c.mask

-- "A start-up is completed when its last store is done."
abbrev pub started_up : Geometry → State → State
started_up g s = state (start_up_of g s.device).device s.one s.two

abbrev pub restarted : Geometry → State → Cut → State
restarted g s c = started_up g (reset_by g s c).state

-- "Resets and start-ups .. count only where not declined."
pub record Restarts (g : Geometry) (s : State) (c : Cut) : Type 0 where
  pub reset : accepted_of (reset_by g s c).decline ≡ true
  pub start_up : accepted_of (start_up_of g (reset_by g s c).state.device).decline ≡ true

-- "old is the lower-alias bank at the start": bank 2, or bank 1
abbrev pub old : State → Bool
old s = bfswap s.device

-- "The sign runs the bank that BFSWAP and PFSWAP both put lower": bank 2, or bank 1, with these words
abbrev pub Lower : State → Bool → Type 0
Lower t second = (bfswap t.device ≡ second) × (pfswap t.device ≡ second)

abbrev pub Runs : State → Bool → List ℕ → Type 0
Runs t second words = Lower t second × (bank_of t second ≡ words)

-- "the image with the new sequence quad as its last boot quad"
abbrev pub new_bank_of : Geometry → State → List ℕ → List ℕ
new_bank_of g s image = put_quad image (sequence_quad_of g) (next_sequence_of (lower_word_of g s))

-- t has both banks of s; t has the bank that is old in s
abbrev pub SameBanks : State → State → Type 0
SameBanks s t = (t.one ≡ s.one) × (t.two ≡ s.two)

abbrev pub OldKept : State → State → Type 0
OldKept s t = bank_of t (old s) ≡ bank_of s (old s)

abbrev pub Words : List ℕ → Type 0
Words l = (v : ℕ) → word_at l v < 2 ^ 32

-- "any accepted update": banks and image of words of 32 bits and NVMDATA of four words, as every caller's are
pub record Update (g : Geometry) (s : State) (image : List ℕ) : Type 0 where
  pub accepted : accepted_of (start_of g s image).decline ≡ true
  pub one_words : Words s.one
  pub two_words : Words s.two
  pub new_words_lem : Words image
  pub quad : length s.device.nvmdata ≡ 4

-- of an update from s: a is what run A left, and b what the list of run B left, before its cut
pub record Claims (g : Geometry) (s : State) (image : List ℕ) (a b : State) : Type 0 where
  -- "After A, whatever reset and then a completed start-up follow, the sign runs the new bank: the image with the new sequence quad as its
  -- last boot quad." A itself leaves that bank, and the reset and the start-up, declined or not, change no word of either bank
  pub new_runs : (c : Cut) → Restarts g a c → Runs (restarted g a c) (not (old s)) (new_bank_of g s image)
  pub new_left : bank_of a (not (old s)) ≡ new_bank_of g s image
  pub banks_stay : (c : Cut) → SameBanks a (reset_by g a c).state × SameBanks a (restarted g a c)
  -- "After B and a completed start-up it runs the old bank or exactly A's new one, never a mixture."
  pub old_or_new : (c : Cut) → Restarts g b c → let t = restarted g b c in
      Runs t (old s) (bank_of s (old s)) ⊎ Runs t (not (old s)) (bank_of a (not (old s)))
  -- "In both the old bank keeps every word"
  pub old_kept : OldKept s a × OldKept s b
  pub old_kept_cut : (c : Cut) → OldKept s (reset_by g b c).state × OldKept s (restarted g b c)
  -- "Where B runs the old bank, the same update is accepted again, and any list of its turns that reaches the total leaves both banks as A
  -- left them.": it is an update, so all of this holds of it, too
  pub again : (c : Cut) → Restarts g b c → let t = restarted g b c in
      Lower t (old s) → Update g t image × ((C : List (List ℕ)) → place_after g t image C ≡ total_of g → SameBanks a (after_turns g t image C))
  -- "With at most 16,384 words of SRAM none of these calls is declined": the resets and start-ups
  pub restarts : (c : Cut) → length c.sram ≤ most_sram → c.kind ≤ other_reset → Restarts g a c × Restarts g b c

pub record PowerFail (g : Geometry) (image : List ℕ) : Type 0 where
  -- "An accepted start .. gives place 0 and the total."
  pub starts : (s : State) → Update g s image → ((start_of g s image).place ≡ 0) × ((start_of g s image).total ≡ total_of g)
  -- "Take any accepted update": "Run A is such a list that reaches the total."; "Run B .. is any such list, empty too"
  pub claims : (s : State) → Update g s image → (A B : List (List ℕ)) → place_after g s image A ≡ total_of g
      → Claims g s image (after_turns g s image A) (after_turns g s image B)
  -- "With at most 16,384 words of SRAM none of these calls is declined": a turn after any list of turns; no place exceeds the total
  pub answers : (s : State) → Update g s image → (srams : List (List ℕ)) (sram : List ℕ) → length sram ≤ most_sram
      → accepted_of (turn_of g (after_turns g s image srams) image sram (place_after g s image srams)).decline ≡ true
  pub within : (s : State) → Update g s image → (srams : List (List ℕ)) → place_after g s image srams ≤ total_of g
  -- "and as many turns as the total reach it, so a run A exists."
  pub reaches : (s : State) → Update g s image → (srams : List (List ℕ)) → ((i : ℕ) → length (get_or srams i []) ≤ most_sram)
      → length srams ≡ total_of g → place_after g s image srams ≡ total_of g
  -- of any state: "a declined turn leaves what it got", and so do a reset and a start-up
  pub turns : (p : Position) (sram : List ℕ) → EveryTurn g p.state image sram p.place
  pub reset_declined : (s : State) (c : Cut) → accepted_of (reset_by g s c).decline ≡ false → (reset_by g s c).state ≡ s
  pub start_up_declined : (s : State) → accepted_of (start_up_of g s.device).decline ≡ false → started_up g s ≡ s
  -- "and no page protected at the time of a step is changed by it, whole or torn"; and no bank changes its length
  pub turn_keeps : (p : Position) (sram : List ℕ) → Keeps g p.state (turned_of g image p sram).state
  pub reset_keeps : (s : State) (c : Cut) → Keeps g s (reset_by g s c).state
  pub start_up_keeps : (s : State) → Keeps g s (started_up g s)
