-- W-206: "The cut statement is per sign, all reset together." Each sign's part of a list of calls, with reads of single signs between them, is a list of
-- moves of its own update; so what holds of an update that is cut holds of each sign of a row that is cut. Assumes nothing.
use Rattle.std.specs.Prelude.{ℕ, zero, suc, ◌<◌, ◌≡◌, Bool, true, not, ◌&&◌, List, [], ◌∷◌, ◌++◌, eqb, ltb, length, get_or, set}
use Rattle.std.proofs.lemmas.List.Edits.{sets}
use Rattle.words.specs.Word.{pick}
use Rattle.words.specs.Decline.{accepted_of}
use Rattle.geometry.specs.declared.banks.Geometry.{Geometry}
use Rattle.geometry.specs.Banks.{bank_words_of}
use Rattle.device.specs.State.{State}
use Rattle.reads.specs.Read.{flash_read_of}
use Rattle.update.specs.Actions.{total_of}
use Rattle.update.specs.PowerFail.{Position, at, after_turns, place_after, Cut, reset_by, started_up, restarted, old, Update, Claims}
use Rattle.update.specs.Moves.{Move, moves_of, End, end_state_of}
use Rattle.update.specs.Tries.{Interruption, interrupted_of, interruptions_of, Try, tries_of, Tried, AfterTries}
use Rattle.row_signs.specs.declared.sign.Sign.{Sign}
use Rattle.row_signs.specs.declared.queue.Queue.{Queue}
use Rattle.row_signs.specs.Signs.{sign_at}
use Rattle.row_judge.specs.Judge.{SignsApart}
use Rattle.row_turn.specs.SignTurn.{sign_state_of, Lies}
use Rattle.row.specs.Row.{RowState, Call, answer_of, after_of}
use Rattle.row.specs.Supply.{OutsideBanks}

-- a sign of the row with another state: its device, and both banks in their places
abbrev pub with_state : RowState → ℕ → State → RowState
with_state r j t =
    let s = sign_at r.signs j in
    record {
      signs = set r.signs j (record { device = t.device; place = s.place; one = s.one; two = s.two });
      queue = r.queue;
      last = r.last;
      store = sets (sets r.store s.one t.one) s.two t.two;
    }

-- the state of a sign, over its two parts of the store
abbrev pub state_at : Geometry → RowState → ℕ → State
state_at g r j = sign_state_of g r.store (sign_at r.signs j)

-- a call with its K and its SRAM; W-207's read of a single sign of the list, over its own parts of the store
pub data RowMove : Type 0 where
  call : ℕ → List ℕ → RowMove
  read : ℕ → List ℕ → ℕ → RowMove

abbrev pub call_of : List ℕ → ℕ → List ℕ → Call
call_of image k sram = record { k = k; image = image; sram = sram }

abbrev pub row_moved_of : Geometry → List ℕ → RowState → RowMove → RowState
row_moved_of g image r (call k sram) = after_of g r (call_of image k sram)
row_moved_of g image r (read j sram address) =
    pick (ltb j (length r.signs)) (with_state r j (flash_read_of g (state_at g r j) sram address).after.state) r

abbrev pub row_moves_of : Geometry → List ℕ → RowState → List RowMove → RowState
row_moves_of g image r [] = r
row_moves_of g image r (m ∷ rest) = row_moves_of g image (row_moved_of g image r m) rest

-- the list ends whole, or inside a read of one sign; a call ends whole, as a turn does: where the supply fails inside a flash step, the reset's mask says what
-- of it is left
pub data RowEnd : Type 0 where
  whole : RowEnd
  inside : ℕ → End → RowEnd

abbrev pub row_end_of : Geometry → RowState → RowEnd → RowState
row_end_of g r whole = r
row_end_of g r (inside j end) = pick (ltb j (length r.signs)) (with_state r j (end_state_of g (state_at g r j) end)) r

-- what of it is sign j's own: a turn for each call that serves it, and its reads
abbrev pub serves_of : Geometry → RowState → Call → ℕ → Bool
serves_of g r c j = eqb (answer_of g r c).decline 0 && (not (answer_of g r c).idle && eqb (answer_of g r c).served j)

abbrev pub own_move_of : Geometry → List ℕ → RowState → RowMove → ℕ → List Move
own_move_of g image r (call k sram) j = pick (serves_of g r (call_of image k sram) j) (Move.turn sram ∷ []) []
own_move_of g image r (read i sram address) j = pick (eqb i j) (Move.read sram address ∷ []) []

abbrev pub own_moves_of : Geometry → List ℕ → RowState → List RowMove → ℕ → List Move
own_moves_of g image r [] j = []
own_moves_of g image r (m ∷ rest) j = own_move_of g image r m j ++ own_moves_of g image (row_moved_of g image r m) rest j

abbrev pub own_end_of : RowEnd → ℕ → End
own_end_of whole j = End.whole
own_end_of (inside i end) j = pick (eqb i j) end End.whole

-- the first n signs of the row, each with what is made of its own state; all of them
abbrev pub each_to : Geometry → (ℕ → State → State) → RowState → ℕ → RowState
each_to g f r zero = r
each_to g f r (suc n) = let before = each_to g f r n in with_state before n (f n (state_at g before n))

abbrev pub each_of : Geometry → (ℕ → State → State) → RowState → RowState
each_of g f r = each_to g f r (length r.signs)

-- "all reset together", each sign with its own kind, mask and SRAM; then each is started up
abbrev pub reset_row_of : Geometry → RowState → (ℕ → Cut) → RowState
reset_row_of g r cuts = each_of g (λ j s. (reset_by g s (cuts j)).state) r

abbrev pub start_row_of : Geometry → RowState → RowState
start_row_of g r = each_of g (λ j s. started_up g s) r

abbrev pub restarted_row_of : Geometry → RowState → (ℕ → Cut) → RowState
restarted_row_of g r cuts = start_row_of g (reset_row_of g r cuts)

-- each sign's banks lie in the store, apart from each other and from those of every other sign: so of every row that a call does not decline (`stands`)
pub record Placed (g : Geometry) (r : RowState) : Type 0 where
  pub lies : (j : ℕ) → j < length r.signs → Lies g r.store (sign_at r.signs j)
  pub apart : (i j : ℕ) → i < length r.signs → j < length r.signs → (i ≡ j → ⊥)
      → SignsApart (bank_words_of g) (sign_at r.signs i) (sign_at r.signs j)

-- where a sign is in its update
abbrev pub position_at : Geometry → RowState → ℕ → Position
position_at g r j = at (state_at g r j) (sign_at r.signs j).place

-- ---- where the row goes on after cuts: tries of the whole row

-- moves and where they end, each sign's cut, what interrupts each after it, and the places, queue and last served with which the row goes on
pub record RowTry : Type 0 where
  pub moves : List RowMove
  pub end : RowEnd
  pub cuts : ℕ → Cut
  pub later : List (ℕ → Interruption)
  pub places : ℕ → ℕ
  pub queue : Queue
  pub last : ℕ

-- each sign interrupted by its own, again and again
abbrev pub interrupt_row : Geometry → RowState → List (ℕ → Interruption) → RowState
interrupt_row g r [] = r
interrupt_row g r (each ∷ rest) = interrupt_row g (each_of g (λ j s. interrupted_of g s (each j)) r) rest

-- the row with other places, another queue and another last served
abbrev pub places_to : List Sign → (ℕ → ℕ) → ℕ → List Sign
places_to signs places zero = signs
places_to signs places (suc n) =
    let before = places_to signs places n in
    let s = sign_at before n in set before n (record { device = s.device; place = places n; one = s.one; two = s.two })

abbrev pub row_tried_of : Geometry → List ℕ → RowState → RowTry → RowState
row_tried_of g image r t =
    let failed = row_end_of g (row_moves_of g image r t.moves) t.end in
    let woken = interrupt_row g (reset_row_of g failed t.cuts) t.later in
    let up = start_row_of g woken in
    record { signs = places_to up.signs t.places (length up.signs); queue = t.queue; last = t.last; store = up.store }

abbrev pub row_tries_of : Geometry → List ℕ → RowState → List RowTry → RowState
row_tries_of g image r [] = r
row_tries_of g image r (t ∷ rest) = row_tries_of g image (row_tried_of g image r t) rest

abbrev pub own_later_of : List (ℕ → Interruption) → ℕ → List Interruption
own_later_of [] j = []
own_later_of (each ∷ rest) j = each j ∷ own_later_of rest j

abbrev pub own_tries_of : Geometry → List ℕ → RowState → List RowTry → ℕ → List Try
own_tries_of g image r [] j = []
own_tries_of g image r (t ∷ rest) j =
    record { moves = own_moves_of g image r t.moves j; end = own_end_of t.end j; cut = t.cuts j; later = own_later_of t.later j }
    ∷ own_tries_of g image (row_tried_of g image r t) rest j

-- each try but the last gives sign j place 0 again: it runs the old bank, and goes on
abbrev pub FromPlace0 : List RowTry → ℕ → Type 0
FromPlace0 [] j = Unit {0}
FromPlace0 (t ∷ []) j = Unit {0}
FromPlace0 (t ∷ u ∷ rest) j = (t.places j ≡ 0) × FromPlace0 (u ∷ rest) j

-- ---- what is promised

pub record RowCut (g : Geometry) (image : List ℕ) : Type 0 where
  -- a row that a call does not decline
  pub stands : (r : RowState) (c : Call) → (answer_of g r c).decline ≡ 0 → Placed g r
  -- it stays so
  pub stays : (r : RowState) → Placed g r → (ms : List RowMove) (e : RowEnd) (cuts : ℕ → Cut)
      → let t = row_end_of g (row_moves_of g image r ms) e in Placed g t × Placed g (restarted_row_of g t cuts)
  -- each sign's part of any list of calls is a list of turns of its own update, with its reads among them: its place, device and banks
  pub own : (r : RowState) → Placed g r → (j : ℕ) → j < length r.signs → (ms : List RowMove)
      → position_at g (row_moves_of g image r ms) j ≡ moves_of g image (position_at g r j) (own_moves_of g image r ms j)
  pub own_end : (r : RowState) → Placed g r → (j : ℕ) → j < length r.signs → (e : RowEnd)
      → state_at g (row_end_of g r e) j ≡ end_state_of g (state_at g r j) (own_end_of e j)
  -- "all reset together": each sign's part of the joint reset is its own, and of the start-ups
  pub own_reset : (r : RowState) → Placed g r → (j : ℕ) → j < length r.signs → (cuts : ℕ → Cut)
      → state_at g (reset_row_of g r cuts) j ≡ (reset_by g (state_at g r j) (cuts j)).state
  pub own_restart : (r : RowState) → Placed g r → (j : ℕ) → j < length r.signs → (cuts : ℕ → Cut)
      → state_at g (restarted_row_of g r cuts) j ≡ restarted g (state_at g r j) (cuts j)
  -- no word outside the banks of the row's signs changes
  pub outside : (r : RowState) → Placed g r → (ms : List RowMove) (e : RowEnd) (cuts : ℕ → Cut) (v : ℕ)
      → ((j : ℕ) → j < length r.signs → OutsideBanks g (sign_at r.signs j) v)
      → let t = row_end_of g (row_moves_of g image r ms) e in
      (get_or t.store v 0 ≡ get_or r.store v 0)
      × ((get_or (reset_row_of g t cuts).store v 0 ≡ get_or r.store v 0) × (get_or (restarted_row_of g t cuts).store v 0 ≡ get_or r.store v 0))
  -- "The cut statement is per sign": of a sign whose start was accepted, at place 0, all that PowerFail claims
  pub claims : (r : RowState) → Placed g r → (j : ℕ) → j < length r.signs → (sign_at r.signs j).place ≡ 0 → Update g (state_at g r j) image
      → (ms : List RowMove) (e : RowEnd) (A : List (List ℕ)) → place_after g (state_at g r j) image A ≡ total_of g
      → Claims g (state_at g r j) image (after_turns g (state_at g r j) image A) (state_at g (row_end_of g (row_moves_of g image r ms) e) j)
  -- so, when all are reset together and started up, it runs the old bank, whole, or exactly the new one, and so on
  pub cut : (r : RowState) → Placed g r → (j : ℕ) → j < length r.signs → (sign_at r.signs j).place ≡ 0 → Update g (state_at g r j) image
      → (ms : List RowMove) (e : RowEnd) (cuts : ℕ → Cut) → let b = row_end_of g (row_moves_of g image r ms) e in
      accepted_of (reset_by g (state_at g b j) (cuts j)).decline ≡ true → AfterTries g (state_at g r j) image (state_at g (restarted_row_of g b cuts) j)
  -- where the row goes on after cuts: what one try of the row leaves of a sign, at whatever place it was
  pub own_try : (r : RowState) → Placed g r → (j : ℕ) → j < length r.signs → (t : RowTry) → let u = row_tried_of g image r t in
      ((sign_at u.signs j).place ≡ t.places j) × (state_at g u j ≡ started_up g (interruptions_of g
      (reset_by g (end_state_of g (moves_of g image (position_at g r j) (own_moves_of g image r t.moves j)).state (own_end_of t.end j)) (t.cuts j)).state
      (own_later_of t.later j)))
  -- each sign's part of a list of tries is a list of tries of its own, so that all that W-212 claims holds of it
  pub own_tries : (r : RowState) → Placed g r → (j : ℕ) → j < length r.signs → (sign_at r.signs j).place ≡ 0 → (l : List RowTry) → FromPlace0 l j
      → state_at g (row_tries_of g image r l) j ≡ tries_of g image (state_at g r j) (own_tries_of g image r l j)
  pub tries : (r : RowState) → Placed g r → (j : ℕ) → j < length r.signs → (sign_at r.signs j).place ≡ 0 → Update g (state_at g r j) image
      → (l : List RowTry) → FromPlace0 l j → Tried g image (old (state_at g r j)) (state_at g r j) (own_tries_of g image r l j)
      → AfterTries g (state_at g r j) image (state_at g (row_tries_of g image r l) j)
  -- the banks stay in their places, and no word outside them changes
  pub tries_stay : (r : RowState) → Placed g r → (l : List RowTry) → Placed g (row_tries_of g image r l)
  pub tries_outside : (r : RowState) → Placed g r → (l : List RowTry) (v : ℕ) → ((j : ℕ) → j < length r.signs → OutsideBanks g (sign_at r.signs j) v)
      → get_or (row_tries_of g image r l).store v 0 ≡ get_or r.store v 0
