-- W-206: what is promised of every call and of every list of calls for a row, but for the cut. Assumes nothing.
use Rattle.std.specs.Prelude.{ℕ, ◌+◌, ◌<◌, ◌≤◌, ◌≡◌, true, false, ◌⊎◌, List, length, get_or}
use Rattle.geometry.specs.declared.banks.Geometry.{Geometry}
use Rattle.geometry.specs.Banks.{bank_words_of}
use Rattle.device.specs.Record.{running}
use Rattle.row_signs.specs.declared.sign.Sign.{Sign}
use Rattle.row_signs.specs.Signs.{sign_at}
use Rattle.update.specs.Turn.{Turning}
use Rattle.row_schedule.specs.declared.answer.ScheduleAnswer.{ScheduleAnswer}
use Rattle.row.specs.Row.{RowState, Call, answer_of, after_of, leaving, row_of, set_of, state_in, turn_at, Can, Waits}
use Rattle.row.specs.Choosing.{Choosing, RowDeclines}

-- a call takes WR of record x from 0 to 1
pub record SetsWr (g : Geometry) (r : RowState) (c : Call) (x : ℕ) : Type 0 where
  pub listed : x < length r.signs
  pub before : running (sign_at r.signs x).device ≡ false
  pub after : running (sign_at (after_of g r c).signs x).device ≡ true

-- word v of the store lies in neither bank of a sign
abbrev pub OutsideBanks : Geometry → Sign → ℕ → Type 0
OutsideBanks g s v =
    ((v < s.one) ⊎ (s.one + bank_words_of g ≤ v)) × ((v < s.two) ⊎ (s.two + bank_words_of g ≤ v))

-- the record of a sign after its turn: the device and the place are the turn's, the starts of its banks stay
abbrev pub turned : Sign → Turning → Sign
turned s turning = record { device = turning.state.device; place = turning.place; one = s.one; two = s.two }

-- of one call: a is its answer, and t the row that it leaves
pub record OneCall (g : Geometry) (r : RowState) (c : Call) (a : ScheduleAnswer) (t : RowState) : Type 0 where
  -- a call that is declined changes nothing
  pub declined : (a.decline ≡ 0 → ⊥) → t ≡ r
  -- "No call raises the number of signs with WR set above K"
  pub bears : (set_of t ≤ c.k) ⊎ (set_of t ≤ set_of r)
  -- "With nobody to serve the call says idle": no record and no word changes, and the last served stays
  pub idle : a.idle ≡ true
      → (t.signs ≡ r.signs) × ((t.store ≡ r.store) × (t.last ≡ r.last))
  -- "A call does one turn for one sign": the one that it names, whose turn is neither declined nor done
  pub served : a.decline ≡ 0 → a.idle ≡ false
      → let x = a.served in
      (x < length r.signs) × (Can g r c x
      × ((sign_at t.signs x ≡ turned (sign_at r.signs x) (turn_at g r c x))
      × ((t.last ≡ x)
      × (state_in g t.store (sign_at t.signs x)
      ≡ (turn_at g r c x).state))))
  -- "A turn for one sign changes no word or record of another"
  pub others : (j : ℕ) → (j ≡ a.served → ⊥) → sign_at t.signs j ≡ sign_at r.signs j
  pub other_banks : a.decline ≡ 0 → (j : ℕ) → j < length r.signs → (j ≡ a.served → ⊥)
      → state_in g t.store (sign_at t.signs j) ≡ state_in g r.store (sign_at r.signs j)
  -- nor a word outside the two banks of the sign that it serves
  pub outside : (v : ℕ) → OutsideBanks g (sign_at r.signs a.served) v → get_or t.store v 0 ≡ get_or r.store v 0
  -- the list and the store keep their lengths, and each record the starts of its banks
  pub lengths : (length t.signs ≡ length r.signs) × (length t.store ≡ length r.store)
  pub starts : (j : ℕ) → ((sign_at t.signs j).one ≡ (sign_at r.signs j).one) × ((sign_at t.signs j).two ≡ (sign_at r.signs j).two)

-- all that W-206 asks of one call
pub record Called (g : Geometry) (r : RowState) (c : Call) (a : ScheduleAnswer) (t : RowState) : Type 0 where
  pub one_call : OneCall g r c a t
  pub choosing : Choosing g r c a t
  pub declines : RowDeclines g r c a

-- "Over calls that each get what the last left, no sign sets WR twice while one and the same other sign, unfinished and with a turn that isn't declined,
-- waits": where calls a and b both take WR of x from 0 to 1, no sign waits before each call from a to b and can be served at b
abbrev pub Fair : Geometry → RowState → (ℕ → Call) → Type 0
Fair g r calls =
    (a b x y : ℕ) → a < b → SetsWr g (row_of g r calls a) (calls a) x → SetsWr g (row_of g r calls b) (calls b) x
    → ((i : ℕ) → a ≤ i → i ≤ b → Waits (row_of g r calls i) y)
    → Can g (row_of g r calls b) (calls b) y → ⊥

pub record Supply : Type 0 where
  -- every call is answered so and leaves this, and no other answer, list and store are as asked
  pub meets : (g : Geometry) (r : RowState) (c : Call) → Called g r c (answer_of g r c) (after_of g r c)
  pub fixes : (g : Geometry) (r : RowState) (c : Call) (a : ScheduleAnswer) (signs : List Sign) (store : List ℕ) → Called g r c a (leaving a signs store)
      → (a ≡ answer_of g r c) × (leaving a signs store ≡ after_of g r c)
  pub fair : (g : Geometry) (r : RowState) (calls : ℕ → Call) → Fair g r calls
