-- W-206: whom a call serves, who waits then, and which decline it gives, as facts of whatever a call may answer and leave. Assumes nothing.
use Rattle.std.specs.Prelude.{ℕ, ◌+◌, ◌%◌, ◌<◌, ◌≤◌, ◌≡◌, true, false, List, ◌++◌, ◌⊎◌, length, get_or}
use Rattle.geometry.specs.declared.banks.Geometry.{Geometry}
use Rattle.geometry.specs.Banks.{in_range_of, bank_words_of}
use Rattle.geometry.specs.Lent.{most_sram}
use Rattle.update.specs.Actions.{total_of}
use Rattle.words.specs.Lists.{In, Rising}
use Rattle.row_signs.specs.Signs.{sign_at, waiting_of, left_of, queue_of}
use Rattle.row_judge.specs.Judge.{Judged}
use Rattle.row_schedule.specs.declared.answer.ScheduleAnswer.{ScheduleAnswer}
use Rattle.row.specs.Row.{RowState, Call, set_of, turn_at, Can, WouldSet, Waits}

-- ---- whom the queue gives

-- the record at position p of the queue
abbrev pub waiter_at : RowState → ℕ → ℕ
waiter_at r p = get_or r.queue.numbers p 0

-- "With fewer than K set and a waiting sign that isn't passed over": position p is that of "the longest waiting, the first of these in the queue"
pub record FirstWaiting (g : Geometry) (r : RowState) (c : Call) (p : ℕ) : Type 0 where
  pub room : set_of r < c.k
  pub inside : p < r.queue.count
  pub can : Can g r c (waiter_at r p)
  pub first : (q : ℕ) → q < p → Can g r c (waiter_at r q) → ⊥

-- "Else": K or more are set, or every waiting sign is passed over
abbrev pub NoneWaiting : Geometry → RowState → Call → Type 0
NoneWaiting g r c = set_of r < c.k → (p : ℕ) → p < r.queue.count → Can g r c (waiter_at r p) → ⊥

-- ---- whom the search round the list gives

-- "the first after the last served, round the list": the record that it meets after i others
abbrev pub met_at : RowState → ℕ → ℕ
met_at r i = (r.last + 1 + i) % length r.signs

-- "unfinished and not waiting", and not passed over
pub record Open (g : Geometry) (r : RowState) (c : Call) (j : ℕ) : Type 0 where
  pub can : Can g r c j
  pub free : Waits r j → ⊥

-- one "whose turn would set WR while K or more are set"
pub record Held (g : Geometry) (r : RowState) (c : Call) (j : ℕ) : Type 0 where
  pub is_open : Open g r c j
  pub sets : WouldSet g r c j
  pub full : c.k ≤ set_of r

-- it serves the record that it meets after i others, all of them finished, passed over, waiting, or beginning to wait
pub record FirstMet (g : Geometry) (r : RowState) (c : Call) (i : ℕ) : Type 0 where
  pub nobody : NoneWaiting g r c
  pub inside : i < length r.signs
  pub is_open : Open g r c (met_at r i)
  pub bears : Held g r c (met_at r i) → ⊥
  pub first : (e : ℕ) → e < i → Open g r c (met_at r e) → Held g r c (met_at r e)

-- "With nobody to serve"
pub record Nobody (g : Geometry) (r : RowState) (c : Call) : Type 0 where
  pub nobody : NoneWaiting g r c
  pub held : (j : ℕ) → j < length r.signs → Open g r c j → Held g r c j

pub data Case (g : Geometry) (r : RowState) (c : Call) : Type 0 where
  from_queue : (p : ℕ) → FirstWaiting g r c p → Case g r c
  from_list : (i : ℕ) → FirstMet g r c i → Case g r c
  idle : Nobody g r c → Case g r c

-- ---- who waits then

-- record j is one of the first i that the search meets, and is held back
pub record Begins (g : Geometry) (r : RowState) (c : Call) (i j : ℕ) : Type 0 where
  pub at : ℕ
  pub before : at < i
  pub is : met_at r at ≡ j
  pub held : Held g r c j

-- "begins to wait, and the search goes on": those of the first i records met that are held back join the queue's end, "those of one call in record order"
pub record Joined (g : Geometry) (r : RowState) (c : Call) (t : RowState) (i : ℕ) : Type 0 where
  pub new : List ℕ
  pub queue : t.queue ≡ queue_of (waiting_of r.queue ++ new)
  pub only : (j : ℕ) → In new j → Begins g r c i j
  pub all : (j : ℕ) → Begins g r c i j → In new j
  pub rising : Rising new

-- ---- what is promised of a call that is not declined: of its answer a, and of the row t that it leaves
pub record Choosing (g : Geometry) (r : RowState) (c : Call) (a : ScheduleAnswer) (t : RowState) : Type 0 where
  -- one of three
  pub one-of : a.decline ≡ 0 → Case g r c
  -- "it serves the longest waiting, the first of these in the queue, which then leaves it"
  pub from_queue : a.decline ≡ 0 → (p : ℕ) → FirstWaiting g r c p
      → (a.idle ≡ false) × ((a.served ≡ waiter_at r p)
      × (t.queue ≡ queue_of (left_of (waiting_of r.queue) p)))
  -- "Else it serves the first after the last served, round the list, that is unfinished and not waiting"
  pub from_list : a.decline ≡ 0 → (i : ℕ) → FirstMet g r c i
      → (a.idle ≡ false) × ((a.served ≡ met_at r i) × Joined g r c t i)
  -- "With nobody to serve the call says idle", and only then; it names record 0 (ours)
  pub idle : a.decline ≡ 0 → Nobody g r c
      → (a.idle ≡ true) × ((a.served ≡ 0) × ((a.event ≡ false) × Joined g r c t (length r.signs)))
  pub idle_only : a.idle ≡ true → (a.decline ≡ 0) × Nobody g r c
  -- the event is that of the turn of the sign that is served
  pub event : a.decline ≡ 0 → a.idle ≡ false
      → a.event ≡ (turn_at g r c a.served).event
  -- a sign at the total is "finished", and one past it is passed over
  pub past : (j : ℕ) → total_of g ≤ (sign_at r.signs j).place → Can g r c j → ⊥
  -- the queue has 32 entries (ours), at most as many in use as there are records, and those past the count are 0
  pub entries : a.decline ≡ 0 → (length t.queue.numbers ≡ 32) × (t.queue.count ≤ length r.signs)
  pub zeros : a.decline ≡ 0 → (p : ℕ) → t.queue.count ≤ p → get_or t.queue.numbers p 0 ≡ 0

-- ---- and which decline it gives, exactly where

abbrev pub JudgedCall : Geometry → RowState → Call → Type 0
JudgedCall g r c = Judged g c.k r.signs (length r.signs) r.queue r.last (length r.store) (length c.image) (length c.sram)

pub record RowDeclines (g : Geometry) (r : RowState) (c : Call) (a : ScheduleAnswer) : Type 0 where
  pub geometry : in_range_of g ≡ false → a.decline ≡ 1
  pub lengths : in_range_of g ≡ true → (length c.image ≡ bank_words_of g → ⊥) ⊎ (most_sram < length c.sram) → a.decline ≡ 2
  -- "19, after 1 and 2"
  pub row : in_range_of g ≡ true → length c.image ≡ bank_words_of g → length c.sram ≤ most_sram → (JudgedCall g r c → ⊥)
      → a.decline ≡ 19
  pub accepted : JudgedCall g r c → a.decline ≡ 0
  pub accepted_only : a.decline ≡ 0 → JudgedCall g r c
  -- beside a decline the numbers are 0 (ours)
  pub numbers : (a.decline ≡ 0 → ⊥)
      → (a.idle ≡ false) × ((a.served ≡ 0) × (a.event ≡ false))
