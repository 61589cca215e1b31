-- W-206: a row of signs from call to call. Assumes nothing.
use Rattle.std.specs.Prelude.{ℕ, zero, suc, ◌+◌, ◌-◌, ◌≡◌, true, false, List, [], ◌∷◌, length, set, take, drop}
use Rattle.words.specs.Word.{pick}
use Rattle.words.specs.Decline.{accepted_of}
use Rattle.geometry.specs.declared.banks.Geometry.{Geometry}
use Rattle.geometry.specs.Banks.{bank_words_of}
use Rattle.device.specs.Record.{running}
use Rattle.device.specs.State.{State, state}
use Rattle.row_signs.specs.declared.sign.Sign.{Sign}
use Rattle.row_signs.specs.declared.queue.Queue.{Queue}
use Rattle.row_signs.specs.Signs.{sign_at, waiting_of, queue_of, waits_of}
use Rattle.update.specs.Turn.{Turning, turn_of}
use Rattle.row_schedule.specs.declared.answer.ScheduleAnswer.{ScheduleAnswer}
use Rattle.row_schedule.specs.Schedule.{Scheduling, schedule_row_of}

-- the list of sign records, the queue and the record last served beside it, and the store
pub record RowState : Type 0 where
  pub signs : List Sign
  pub queue : Queue
  pub last : ℕ
  pub store : List ℕ

-- what a call brings: K, the image and the SRAM
pub record Call : Type 0 where
  pub k : ℕ
  pub image : List ℕ
  pub sram : List ℕ

-- what a call does
abbrev pub scheduled_of : Geometry → RowState → Call → Scheduling
scheduled_of g r c = schedule_row_of g c.k r.signs (length r.signs) r.queue r.last r.store c.image c.sram

abbrev pub answer_of : Geometry → RowState → Call → ScheduleAnswer
answer_of g r c = (scheduled_of g r c).answer

-- "Over calls that each get what the last left": the row after a call
abbrev pub after_of : Geometry → RowState → Call → RowState
after_of g r c =
    let d = scheduled_of g r c in
    record { signs = set r.signs d.number d.sign; queue = d.answer.queue; last = d.answer.last; store = d.store }

-- what a call leaves of an arbitrary answer, list and store: the queue and the last served are the answer's
abbrev pub leaving : ScheduleAnswer → List Sign → List ℕ → RowState
leaving a signs store = record { signs = signs; queue = a.queue; last = a.last; store = store }

-- after the first n of a sequence of calls
abbrev pub row_of : Geometry → RowState → (ℕ → Call) → ℕ → RowState
row_of g r calls zero = r
row_of g r calls (suc n) = after_of g (row_of g r calls n) (calls n)

-- "the number of signs with WR set"
abbrev pub set_in : List Sign → ℕ
set_in [] = 0
set_in (s ∷ rest) = pick (running s.device) 1 0 + set_in rest

abbrev pub set_of : RowState → ℕ
set_of r = set_in r.signs

-- "each with its device, its place in the update and the start of each of its two banks in one lent store"
abbrev pub state_in : Geometry → List ℕ → Sign → State
state_in g store s = state s.device (take (bank_words_of g) (drop s.one store)) (take (bank_words_of g) (drop s.two store))

-- the turn of record j: 01's, on its device, its place and its two banks
abbrev pub turn_at : Geometry → RowState → Call → ℕ → Turning
turn_at g r c j = let s = sign_at r.signs j in turn_of g (state_in g r.store s) c.image c.sram s.place

-- record j can be served: "unfinished and with a turn that isn't declined"
pub record Can (g : Geometry) (r : RowState) (c : Call) (j : ℕ) : Type 0 where
  pub accepted : accepted_of (turn_at g r c j).decline ≡ true
  pub unfinished : (turn_at g r c j).done ≡ false

-- its "turn would set WR": it is 0 before the turn and 1 after
pub record WouldSet (g : Geometry) (r : RowState) (c : Call) (j : ℕ) : Type 0 where
  pub before : running (sign_at r.signs j).device ≡ false
  pub after : running (turn_at g r c j).state.device ≡ true

-- it waits: it is in the queue
abbrev pub Waits : RowState → ℕ → Type 0
Waits r j = waits_of (waiting_of r.queue) j ≡ true

-- a fresh row: an empty queue, and "the record last served, which starts as the list's last"
abbrev pub fresh_of : List Sign → List ℕ → RowState
fresh_of signs store = record { signs = signs; queue = queue_of []; last = length signs - 1; store = store }
