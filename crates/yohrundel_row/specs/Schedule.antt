-- W-206: what a call leaves of a lent list of records. Assumes nothing.
use Rattle.std.specs.Prelude.{ℕ, List, length, set}
use Rattle.geometry.specs.declared.banks.Geometry.{Geometry}
use Rattle.row_signs.specs.declared.sign.Sign.{Sign}
use Rattle.row_signs.specs.declared.queue.Queue.{Queue}
use Rattle.row_schedule.specs.declared.answer.ScheduleAnswer.{ScheduleAnswer}
use Rattle.row_schedule.specs.Schedule.{Scheduling, schedule_row_of}

-- the list, the store and the answer
pub record Rowed : Type 0 where
  pub signs : List Sign
  pub store : List ℕ
  pub answer : ScheduleAnswer

abbrev pub rowed : List Sign → List ℕ → ScheduleAnswer → Rowed
rowed signs store answer = record { signs = signs; store = store; answer = answer }

-- the record served is kept: `set` past the list's end, where nobody is served, leaves the list
abbrev pub kept_of : List Sign → Scheduling → Rowed
kept_of signs d = rowed (set signs d.number d.sign) d.store d.answer

-- the call with the list
abbrev pub schedule_of : Geometry → ℕ → List Sign → Queue → ℕ → List ℕ → List ℕ → List ℕ → Rowed
schedule_of g k signs queue last store image sram = kept_of signs (schedule_row_of g k signs (length signs) queue last store image sram)
