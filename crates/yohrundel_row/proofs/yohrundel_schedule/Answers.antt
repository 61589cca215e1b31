-- The call on the records that were gathered is the call on the list, whose record that was served is kept.
use Rattle.std.proofs.Common.{Result, ◌≡◌, ℕ, List, length, set, ap, ◌∙◌, arith}
use Rattle.geometry.specs.declared.banks.Geometry.{Geometry}
use Rattle.row_signs.specs.declared.sign.Sign.{Sign}
use Rattle.row_signs.specs.declared.queue.Queue.{Queue}
use Rattle.row_signs.specs.Signs.{no_sign}
use Rattle.row_list.specs.List.{at_most, gathered}
use Rattle.row_list.proofs.ListLaws.{set_past}
use Rattle.words.specs.declared.decline.Decline.{Decline}
use Rattle.row_schedule.specs.declared.answer.ScheduleAnswer.{ScheduleAnswer}
use Rattle.row_schedule.specs.declared.answer.Scheduled.{Scheduled}
use Rattle.row_schedule.specs.Schedule.{answer_from, scheduling_from, schedule_row_of}
use Rattle.yohrundel_row.specs.Schedule.{rowed, kept_of, schedule_of}
use Rattle.yohrundel_row.proofs.RowLaws.{row_of_list}
use Rattle.yohrundel_row.proofs.yohrundel_schedule.Goals as goal
use Rattle.yohrundel_row.proofs.yohrundel_schedule.Goals.{in-Some, in_default}

whole_call : (g : Geometry) (k : ℕ) (ys : List Sign) (queue : Queue) (last : ℕ) (store image sram : List ℕ)
    (m : ℕ) (row : List Sign) (outcome : Result Scheduled Decline) (list : List Sign) (st : List ℕ) (answer : ScheduleAnswer)
    → m ≡ at_most (length ys) → row ≡ (gathered ys m).signs
    → scheduling_from (length ys) queue last outcome st ≡ schedule_row_of g k row (length ys) queue last store image sram
    → list ≡ set ys (scheduling_from (length ys) queue last outcome st).number (scheduling_from (length ys) queue last outcome st).sign
    → answer ≡ answer_from queue last outcome
    → rowed list st answer ≡ schedule_of g k ys queue last store image sram
whole_call g k ys queue last store image sram m row outcome list st answer few together called kept answered =
    rw (kept, answered) (ap (kept_of ys) called
    ∙ ap (λ (signs : List Sign). kept_of ys (schedule_row_of g k signs (length ys) queue last store image sram))
    (together ∙ ap (λ (n : ℕ). (gathered ys n).signs) few)
    ∙ ap (kept_of ys) (row_of_list g k ys queue last store image sram))

pub returns : goal.returns
returns c =
    whole_call _ _ _ _ _ _ _ _ _ _ c.schedule_row-outcome.result _ _ _ c.few.ensures.0 c.gather.ensures c.schedule_row-outcome.ensures
    (elim c.match-whom.branch [
      | in-Some w ↦ rw (← w.in-Some.ensures) (w.signs-is ∙ w.keep_sign.ensures)
      | in_default w ↦ rw (← w.in_default.ensures) (w.signs-is ∙ set_past c.args.signs.now (length c.args.signs.now) no_sign (omega arith))
    ]) c.of.ensures
