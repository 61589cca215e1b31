-- The record that is served, and what a call tells that is not declined. Assumes nothing.
use Prim.Native.Nat.{ℕ, ◌<◌}
use mathlib.Core.Path.{◌≡◌, ap, ◌∙◌}
use mathlib.Core.Bool.{true}
use mathlib.Core.List.{List}
use lib.ListN.{length}
use borrow.Author.Tests.{lt-ltb}
use Rattle.words.specs.Decline.{accepted_of}
use Rattle.geometry.specs.declared.banks.Geometry.{Geometry}
use Rattle.geometry.proofs.SizeLaws.{in-range}
use Rattle.row_signs.specs.declared.sign.Sign.{Sign}
use Rattle.row_signs.specs.declared.queue.Queue.{Queue}
use Rattle.row_signs.specs.Signs.{sign_at}
use Rattle.row_judge.specs.Judge.{row_decline_of, Judged}
use Rattle.row_judge.proofs.JudgeLaws.{stands}
use Rattle.row_turn.specs.declared.SignTurned.{SignTurned}
use Rattle.row_turn.specs.SignTurn.{SignTurning, sign_turning, sign_turning_of}
use Rattle.row_schedule.specs.Round.{Choice, RowSound, QueueSound}
use Rattle.row_schedule.specs.Schedule.{known_of, choice_of, Scheduling, scheduling, served, served_sign}
use Rattle.row_schedule.specs.Schedule.{serving_of, schedule_row_of}

pub sign_served : (g : Geometry) (signs : List Sign) (n : ℕ) (choice : Choice) (last : ℕ) (store image sram : List ℕ) (turned : SignTurned) (after : List ℕ)
    → sign_turning turned after ≡ sign_turning_of g store image sram (sign_at signs choice.served) → choice.served < n
    → scheduling choice.served turned.sign after (served choice.served turned.event choice.queue)
    ≡ serving_of g signs n choice last store image sram
unfolding serving_of
sign_served g signs n choice last store image sram turned after e l =
    rw (lt-ltb choice.served n l) (ap (λ (t : SignTurning). served_sign choice.served t choice.queue) e)

-- what the functions ask for, of a call that is not declined
module _ (g : Geometry) (k : ℕ) (signs : List Sign) (n : ℕ) (queue : Queue) (last : ℕ) (store image sram : List ℕ)
    (accepted : accepted_of (row_decline_of g k signs n queue last (length store) (length image) (length sram)) ≡ true) where
  judged : Judged g k signs n queue last (length store) (length image) (length sram)
  judged = stands g k signs n queue last (length store) (length image) (length sram) accepted

  pub row-sound : RowSound g store signs n
  row-sound =
      record {
        range = in-range g judged.listed;
        some = judged.n_low;
        few = judged.n_high;
        lies = λ j l. record { first = judged.one_lies j l; other = judged.two_lies j l; apart = judged.own_apart j l };
      }

  pub queue-sound : QueueSound queue n × (last < n)
  queue-sound = (record { room = judged.count_high; inside = judged.entry_below; apart = judged.entries_differ }, judged.last_below)

  -- the choice is served
  pub row_served : (choice : Choice) → choice ≡ choice_of (known_of g k signs n queue last store image sram) → (after : Scheduling)
      → after ≡ serving_of g signs n choice last store image sram → after ≡ schedule_row_of g k signs n queue last store image sram
  unfolding schedule_row_of
  row_served choice ec after e = rw accepted (e ∙ ap (λ (c : Choice). serving_of g signs n c last store image sram) ec)
