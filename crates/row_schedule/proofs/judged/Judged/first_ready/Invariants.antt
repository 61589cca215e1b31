-- The invariant: no entry so far can be served.
use Rattle.std.proofs.Common.{ℕ, ◌<◌, ◌≡◌, false, get_or}
use Rattle.row_schedule.specs.Calls.{known_at}
use Rattle.row_schedule.proofs.judged.Judged.first_ready.Given as goal

abbrev pub invariant-loop-p : goal.invariant-loop-p
invariant-loop-p l = (q : ℕ) → q < l.p → (known_at l.self).can (get_or l.self.row.now.queue.numbers q 0) ≡ false
