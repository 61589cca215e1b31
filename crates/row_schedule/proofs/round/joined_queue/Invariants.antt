-- The invariant: those of the records so far that begin to wait have joined.
use Rattle.std.proofs.Common.{false, get_or}
use Rattle.row_schedule.proofs.WaiterLaws.{Joining}
use Rattle.row_schedule.proofs.round.joined_queue.Given as goal

abbrev pub invariant-loop-j : goal.invariant-loop-j
invariant-loop-j l = Joining l.initial.waiting (λ i. get_or l.fn.begins i false) l.waiting l.j
