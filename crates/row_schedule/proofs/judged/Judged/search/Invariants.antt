-- The invariant: none met so far is served, and those that begin to wait are marked.
use Rattle.row_schedule.specs.Calls.{stands_at}
use Rattle.row_schedule.proofs.RoundLaws.{Searching}
use Rattle.row_schedule.proofs.judged.Judged.search.Given as goal

abbrev pub invariant-loop-i : goal.invariant-loop-i
invariant-loop-i l = Searching l.n l.self.row.now.last (stands_at l.self l.full) l.begins l.i
