-- The record that is met next is served, or marked if it begins to wait.
use Rattle.std.proofs.Common.{sym, subst, arith, lt-ltb, le-ltb, List, Bool, ◌+◌}
use Rattle.row_choice.proofs.RoundLaws.{met_below}
use Rattle.row_schedule.specs.Calls.{stands_at}
use Rattle.row_schedule.proofs.JudgedLaws.{sound, last_inside}
use Rattle.row_schedule.proofs.RoundLaws.{Searching, search_starts, search_passed, search_waits, search_ends, standing_served, standing_waits, standing_passed}
use Rattle.row_schedule.proofs.judged.Judged.search.Goals as goal
use Rattle.row_schedule.proofs.judged.Judged.search.Goals.{in-Waits, in-Passed}

pub loop-i-init : goal.loop-i-init
loop-i-init c =
    let s = c.args.self.now in
    search_starts s.row.now.count s.row.now.last (sound s).few (last_inside s) (stands_at s c.args.full)

pub overflow_add-j-in-loop-i : goal.overflow_add-j-in-loop-i
overflow_add-j-in-loop-i c =
    let few = (sound c.args.self.now).few in
    let inside = last_inside c.args.self.now in
    omega arith

pub bounds-begins-j : goal.bounds-begins-j
bounds-begins-j c =
    let few = (sound c.args.self.now).few in
    let below = met_below c.args.self.now.row.now.count c.args.self.now.row.now.last (last_inside c.args.self.now) c.loop-i.i in
    omega arith

pub returns-in-Served-clause-told : goal.returns-in-Served-clause-told
returns-in-Served-clause-told c =
    let s = c.args.self.now in
    let l = c.loop-i in
    search_ends s.row.now.count s.row.now.last (sound s).few (last_inside s) (stands_at s c.args.full) l.begins l.i l.invariant
    (λ below. standing_served _ (sym c.in-Served.ensures)) _ (rw (lt-ltb l.i s.row.now.count c.loop-i-test.true))

pub loop-i-preserved : goal.loop-i-preserved
loop-i-preserved c =
    let s = c.args.self.now in
    let n = s.row.now.count in
    let last = s.row.now.last in
    let l = c.loop-i in
    let stands = stands_at s c.args.full in
    elim c.match-stand.branch [
      | in-Waits w ↦
          let h = standing_waits _ (sym w.in-Waits.ensures) in
          subst (λ (b : List Bool). Searching n last stands b (l.i + 1)) (sym w.begins-is)
          (search_waits n last (sound s).few (last_inside s) stands l.begins l.i l.invariant c.loop-i-test.true h.0 h.1)
      | in-Passed w ↦
          let h = standing_passed _ (sym w.in-Passed.ensures) in
          subst (λ (b : List Bool). Searching n last stands b (l.i + 1)) (sym w.begins-is)
          (search_passed n last (sound s).few (last_inside s) stands l.begins l.i l.invariant c.loop-i-test.true h.0 h.1)
    ]

pub returns-clause-told : goal.returns-clause-told
returns-clause-told c =
    let s = c.args.self.now in
    let l = c.loop-i in
    search_ends s.row.now.count s.row.now.last (sound s).few (last_inside s) (stands_at s c.args.full) l.begins l.i l.invariant
    (λ below. absurd (omega (arith, below))) _ (rw (le-ltb l.i s.row.now.count c.loop-i-test.false))
