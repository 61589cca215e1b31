-- With K or more set the search alone; else the queue first.
use Rattle.std.proofs.Common.{arith}
use Rattle.row_schedule.proofs.JudgedLaws.{sound, waiting, full_search, none_search, from_queue, entry_inside}
use Rattle.row_schedule.proofs.judged.Judged.choose.Goals as goal

pub set_count-requires : goal.set_count-requires
set_count-requires c = (sound c.args.self.now).few

pub without-requires : goal.without-requires
without-requires c = (waiting c.args.self.now).room

pub bounds-self-p : goal.bounds-self-p
bounds-self-p c =
    let room = (waiting c.args.self.now).room in
    let inside = entry_inside c.args.self.now c.in-Some.p c.in-Some.ensures in
    omega (arith, inside.0, room)

pub offset_bounds-self-p : goal.offset_bounds-self-p
offset_bounds-self-p c =
    let room = (waiting c.args.self.now).room in
    let inside = entry_inside c.args.self.now c.in-Some.p c.in-Some.ensures in
    omega (arith, inside.0, room)

pub returns-then-full-clause-value : goal.returns-then-full-clause-value
returns-then-full-clause-value c =
    full_search c.args.self.now _ c.set_count.ensures c.if-full.true _ c.from_round.ensures.value

pub returns-in-Some-clause-value : goal.returns-in-Some-clause-value
returns-in-Some-clause-value c =
    from_queue c.args.self.now _ c.set_count.ensures c.if-full.false c.in-Some.p c.in-Some.ensures _ c.without.ensures

pub returns-in-Some-clause-listed : goal.returns-in-Some-clause-listed
returns-in-Some-clause-listed c = (entry_inside c.args.self.now c.in-Some.p c.in-Some.ensures).1

pub returns-in-None-clause-value : goal.returns-in-None-clause-value
returns-in-None-clause-value c =
    none_search c.args.self.now _ c.set_count.ensures c.in-None.ensures _ c.from_round-in-None.ensures.value
