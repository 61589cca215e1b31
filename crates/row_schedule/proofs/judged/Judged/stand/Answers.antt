-- What the look tells, and whether the record waits.
use Rattle.std.proofs.Common.{arith}
use Rattle.row_schedule.proofs.JudgedLaws.{sound, waiting, standing_at}
use Rattle.row_schedule.proofs.judged.Judged.stand.Goals as goal

pub offset_bounds-self-j : goal.offset_bounds-self-j
offset_bounds-self-j c = let few = (sound c.args.self.now).few in omega arith

pub bounds-self-j : goal.bounds-self-j
bounds-self-j c = let few = (sound c.args.self.now).few in omega arith

pub look_at-look-requires : goal.look_at-look-requires
look_at-look-requires c = (sound c.args.self.now).lies c.args.j c.requires

pub waiting-requires : goal.waiting-requires
waiting-requires c = (waiting c.args.self.now).room

pub overflow_cast-j : goal.overflow_cast-j
overflow_cast-j c = let few = (sound c.args.self.now).few in omega arith

pub returns-then-not-free : goal.returns-then-not-free
returns-then-not-free c =
    let a = c.args in
    rw c.if-not-free.true
    at (standing_at a.self.now a.full a.j _ c.look_at-look.ensures _ c.waiting.ensures _ c.contains-waits.ensures.value)

pub returns-then-held : goal.returns-then-held
returns-then-held c =
    let a = c.args in
    rw (c.if-not-free.false, c.if-held.true)
    at (standing_at a.self.now a.full a.j _ c.look_at-look.ensures _ c.waiting.ensures _ c.contains-waits.ensures.value)

pub returns-else-held : goal.returns-else-held
returns-else-held c =
    let a = c.args in
    rw (c.if-not-free.false, c.if-held.false)
    at (standing_at a.self.now a.full a.j _ c.look_at-look.ensures _ c.waiting.ensures _ c.contains-waits.ensures.value)
