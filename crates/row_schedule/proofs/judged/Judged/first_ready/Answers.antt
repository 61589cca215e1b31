-- The first entry that can be served; at the end there is none.
use Rattle.std.proofs.Common.{◌∙◌, get_or, sym, ap, arith}
use Rattle.row_turn.specs.declared.Look.{Look}
use Rattle.row_schedule.specs.Calls.{known_at}
use Rattle.row_schedule.proofs.ChoiceLaws.{none_more}
use Rattle.row_schedule.proofs.JudgedLaws.{sound, waiting, number_is, number_inside, first_some, first_none}
use Rattle.row_schedule.proofs.judged.Judged.first_ready.Goals as goal

pub waiting-number-items-requires : goal.waiting-number-items-requires
waiting-number-items-requires c = (waiting c.args.self.now).room

pub bounds-self-number : goal.bounds-self-number
bounds-self-number c =
    let few = (sound c.args.self.now).few in
    let inside = number_inside c.args.self.now _ c.waiting-number-items.ensures c.loop-p.p c.loop-p-test.true in
    omega arith

pub look_at-requires : goal.look_at-requires
look_at-requires c =
    (sound c.args.self.now).lies _ (number_inside c.args.self.now _ c.waiting-number-items.ensures c.loop-p.p c.loop-p-test.true)

pub returns-then-look_at : goal.returns-then-look_at
returns-then-look_at c =
    first_some c.args.self.now _ c.waiting-number-items.ensures c.loop-p.p c.loop-p-test.true
    (sym (ap (λ (l : Look). l.can) c.look_at.ensures) ∙ c.if-look_at.true) c.loop-p.invariant

pub loop-p-preserved : goal.loop-p-preserved
loop-p-preserved c =
    let s = c.args.self.now in
    none_more (λ q. (known_at s).can (get_or s.row.now.queue.numbers q 0)) c.loop-p.p c.loop-p.invariant
    (rw (number_is s _ c.waiting-number-items.ensures c.loop-p.p c.loop-p-test.true)
    at (sym (ap (λ (l : Look). l.can) c.look_at.ensures) ∙ c.if-look_at.false))

pub returns : goal.returns
returns c = first_none c.args.self.now _ c.waiting-number-items.ensures c.loop-p.p (omega arith) c.loop-p.invariant
