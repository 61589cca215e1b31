-- Both tests of the turn's effect.
use Rattle.std.proofs.Common.{refl, Ok}
use Rattle.update.specs.Answers.{turn_effect_from}
use Rattle.row_turn.proofs.LookLaws.{looked, declined_look}
use Rattle.row_turn.proofs.Shared.look_at.Goals as goal

pub returns-in-Err : goal.returns-in-Err
returns-in-Err c =
    let a = c.args.self.now in
    declined_look a.layout.geometry a.store.now a.image.now a.sram.now c.args.s _ c.in-Err.ensures.result_value

pub returns-in-Ok : goal.returns-in-Ok
returns-in-Ok c =
    let a = c.args.self.now in
    let s = c.args.s in
    looked a.layout.geometry a.store.now a.image.now a.sram.now s (turn_effect_from s.device s.place (Ok c.in-Ok.change)) c.in-Ok.ensures.result_value
    _ refl _ (rw (c.has.ensures, c.has-in-Ok.ensures) refl)
