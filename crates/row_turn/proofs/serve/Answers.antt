-- The effect, written into the store; nothing where the turn is declined.
use Rattle.std.proofs.Common.{Ok}
use Rattle.update.specs.Answers.{turn_effect_from}
use Rattle.row_turn.proofs.LookLaws.{served, declined_serve}
use Rattle.row_turn.proofs.serve.Goals as goal

pub returns-in_default : goal.returns-in_default
returns-in_default c =
    let a = c.args in
    declined_serve a.layout.geometry a.store.now a.image.now a.sram.now a.s _ c.in_default.ensures.result_value c.requires

pub returns : goal.returns
returns c =
    let a = c.args in
    served a.layout.geometry a.store.now a.image.now a.sram.now a.s (turn_effect_from a.s.device a.s.place (Ok c.in-Ok.change)) c.in-Ok.ensures.result_value
    _ c.bank_words.ensures _ c.put_write.ensures
