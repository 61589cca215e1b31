-- A call that is not declined has a sound row and queue.
use Rattle.std.proofs.Common.{sym, ap, ◌∙◌}
use Rattle.words.specs.Decline.{verdict_from, accepted_of}
use Rattle.row_schedule.proofs.ServeLaws.{row-sound}
use Rattle.row_schedule.proofs.schedule_row.Goals as goal

pub serve_choice-requires-clause-row_sound : goal.serve_choice-requires-clause-row_sound
serve_choice-requires-clause-row_sound c =
    let a = c.args in
    let row = a.row.now in
    let accepted = ap accepted_of (sym c.row_decline.ensures.verdict ∙ ap verdict_from c.in_ok-layout.was) in
    rw c.in_ok-layout.ensures.layout (row-sound a.g a.k row.signs row.count row.queue row.last a.store.now a.image.now a.sram.now accepted)
