-- Declined, or counted: an accepted play writes one line for each record.
use Rattle.std.proofs.Common.{sym, ap, ◌∙◌}
use Rattle.words.specs.Decline.{accepted_of}
use Rattle.device.specs.State.{state}
use Rattle.script_play.proofs.PlayLaws.{length-accepted}
use Rattle.script_play.proofs.play_length.Goals as goal

pub returns : goal.returns
returns c =
    let a = c.args in
    let accepted = ap accepted_of (sym c.play_decline.ensures ∙ c.in_ok-play_decline.was) in
    let whole = length-accepted a.g a.sram.now (state a.d a.one.now a.two.now) a.script.now accepted in
    rw (whole, c.lines_length.ensures)
