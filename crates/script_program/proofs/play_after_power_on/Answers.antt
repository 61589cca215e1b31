-- The banks are those of the definition.
use Rattle.std.proofs.Common.{ap}
use Rattle.std.proofs.lemmas.Result.{err_from_is_err_and}
use Rattle.script_play.specs.Play.{Playback}
use Rattle.script_program.proofs.play_after_power_on.Goals as goal

pub returns-clause-decline_value : goal.returns-clause-decline_value
returns-clause-decline_value c = ap (λ (p : Playback). p.decline) (rw c.power_on.ensures at c.in_ok-played.ensures)

pub returns-in_err-played-clause-decline_value : goal.returns-in_err-played-clause-decline_value
returns-in_err-played-clause-decline_value c =
    let p = err_from_is_err_and c.from_residual.result c.from_residual.ensures.1 in
    rw (p.1, p.2) (ap (λ (p : Playback). p.decline) (rw c.power_on.ensures at c.in_err-played.ensures))
