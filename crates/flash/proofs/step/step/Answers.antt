-- Declined, or carried out and written.
use Rattle.std.proofs.Common.{sym, ap, ◌∙◌}
use Rattle.words.specs.Decline.{verdict_from, accepted_of}
use Rattle.flash.proofs.step.step.Goals as goal

pub step_accepted-requires : goal.step_accepted-requires
step_accepted-requires c =
    rw c.in_ok-layout.ensures.layout (ap accepted_of (sym c.step_decline.ensures.verdict ∙ ap verdict_from c.in_ok-layout.was))
