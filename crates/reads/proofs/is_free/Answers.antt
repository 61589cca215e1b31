-- Past the first test an operation runs.
use Rattle.std.proofs.Common.{sym, ◌∙◌}
use Rattle.flash.proofs.AcceptedLaws.{runs}
use Rattle.reads.proofs.is_free.Goals as goal

pub step_location-requires : goal.step_location-requires
step_location-requires c = runs c.args.layout.geometry c.args.d c.args.layout.in_range c.requires (sym c.has.ensures ∙ c.if-not-has.false)
