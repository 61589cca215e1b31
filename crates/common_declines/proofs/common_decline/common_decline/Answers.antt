-- Where no decline applies the geometry is in range.
use Rattle.std.proofs.Common.{sym, ap, ◌∙◌}
use Rattle.words.specs.Decline.{accepted_of}
use Rattle.common_declines.proofs.CommonDeclineLaws.{ready}
use Rattle.common_declines.proofs.common_decline.common_decline.Goals as goal

pub invariant_of-result : goal.invariant_of-result
invariant_of-result c = record { in_range = (ready _ _ _ _ (ap accepted_of (sym c.common_verdict.ensures ∙ c.in_ok-common_verdict.was))).lent.range }
