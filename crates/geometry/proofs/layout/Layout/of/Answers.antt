-- A geometry in range, as facts.
use Rattle.std.proofs.Common.{sym, ◌∙◌}
use Rattle.geometry.proofs.SizeLaws.{in-range}
use Rattle.geometry.proofs.layout.Layout.of.Goals as goal

pub invariant_of-result : goal.invariant_of-result
invariant_of-result c = record { in_range = in-range _ (sym c.in_range.ensures ∙ c.if-in_range.true) }
