-- Numbers out of range decide, and else the least wait by all windows.
use Rattle.std.proofs.Common.{◌∙◌, sym}
use Rattle.planner.proofs.RangeLaws.{facts}
use Rattle.planner.proofs.PlanLaws.{plan_out}
use Rattle.planner.proofs.WeekLaws.{plan_least}
use Rattle.planner.proofs.plan.plan.Goals as goal

pub returns-then-not-in_range : goal.returns-then-not-in_range
returns-then-not-in_range c = plan_out _ _ _ (sym c.in_range.ensures ∙ c.if-not-in_range.true)

pub least_wait-requires : goal.least_wait-requires
least_wait-requires c = facts _ _ _ (sym c.in_range.ensures ∙ c.if-not-in_range.false)

pub returns : goal.returns
returns c = rw (c.ok_or.ensures.value, c.least_wait.ensures) (plan_least _ _ _ (sym c.in_range.ensures ∙ c.if-not-in_range.false))
