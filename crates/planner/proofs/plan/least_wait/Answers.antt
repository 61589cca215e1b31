-- The smallest of the waits by each window.
use Rattle.std.proofs.Common.{◌∙◌, rules, arith}
use borrow.Author.Tests.{tests}
use Rattle.std.proofs.lemmas.Iterator.{YieldsList-from_range}
use Rattle.std.proofs.lemmas.Iterator.Consumers.{YieldsList-from_filter_map}
use Rattle.planner.specs.Windows.{window_count_of}
use Rattle.planner.proofs.WeekLaws.{wait_at, smallest_of_chain, least_of_each}
use Rattle.planner.proofs.plan.least_wait.Goals as goal

pub returns : goal.returns
returns c =
    let a = c.args in
    let n = window_count_of a.windows.now in
    smallest_of_chain _ c.reduce.result c.reduce.ensures.ran
    (YieldsList-from_filter_map _ (wait_at a.minute a.duration a.windows.now) (YieldsList-from_range 0 n n c.filter_map.ensures.source (omega arith))
    c.filter_map.ensures.closure (λ x r q k. search (rules, tests))) (λ x y r q k. search (rules, tests))
    ∙ least_of_each a.minute a.duration a.windows.now n
