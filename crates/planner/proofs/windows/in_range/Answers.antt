-- Each window is judged.
use Rattle.std.proofs.Common.{◌∙◌, sym, rules, refl, arith}
use borrow.Author.Tests.{tests}
use Rattle.std.proofs.lemmas.Iterator.{YieldsList-from_range}
use Rattle.std.proofs.lemmas.Iterator.Search.{all_from_yields_List}
use Rattle.words.proofs.RangeLaws.{list_all-below}
use Rattle.planner.specs.Windows.{window_at, window_count_of, window_in_range_of, in_range_of}
use Rattle.planner.proofs.windows.in_range.Goals as goal

pub returns-then-numbers_in_range : goal.returns-then-numbers_in_range
unfolding in_range_of
returns-then-numbers_in_range c =
    let lent = c.args.windows.now in
    let n = window_count_of lent in
    let each = all_from_yields_List (λ i. window_in_range_of (window_at lent i)) _ _ c.all.result c.all.ensures.ran
    (YieldsList-from_range 0 n n refl (omega arith)) (λ x b q k. search (rules, tests)) in
    rw (sym c.numbers_in_range.ensures ∙ c.if-numbers_in_range.true) (each ∙ list_all-below (λ i. window_in_range_of (window_at lent i)) n)
