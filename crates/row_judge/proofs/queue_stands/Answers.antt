-- An entry that does not stand decides.
use Rattle.std.proofs.Common.{◌≡◌, false, sym, ◌∙◌, le-leb}
use Rattle.words.proofs.PickLaws.{not_all_below}
use Rattle.row_judge.specs.Judge.{entry_stands_of, queue_stands_of}
use Rattle.row_judge.proofs.queue_stands.Goals as goal

pub returns-then-not-entry_stands : goal.returns-then-not-entry_stands
unfolding queue_stands_of
returns-then-not-entry_stands c =
    let fails : entry_stands_of c.args.queue.now c.args.n c.loop-p.p ≡ false =
    sym c.entry_stands.ensures ∙ c.if-not-entry_stands.true in
    rw (
      le-leb _ _ c.if-count-gt-MOST.false,
      not_all_below (entry_stands_of c.args.queue.now c.args.n) _ c.loop-p.p c.loop-p-test.true fails,
    )
