-- The entries after it move up, where it is one of those that wait; what stands past the count is 0 then.
use Rattle.std.proofs.Common.{◌≡◌, ◌∙◌, ap, length, arith}
use Rattle.row_queue.specs.Waiting.{without_of}
use Rattle.row_queue.proofs.QueueLaws.{cleared, moved_up, none_left}
use Rattle.row_queue.proofs.without.Goals as goal
use Rattle.row_queue.proofs.without.Goals.{then-p-count, else-p-count}

pub returns : goal.returns
unfolding without_of
returns c =
    let queue = c.args.queue in
    let room : length queue.numbers ≡ 32 = omega arith in
    let zeros = c.fill.ensures.after (λ y e. e) in
    elim c.if-p-count.branch [
      | then-p-count w ↦
          cleared c.if-p-count.numbers (ap length w.numbers-is ∙ w.copy_within.ensures.len ∙ room) c.if-p-count.count (omega arith) _
          (rw (w.count-is, w.numbers-is, w.copy_within.ensures.after)
          (moved_up queue.numbers room queue.count c.args.p c.requires w.if-p-count.true)) _ zeros
      | else-p-count w ↦
          cleared c.if-p-count.numbers (ap length w.numbers-is ∙ room) c.if-p-count.count (omega arith) _
          (rw (w.count-is, w.numbers-is) (none_left queue.numbers room queue.count c.args.p c.requires w.if-p-count.false)) _ zeros
    ]
