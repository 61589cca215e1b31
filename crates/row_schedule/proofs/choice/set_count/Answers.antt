-- Those of the first records whose WR is set, in the words of the library.
use Rattle.std.proofs.Common.{rules, ◌≡◌, ◌∙◌, count_by, take, length-take, arith}
use Rattle.device.specs.Record.{running}
use Rattle.row_schedule.proofs.ChoiceLaws.{counted_taken}
use Rattle.row_schedule.proofs.choice.set_count.Goals as goal

pub returns : goal.returns
returns c =
    let row = c.args.row.now in
    let count : c.count.result ≡ count_by (λ s. running s.device) (take row.count row.signs) = search rules in
    count ∙ counted_taken (λ s. running s.device) row.signs row.count (omega (arith, length-take row.count row.signs))
