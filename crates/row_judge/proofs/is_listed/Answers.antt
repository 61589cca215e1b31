-- The first p entries, as a list.
use Rattle.std.proofs.Common.{◌∙◌, nat_eq, arith}
use Rattle.row_signs.proofs.ListLaws.{any_taken}
use Rattle.row_judge.proofs.is_listed.Goals as goal

pub returns : goal.returns
returns c =
    let a = c.args in
    c.contains.ensures.value ∙ any_taken (λ number. nat_eq number a.«record») a.queue.now.numbers 0 a.p (omega arith)
