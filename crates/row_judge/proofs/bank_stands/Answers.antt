-- The banks before it, as a list of their starts.
use Rattle.std.proofs.Common.{◌∙◌, get_or, le-leb, arith}
use Rattle.row_signs.proofs.ListLaws.{all_taken}
use Rattle.row_judge.specs.Judge.{apart_of, bank_stands_of}
use Rattle.row_judge.proofs.bank_stands.Goals as goal

pub returns-then-at-words : goal.returns-then-at-words
unfolding bank_stands_of
returns-then-at-words c =
    let a = c.args in
    let at = get_or a.starts.now a.b 0 in
    rw (le-leb _ _ c.if-at-words.true) (c.apart_from_all.ensures ∙ all_taken (λ start. apart_of a.words start at) a.starts.now 0 a.b (omega arith))
