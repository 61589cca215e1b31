-- No plus sign stands in front where the text is parsed.
use Rattle.std.proofs.Common.{◌∙◌, ◌≢◌, arith, get_or}
use Rattle.std.proofs.lemmas.Grind.{common_steps}
use Rattle.conformance_lists.proofs.NumberLaws.{parsed}
use Rattle.conformance_lists.proofs.line.number.Goals as goal

pub returns : goal.returns
returns c =
    let tested = c.starts_with.ensures.byte (omega arith) (omega arith) (λ w o h. h) in
    let plain : get_or c.args.word.now 0 0 ≢ 43 = grind (arith, common_steps) in
    c.ok.ensures.value ∙ parsed c.args.word.now _ c.parse.ensures.value.0 plain
