-- Each record is judged.
use Rattle.std.proofs.Common.{◌/◌, length, rules, refl, arith}
use borrow.Author.Tests.{eq-eqb, tests}
use Rattle.std.proofs.lemmas.Iterator.{YieldsList-from_range}
use Rattle.std.proofs.lemmas.Iterator.Search.{all_from_yields_List}
use Rattle.script_format.specs.Records.{is_record_of, record_of, is_script_of}
use Rattle.words.proofs.RangeLaws.{list_all-below}
use Rattle.script_format.proofs.is_script.Goals as goal

pub returns-then-script-eq0 : goal.returns-then-script-eq0
unfolding is_script_of
returns-then-script-eq0 c =
    let script = c.args.script.now in
    let each = all_from_yields_List (λ i. is_record_of (record_of script i)) _ _ c.all.result c.all.ensures.ran
    (YieldsList-from_range 0 (length script / 8) (length script / 8) refl (omega arith)) (λ x b q k. search (rules, tests)) in
    rw (eq-eqb _ _ c.if-script-eq0.true, each, list_all-below (λ i. is_record_of (record_of script i)) (length script / 8))
