-- One word more, and at the end all of them.
use Rattle.std.proofs.Common.{arith, ◌∙◌}
use Rattle.std.proofs.lemmas.Grind.{common_steps}
use Rattle.conformance_io.proofs.ChangesLaws.{counted, counted_all}
use Rattle.conformance_io.proofs.banks.BankChanges.count.Goals as goal

pub loop-index-preserved : goal.loop-index-preserved
loop-index-preserved c =
    let a = c.args.self.now in
    let more = counted a.bank c.loop-index.index a.after.now a.before.now (omega arith) (omega arith) in
    let b = c.if-before-index.branch in
    grind (arith, common_steps)

pub returns-clause-all : goal.returns-clause-all
returns-clause-all c = c.loop-index.invariant.1 ∙ counted_all _ 0 _ _ _ (omega arith)
