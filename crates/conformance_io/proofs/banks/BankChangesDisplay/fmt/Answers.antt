-- One word more, and at the end all of them.
use Rattle.std.proofs.Common.{rules, sym}
use Rattle.std.proofs.lemmas.Grind.{put_two}
use Rattle.std.proofs.lemmas.List.{take_all}
use Rattle.conformance_io.proofs.ChangesLaws.{as_before, one_more}
use Rattle.conformance_io.proofs.banks.BankChangesDisplay.fmt.Goals.{in-Some+in_ok-put_change, in_default}
use Rattle.conformance_io.proofs.banks.BankChangesDisplay.fmt.Goals as goal

pub loop-index-preserved : goal.loop-index-preserved
loop-index-preserved g c plain =
    let a = c.args.self.now in
    elim c.match-change.branch [
      | in-Some+in_ok-put_change w ↦
          rw w.f-is (put_two _ _ _ w.put_change.new.f _ _ _ (c.loop-index.invariant plain) (w.put_change.ensures (search rules) (search rules))
          (one_more a.bank c.loop-index.index a.after.now a.before.now c.loop-index-test.true w.in-Some.change w.in-Some.ensures))
      | in_default w ↦
          rw (w.f-is, as_before a.bank c.loop-index.index a.after.now a.before.now c.loop-index-test.true w.in_default.ensures) (c.loop-index.invariant plain)
    ]

pub returns-clause-writes : goal.returns-clause-writes
returns-clause-writes g c plain ok =
    rw (sym (take_all c.loop-index.index c.args.self.now.after.now c.loop-index-test.false)) (c.loop-index.invariant plain)
