-- One word more.
use mathlib.Core.Path.{refl}
use Rattle.std.proofs.Common.{[], ◌∷◌, append_assoc}
use Rattle.conformance_io.proofs.ChangesLaws.{as_before, next}
use Rattle.conformance_io.proofs.banks.BankChanges.push_to.Goals.{in-Some+in_ok-push, in_default}
use Rattle.conformance_io.proofs.banks.BankChanges.push_to.Goals as goal

pub loop-index-preserved : goal.loop-index-preserved
loop-index-preserved c =
    let a = c.args.self.now in
    elim c.match-change.branch [
      | in-Some+in_ok-push w ↦
          let more = next a.bank c.loop-index.index a.after.now a.before.now c.loop-index-test.true (w.in-Some.change ∷ []) w.in-Some.ensures in
          rw (w.all-is, w.in_ok-push.ensures.items, c.loop-index.invariant, more, append_assoc) refl
      | in_default w ↦
          rw (w.all-is, as_before a.bank c.loop-index.index a.after.now a.before.now c.loop-index-test.true w.in_default.ensures) c.loop-index.invariant
    ]
