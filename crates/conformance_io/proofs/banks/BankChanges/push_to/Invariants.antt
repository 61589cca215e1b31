-- The changes so far stand after those that were there.
use Rattle.std.proofs.Common.{◌≡◌, ◌++◌, take}
use Rattle.conformance_io.specs.Changes.{changes_from}
use Rattle.conformance_io.proofs.banks.BankChanges.push_to.Given as goal

abbrev pub invariant-loop-index : goal.invariant-loop-index
invariant-loop-index l = l.all.items ≡ l.fn.all.items ++ changes_from l.self.bank 0 (take l.index l.word-items) l.self.before.now
