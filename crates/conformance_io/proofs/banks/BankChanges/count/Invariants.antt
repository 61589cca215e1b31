-- The words without one before, and the changes so far are counted.
use Rattle.std.proofs.Common.{◌≡◌, ◌≤◌, ◌+◌, ◌-◌, take, length}
use Rattle.conformance_io.specs.Changes.{changes_from}
use Rattle.conformance_io.proofs.banks.BankChanges.count.Given as goal

abbrev pub invariant-loop-index : goal.invariant-loop-index
invariant-loop-index l =
    let more = length l.after - length l.before in
    (l.count ≤ more + l.index) × (l.count ≡ more + length (changes_from l.self.bank 0 (take l.index l.after) l.before))
