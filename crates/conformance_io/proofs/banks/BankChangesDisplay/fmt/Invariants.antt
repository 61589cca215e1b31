-- The changes so far are written.
use Rattle.std.proofs.Common.{take}
use Rattle.std.specs.Fmt.{HasWritten, IsPlainFormatter}
use Rattle.conformance_io.specs.Changes.{changes_from}
use Rattle.conformance_io.specs.Text.{changes_following}
use Rattle.conformance_io.proofs.banks.BankChangesDisplay.fmt.Given as goal

abbrev pub invariant-loop-index : goal.invariant-loop-index
invariant-loop-index g l =
    IsPlainFormatter l.initial.f
    → HasWritten g.W.Write.write_str_gives l.initial.f (changes_following (changes_from l.self.bank 0 (take l.index l.word-items) l.self.before.now)) l.f
