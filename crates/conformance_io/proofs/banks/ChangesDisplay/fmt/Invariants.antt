-- The changes so far are written, each after a blank.
use Rattle.std.proofs.Common.{take}
use Rattle.std.specs.Fmt.{HasWritten, IsPlainFormatter}
use Rattle.conformance_io.specs.Text.{changes_following}
use Rattle.conformance_io.proofs.banks.ChangesDisplay.fmt.Given as goal

abbrev pub invariant-loop-change : goal.invariant-loop-change
invariant-loop-change g l =
    IsPlainFormatter l.initial.f → HasWritten g.W.Write.write_str_gives l.initial.f (changes_following (take l.change-index l.change-items)) l.f
