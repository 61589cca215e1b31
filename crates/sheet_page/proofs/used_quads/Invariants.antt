-- The invariant: those of the quads so far that are not blank.
use Rattle.std.proofs.Common.{◌≡◌}
use Rattle.sheet_page.specs.State.{used_quads_of}
use Rattle.sheet_page.proofs.used_quads.Given as goal

abbrev pub invariant-loop-i : goal.invariant-loop-i
invariant-loop-i l = l.quads ≡ used_quads_of l.bank l.first l.i
