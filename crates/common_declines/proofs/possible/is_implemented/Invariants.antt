-- Every row of the table that the loop has passed fits.
use Rattle.std.proofs.Common.{◌≡◌, true}
use Rattle.common_declines.specs.Possible.{rows_fit}
use Rattle.common_declines.proofs.possible.is_implemented.Given as goal

abbrev pub invariant-loop-number : goal.invariant-loop-number
invariant-loop-number l = rows_fit l.d l.number ≡ true
