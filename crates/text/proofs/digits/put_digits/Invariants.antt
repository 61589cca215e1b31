-- The invariant: the digits that are left, written now, make what all make at the start.
use Rattle.std.proofs.Common.{◌≡◌, length}
use Rattle.std.proofs.lemmas.List.Edits.{sets}
use Rattle.text.specs.Digits.{digits_of}
use Rattle.text.proofs.digits.put_digits.Given as goal

abbrev pub invariant-loop-place : goal.invariant-loop-place
invariant-loop-place l =
    (length l.out ≡ length l.fn.out)
    × (sets l.out l.at (digits_of l.base l.rest l.place) ≡ sets l.fn.out l.at (digits_of l.base l.number l.count))
