-- Kinds of reset, by their numbers. Assumes nothing.
use Rattle.std.specs.Prelude.{ℕ, ◌<◌, ◌≡◌, Ok, Err, Result}
use Rattle.words.specs.declared.decline.Decline.{Decline}
use Rattle.resets.specs.declared.kind.Kind.{Kind}
use Rattle.resets.specs.declared.kind.Kind.TheVariants.{PowerOn, BrownOut, Other}

-- "Kinds: 0 power-on, 1 brown-out, 2 other."
abbrev pub kind_number_of : Kind → ℕ
kind_number_of PowerOn = 0
kind_number_of BrownOut = 1
kind_number_of Other = 2

-- the kind that has the number; "7. A reset kind above 2."
abbrev pub KindOf : ℕ → Result Kind Decline → Type 0
KindOf number (Ok kind) = number ≡ kind_number_of kind
KindOf number (Err e) = (2 < number) × (e ≡ Decline.ResetKind)
