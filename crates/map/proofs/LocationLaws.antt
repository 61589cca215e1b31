-- A location that is inside a window is there. Assumes nothing.
use mathlib.Core.Path.{◌≡◌, refl, sym, ap, ◌∙◌}
use mathlib.Core.Bool.{true}
use Rattle.std.specs.Prelude.{Option, Some, None}
use Rattle.std.specs.Option.{IsSome}
use Rattle.words.proofs.BitLaws.{true_not_false}
use Rattle.map.specs.declared.Location as code
use Rattle.map.specs.Windows.{Location}
use Rattle.map.specs.Location.{location_of}

pub found : (l : Option code.Location) (m : Location) → location_of l ≡ m → m.inside ≡ true → IsSome l
found (Some l) m same inside = refl
found None m same inside = true_not_false (sym (ap (λ (n : Location). n.inside) same ∙ inside))
