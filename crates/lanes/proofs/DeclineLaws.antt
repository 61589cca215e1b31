-- When a way out or back is declined, and what an accepted one tells of the two lengths.
-- Assumes nothing.
use mathlib.Core.Path.{◌≡◌, refl}
use Rattle.std.specs.Prelude.{Ok, Err}
use mathlib.Core.Bool.{Bool, true, false, ◌&&◌}
use Prim.Native.Nat.{ℕ, ◌*◌, ◌/◌, ◌%◌}
use native.Mathlib.Decide.{ℕ_discrete}
use native.Mathlib.Omega.{arith}
use borrow.Author.Tests.{eqb-true, eq-eqb, ne_eqb}
use lib.Dec.{eqb}
use Rattle.words.specs.declared.decline.Decline.{Decline}
use Rattle.words.specs.Decline.{accepted_of}
use Rattle.words.proofs.DeclineLaws.{held}
use Rattle.words.proofs.PickLaws.{and_both}
use Rattle.lanes.specs.Lanes.{lanes_decline_of}

pub unequal_declined : (source target : ℕ) → (source ≡ target → ⊥) → lanes_decline_of source target ≡ Err Decline.Lanes
unfolding lanes_decline_of
unequal_declined source target unequal = rw (ne_eqb source target unequal)

pub uneven_declined : (source target : ℕ) → (source % 4 ≡ 0 → ⊥) → lanes_decline_of source target ≡ Err Decline.Lanes
unfolding lanes_decline_of
uneven_declined source target uneven = rw (ne_eqb (source % 4) 0 uneven, and-false (eqb source target))
  where
    and-false : (t : Bool) → (t && false) ≡ false
    and-false true = refl
    and-false false = refl

pub even_accepted : (source target : ℕ) → source ≡ target → source % 4 ≡ 0 → lanes_decline_of source target ≡ Ok tt
unfolding lanes_decline_of
even_accepted source target same even = rw (eq-eqb source target same, eq-eqb (source % 4) 0 even)

pub accepted_lengths : (source target : ℕ) → accepted_of (lanes_decline_of source target) ≡ true
    → (source ≡ 4 * (source / 4)) × (target ≡ 4 * (source / 4))
unfolding lanes_decline_of
accepted_lengths source target h =
    let (same, even) = and_both (eqb source target) (eqb (source % 4) 0) (held _ _ _ refl h).0 in
    let e = eqb-true (source % 4) 0 even in
    (omega arith, omega (arith, eqb-true source target same))

-- where there is no n for which both lengths are 4×n
pub declined_lengths : (source target : ℕ) → ((n : ℕ) → source ≡ 4 * n → target ≡ 4 * n → ⊥) → lanes_decline_of source target ≡ Err Decline.Lanes
declined_lengths source target none = go (ℕ_discrete source target) (ℕ_discrete (source % 4) 0)
  where
    go : Dec (source ≡ target) → Dec (source % 4 ≡ 0) → lanes_decline_of source target ≡ Err Decline.Lanes
    go (no unequal) even = unequal_declined source target unequal
    go (yes same) (no uneven) = uneven_declined source target uneven
    go (yes same) (yes even) = absurd (none (source / 4) (omega (arith, even)) (omega (arith, even, same)))
