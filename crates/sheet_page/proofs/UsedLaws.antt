-- The count of the quads that are not blank is the length of their list: a quad that is blank leaves both as they are. Assumes nothing.
use mathlib.Core.Path.{◌≡◌, refl}
use mathlib.Core.Bool.{Bool, true, false}
use mathlib.Core.List.{List, [], ◌∷◌, ◌++◌}
use Prim.Native.Nat.{ℕ, zero, suc, ◌+◌}
use native.Mathlib.Omega.{arith}
use lib.ListN.{length, length-append}
use Rattle.words.specs.Lists.{Ascending}
use Rattle.words.specs.Quad.{quad_at, is_blank_of}
use Rattle.words.proofs.AscendingLaws.{ascending_none, ascending_stays, ascending_more}
use Rattle.sheet_page.specs.State.{used_quads_of}

-- those of n quads of which P holds, as many as the sheet counts
pub record Listed (P : ℕ → Type 0) (bank : List ℕ) (first n : ℕ) : Type 0 where
  pub quads : List ℕ
  pub each : Ascending P n quads
  pub count : length quads ≡ used_quads_of bank first n

-- where P holds of the quads that are not blank, and of no other
pub listed : (P : ℕ → Type 0) (bank : List ℕ) (first : ℕ) → ((j : ℕ) → is_blank_of (quad_at bank (first + j)) ≡ false → P j)
    → ((j : ℕ) → is_blank_of (quad_at bank (first + j)) ≡ true → P j → ⊥) → (n : ℕ) → Listed P bank first n
listed P bank first used blank zero = record { quads = []; each = ascending_none P; count = refl }
listed P bank first used blank (suc n) = go (is_blank_of (quad_at bank (first + n))) refl (listed P bank first used blank n)
  where
    go : (t : Bool) → is_blank_of (quad_at bank (first + n)) ≡ t → Listed P bank first n → Listed P bank first (suc n)
    go true e l = record { quads = l.quads; each = ascending_stays P n l.quads l.each (blank n e); count = rw e (omega (arith, l.count)) }
    go false e l =
        record {
          quads = l.quads ++ (n ∷ []);
          each = ascending_more P n l.quads l.each (used n e);
          count = rw e (omega (arith, length-append l.quads (n ∷ []), l.count));
        }
