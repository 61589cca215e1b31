-- The numbers of a range: what holds of each, and the last apart. Assumes nothing.
use mathlib.Core.Path.{◌≡◌, refl, ap, ◌∙◌}
use mathlib.Core.Bool.{Bool, true, false, ◌&&◌}
use mathlib.Core.List.{[], ◌∷◌, ◌++◌}
use Prim.Native.Nat.{ℕ, zero, suc, ◌+◌}
use native.Mathlib.Omega.{arith}
use Rattle.std.specs.List.{list_all, range_with_len}
use Rattle.std.proofs.lemmas.List.Folds.{list_all-append}
use Rattle.words.specs.Word.{all_below}

pub range_last : (a n : ℕ) → range_with_len a (suc n) ≡ range_with_len a n ++ ((a + n) ∷ [])
range_last a zero = let e : a + 0 ≡ a = omega arith in rw e
range_last a (suc n) =
    let e : a + 1 + n ≡ a + suc n = omega arith in
    rw (range_last (a + 1) n, e)

and_true : (a : Bool) → (a && true) ≡ a
and_true true = refl
and_true false = refl

-- a test of every number below n
pub list_all-below : (p : ℕ → Bool) (n : ℕ) → list_all p (range_with_len 0 n) ≡ all_below p n
list_all-below p zero = refl
list_all-below p (suc n) =
    let e : 0 + n ≡ n = omega arith in
    ap (list_all p) (range_last 0 n)
    ∙ list_all-append p (range_with_len 0 n) ((0 + n) ∷ [])
    ∙ rw (list_all-below p n, e) (ap (λ (t : Bool). all_below p n && t) (and_true (p n)))
