-- The eight row sizes are the powers of 2 up to 128, and a number is tested to be one of a list exactly where it is. Assumes nothing.
use Prim.Native.Nat.{ℕ, zero, suc, ◌^◌, ◌<◌}
use mathlib.Core.Path.{◌≡◌, refl, sym, ◌∙◌}
use mathlib.Core.Bool.{Bool, true, false, ◌&&◌, ◌||◌}
use mathlib.Core.List.{List, [], ◌∷◌}
use native.Mathlib.Omega.{arith}
use lib.Dec.{eqb, leb}
use lib.ListN.{length, get_or}
use borrow.Author.Tests.{eqb-true, eq-eqb, leb-true, le-leb}
use Rattle.words.specs.Lists.{In}
use Rattle.words.proofs.BitLaws.{true_not_false}
use Rattle.words.proofs.PickLaws.{and_both}
use Rattle.geometry.specs.declared.banks.Geometry.{Geometry}
use Rattle.geometry.specs.Banks.{one_of, row_sizes, listed_of, in_range_up_to, in_range_of}
use Rattle.geometry.specs.Sizes.{Sizes, Listed}

one_in : (l : List ℕ) (x : ℕ) → one_of l x ≡ true → In l x
one_in [] x h = true_not_false (sym h)
one_in (y ∷ ys) x h = go (eqb x y) refl h (one_in ys x)
  where
    go : (t : Bool) → eqb x y ≡ t → (t || one_of ys x) ≡ true → (one_of ys x ≡ true → In ys x) → In (y ∷ ys) x
    go true e k later = record { at = 0; inside = omega arith; is = sym (eqb-true x y e) }
    go false e k later = let i = later k in record { at = suc i.at; inside = omega (arith, i.inside); is = i.is }

in_one : (l : List ℕ) (k : ℕ) → k < length l → one_of l (get_or l k 0) ≡ true
in_one [] k h = absurd (omega (arith, h))
in_one (y ∷ ys) zero h = rw (eq-eqb y y refl)
in_one (y ∷ ys) (suc k) h = go (eqb (get_or ys k 0) y) (in_one ys k (omega (arith, h)))
  where
    go : (t : Bool) → one_of ys (get_or ys k 0) ≡ true → (t || one_of ys (get_or ys k 0)) ≡ true
    go true later = refl
    go false later = later

powers : (k : ℕ) → k < 8 → get_or row_sizes k 0 ≡ 2 ^ k
powers zero h = refl
powers (suc zero) h = refl
powers (suc (suc zero)) h = refl
powers (suc (suc (suc zero))) h = refl
powers (suc (suc (suc (suc zero)))) h = refl
powers (suc (suc (suc (suc (suc zero))))) h = refl
powers (suc (suc (suc (suc (suc (suc zero)))))) h = refl
powers (suc (suc (suc (suc (suc (suc (suc zero))))))) h = refl
powers (suc (suc (suc (suc (suc (suc (suc (suc k)))))))) h = absurd (omega (arith, h))

only : (g : Geometry) → in_range_of g ≡ true → Sizes g
unfolding in_range_up_to listed_of
only g h =
    let (row, rest) = and_both (one_of row_sizes g.q) (leb 1 g.b && (leb g.b 5 && (leb 1 g.p && leb g.p 128))) h in
    let (boot_low, upper) = and_both (leb 1 g.b) (leb g.b 5 && (leb 1 g.p && leb g.p 128)) rest in
    let (boot_high, pages) = and_both (leb g.b 5) (leb 1 g.p && leb g.p 128) upper in
    let (program_low, program_high) = and_both (leb 1 g.p) (leb g.p 128) pages in
    let size = one_in row_sizes g.q row in
    record {
      power = size.at;
      most = omega (arith, size.inside);
      row = sym size.is ∙ powers size.at size.inside;
      boot_low = leb-true _ _ boot_low;
      boot_high = leb-true _ _ boot_high;
      program_low = leb-true _ _ program_low;
      program_high = leb-true _ _ program_high;
    }

taken : (g : Geometry) → Sizes g → in_range_of g ≡ true
unfolding in_range_up_to listed_of
taken g s =
    let inside : s.power < 8 = omega (arith, s.most) in
    let row : one_of row_sizes g.q ≡ true = rw (s.row ∙ sym (powers s.power inside)) (in_one row_sizes s.power inside) in
    rw (
      row,
      le-leb 1 g.b s.boot_low,
      le-leb g.b 5 s.boot_high,
      le-leb 1 g.p s.program_low,
      le-leb g.p 128 s.program_high,
    )

pub listed : Listed
listed = record { taken = taken; only = only }
