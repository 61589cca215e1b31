-- Sizes, for every Q, B and P together. Q divides 128, so rows and pages divide each window's start; a page lies in its bank.
-- Assumes nothing.
use mathlib.Core.Path.{◌≡◌, refl, sym, ap, ◌∙◌}
use mathlib.Core.Bool.{Bool, true, false, ◌&&◌, ◌||◌}
use mathlib.Core.List.{List, [], ◌∷◌}
use Prim.Native.Nat.{ℕ, ◌+◌, ◌*◌, ◌/◌, ◌≤◌, ◌<◌}
use native.Mathlib.Nat.{mul-le-mul, mul_comm, suc-mul, le_refl, mul-div_cancel, div-div-eq-div-mul, lt-mul-div-succ}
use native.Mathlib.Omega.{arith}
use lib.Dec.{eqb, leb}
use borrow.Author.Tests.{leb-true, eqb-true}
use Rattle.words.proofs.PickLaws.{and_both}
use Rattle.geometry.specs.declared.banks.Geometry.{Geometry}
use Rattle.geometry.specs.Banks.{one_of, row_sizes, listed_of, most_boot_pages, most_program_pages, in_range_of, InRange, in_range_up_to}
use Rattle.geometry.specs.Banks.{pages_of, row_bytes_of, page_bytes_of, page_words_of, bank_words_of, round_down_of}

-- a test that holds of each number of a list holds of any number that is one of them
all : (ℕ → Bool) → List ℕ → Bool
all p [] = true
all p (y ∷ ys) = p y && all p ys

one-of : (p : ℕ → Bool) (l : List ℕ) (x : ℕ) → all p l ≡ true → one_of l x ≡ true → p x ≡ true
unfolding all
one-of p [] x h o = let z : ◌≡◌ {A = ℕ} 0 1 = cc in absurd (omega arith)
one-of p (y ∷ ys) x h o = go (eqb x y) refl o (one-of p ys x (and_both (p y) (all p ys) h).1)
  where
    go : (t : Bool) → eqb x y ≡ t → (t || one_of ys x) ≡ true → (one_of ys x ≡ true → p x ≡ true) → p x ≡ true
    go true e o later = ap p (eqb-true x y e) ∙ (and_both (p y) (all p ys) h).0
    go false e o later = later o

-- Q is 1 to 128 and divides 128: one test over the list
rule : ℕ → Bool
rule q = leb 1 q && (leb q 128 && eqb (128 / q * q) 128)

listed_rule : (q : ℕ) → listed_of q ≡ true → rule q ≡ true
unfolding listed_of all rule
listed_rule q h = one-of rule row_sizes q refl h

-- what decline 1 leaves
pub in-range : (g : Geometry) → in_range_of g ≡ true → InRange g
unfolding in_range_up_to rule
in-range g h =
    let s0 = and_both (listed_of g.q) (leb 1 g.b && (leb g.b most_boot_pages && (leb 1 g.p && leb g.p most_program_pages))) h in
    let s1 = and_both (leb 1 g.b) (leb g.b most_boot_pages && (leb 1 g.p && leb g.p most_program_pages)) s0.1 in
    let s2 = and_both (leb g.b most_boot_pages) (leb 1 g.p && leb g.p most_program_pages) s1.1 in
    let s3 = and_both (leb 1 g.p) (leb g.p most_program_pages) s2.1 in
    let r0 = and_both (leb 1 g.q) (leb g.q 128 && eqb (128 / g.q * g.q) 128) (listed_rule g.q s0.0) in
    let r1 = and_both (leb g.q 128) (eqb (128 / g.q * g.q) 128) r0.1 in
    let q_high : g.q ≤ 128 = leb-true _ _ r1.0 in
    let b_high : g.b ≤ most_boot_pages = leb-true _ _ s2.0 in
    let p_high : g.p ≤ most_program_pages = leb-true _ _ s3.1 in
    record {
      q_low = leb-true _ _ r0.0;
      q_high = q_high;
      q_divides = eqb-true _ _ r1.1;
      b_low = leb-true _ _ s1.0;
      b_high = b_high;
      p_low = leb-true _ _ s3.0;
      p_high = p_high;
      boot_high = mul-le-mul b_high q_high;
      program_high = mul-le-mul p_high q_high;
    }

-- ---- units that divide a page: a quad, a row, the page itself
-- a unit of u bytes, m of them in a page
pub record Unit (g : Geometry) (u m : ℕ) : Type 0 where
  pub some : 0 < u
  pub many : 0 < m
  pub fills : m * u ≡ page_bytes_of g

module _ (g : Geometry) (ok : InRange g) where
  pub quad_unit : Unit g 16 (8 * g.q)
  quad_unit = record { some = omega arith; many = omega (arith, ok.q_low); fills = omega arith }

  pub row_unit : Unit g (row_bytes_of g) 8
  row_unit = record { some = omega (arith, ok.q_low); many = omega arith; fills = omega arith }

  pub page_unit : Unit g (page_bytes_of g) 1
  page_unit = record { some = omega (arith, ok.q_low); many = omega arith; fills = omega arith }

  pub page_pos : 0 < page_bytes_of g
  page_pos = omega (arith, ok.q_low)

  -- a page's words lie in the bank
  pub page_in_bank_lem : (i : ℕ) → i < pages_of g → i * page_words_of g + page_words_of g ≤ bank_words_of g
  page_in_bank_lem i h = omega (arith, mul-le-mul h (le_refl (page_words_of g)), suc-mul i (page_words_of g))

  module _ (u m : ℕ) (unit : Unit g u m) (x : ℕ) where
    in_pages : x / u / m ≡ x / page_bytes_of g
    in_pages = div-div-eq-div-mul x u m ∙ ap (λ (n : ℕ). x / n) (mul_comm u m ∙ unit.fills)

    -- what is rounded to a unit stays in its page
    pub round_same_page : round_down_of x u / page_bytes_of g ≡ x / page_bytes_of g
    round_same_page =
        ap (λ (n : ℕ). round_down_of x u / n) (sym (mul_comm u m ∙ unit.fills))
        ∙ sym (div-div-eq-div-mul (round_down_of x u) u m)
        ∙ ap (λ (n : ℕ). n / m) (mul-div_cancel (x / u) unit.some)
        ∙ in_pages

    -- a unit lies whole in its page
    pub unit_in_page : round_down_of x u + u ≤ round_down_of x (page_bytes_of g) + page_bytes_of g
    unit_in_page =
        rw (← in_pages, ← unit.fills)
        (omega (arith, mul-le-mul (lt-mul-div-succ (x / u) unit.many) (le_refl u)))
