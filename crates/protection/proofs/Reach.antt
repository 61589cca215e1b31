-- The offset of a program page is below 2^24: PWP of that offset, and of 1 for the first page, covers it and no higher page.
-- Assumes nothing.
use Prim.Native.Nat.{ℕ, zero, suc, ◌+◌, ◌*◌, ◌^◌, ◌≤◌, ◌<◌}
use mathlib.Core.Path.{◌≡◌, refl, sym, ap, ◌∙◌}
use mathlib.Core.Bool.{Bool, true, false}
use native.Mathlib.Omega.{arith}
use native.Mathlib.Nat.{mul-le-mul_right, mod-lt, mul_assoc, mul_comm}
use lib.Dec.{eqb}
use borrow.Author.Tests.{ne_eqb, le-leb, lt-leb}
use Rattle.geometry.specs.declared.banks.Geometry.{Geometry}
use Rattle.geometry.specs.Banks.{program_bytes_of, page_bytes_of, InRange}
use Rattle.geometry.proofs.SizeLaws.{in-range}
use Rattle.protection.specs.Protection.{page_offset_of, program_protected_of, protected_of}
use Rattle.protection.specs.Reach.{Protectable, Reach}

-- the least PWP that is not 0 and reaches an offset
abbrev reaching : ℕ → ℕ
reaching zero = 1
reaching (suc n) = suc n

not_zero : (n : ℕ) → eqb (suc n) 0 ≡ false
not_zero n = ne_eqb (suc n) 0 (λ e. absurd (omega (arith, e)))

covers_offset : (n : ℕ) → program_protected_of (reaching n) n ≡ true
unfolding program_protected_of
covers_offset zero = refl
covers_offset (suc n) = rw (not_zero n, le-leb (suc n) (suc n) (omega arith))

-- offsets are multiples of 128 bytes
covers_no_higher : (n m : ℕ) → n < 128 * m → program_protected_of (reaching n) (128 * m) ≡ false
unfolding program_protected_of
covers_no_higher zero m h = lt-leb (128 * m) 1 (omega arith)
covers_no_higher (suc n) m h = rw (not_zero n, lt-leb (128 * m) (suc n) h)

module _ (g : Geometry) (ok : InRange g) where
  -- a page starts before its region ends
  starts_inside : (page : ℕ) → page < g.p → page * page_bytes_of g ≤ program_bytes_of g
  starts_inside page l = mul-le-mul_right (page_bytes_of g) (omega arith)

  offset_high : (upper : Bool) (page : ℕ) → page < g.p → page_offset_of g upper page < 2 ^ 24
  offset_high true page l = omega (arith, ok.program_high, starts_inside page l)
  offset_high false page l = omega (arith, ok.program_high, starts_inside page l)

  reaching_high : (n : ℕ) → n < 2 ^ 24 → reaching n < 2 ^ 24
  reaching_high zero h = omega arith
  reaching_high (suc n) h = h

  -- an offset in units of 128 bytes
  abbrev units : (upper : Bool) (page : ℕ) → ℕ
  units true page = g.p * g.q + page * g.q
  units false page = page * g.q

  times_bytes : (page : ℕ) → page * page_bytes_of g ≡ 128 * (page * g.q)
  times_bytes page = sym (mul_assoc page 128 g.q) ∙ (ap (λ n. n * g.q) (mul_comm page 128) ∙ mul_assoc 128 page g.q)

  in_units : (upper : Bool) (page : ℕ) → page_offset_of g upper page ≡ 128 * units upper page
  in_units true page = rw (times_bytes g.p, times_bytes page) (omega arith)
  in_units false page = times_bytes page

  protectable : (upper : Bool) (page : ℕ) → page < g.p → Protectable g upper page
  unfolding protected_of
  protectable upper page l =
      let offset = page_offset_of g upper page in
      record {
        pwp = reaching offset;
        fits = omega (arith, reaching_high offset (offset_high upper page l));
        covers = λ d e. rw e (covers_offset offset);
        only = λ d e upper' page' h. rw (e, in_units upper' page') (covers_no_higher offset (units upper' page') (rw (← in_units upper' page') h));
      }

pub reach : Reach
reach = record { bits = λ d. mod-lt d.nvmpwp.0 (omega arith); pages = λ g listed. protectable g (in-range g listed) }
