-- The test of a protected program page is its two parts: PWP is not 0, and the offset is at most PWP. Assumes nothing.
use mathlib.Core.Path.{◌≡◌}
use mathlib.Core.Bool.{true, not}
use Prim.Native.Nat.{ℕ, ◌≤◌, ◌<◌}
use native.Mathlib.Omega.{arith}
use lib.Dec.{eqb, leb}
use borrow.Author.Tests.{ne_eqb, eqb-false, le-leb, leb-true, not-true}
use Rattle.words.proofs.PickLaws.{and_both}
use Rattle.protection.specs.Protection.{program_protected_of}

module _ (pwp offset : ℕ) where
  pub is-protected : 0 < pwp → offset ≤ pwp → program_protected_of pwp offset ≡ true
  unfolding program_protected_of
  is-protected some low = rw (ne_eqb pwp 0 (λ e. omega (arith, e)), le-leb offset pwp low)

  pub protected_by : program_protected_of pwp offset ≡ true → (0 < pwp) × (offset ≤ pwp)
  unfolding program_protected_of
  protected_by h =
      let (some, low) = and_both (not (eqb pwp 0)) (leb offset pwp) h in
      let not_zero : pwp ≡ 0 → ⊥ = eqb-false pwp 0 (not-true _ some) in
      (omega (arith, not_zero), leb-true offset pwp low)
