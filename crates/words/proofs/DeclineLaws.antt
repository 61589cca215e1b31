-- What an accepted call tells of the tests that could have declined it. Assumes nothing.
use mathlib.Core.Path.{◌≡◌, refl, sym, ap, ◌∙◌}
use mathlib.Core.Bool.{Bool, true, false, not}
use Prim.Native.Nat.{ℕ}
use native.Mathlib.Omega.{arith}
use borrow.Author.Tests.{not-true, not-false}
use Rattle.words.specs.Word.{pick}
use Rattle.words.specs.Decline.{Verdict, accepted_of, first_of}

-- a test whose failure declines, in a call that was accepted: it held
pub held : (t : Bool) (x y : Verdict) → accepted_of y ≡ false → accepted_of (pick t x y) ≡ true → (t ≡ true) × (accepted_of x ≡ true)
held true x y off h = (refl, h)
held false x y off h = let z : ◌≡◌ {A = ℕ} 0 1 = cc in absurd (omega arith)

-- a test that declines, in a call that was accepted: it did not hold
pub passed : (t : Bool) (x y : Verdict) → accepted_of x ≡ false → accepted_of (pick t x y) ≡ true → (t ≡ false) × (accepted_of y ≡ true)
passed false x y off h = (refl, h)
passed true x y off h = let z : ◌≡◌ {A = ℕ} 0 1 = cc in absurd (omega arith)

-- neither of two declines applies to a call that was accepted
pub neither : (first other : Verdict) → accepted_of (first_of first other) ≡ true → (accepted_of first ≡ true) × (accepted_of other ≡ true)
neither first other h = go (accepted_of first) refl h
  where
    go : (t : Bool) → accepted_of first ≡ t → accepted_of (pick t other first) ≡ true → (accepted_of first ≡ true) × (accepted_of other ≡ true)
    go true e k = (e, k)
    go false e k = (k, let z : ◌≡◌ {A = ℕ} 0 1 = cc in absurd (omega arith))

-- what a function learns that asks `is_accepted` of a decline r, which is x by its callee's promise: it returns r, or it goes on
pub stopped : {a : Bool} {r x : Verdict} → r ≡ x → a ≡ accepted_of r → not a ≡ true → accepted_of x ≡ false
stopped {a} e k h = ap accepted_of (sym e) ∙ sym k ∙ not-true a h

pub went_on : {a : Bool} {r x : Verdict} → r ≡ x → a ≡ accepted_of r → not a ≡ false → accepted_of x ≡ true
went_on {a} e k h = ap accepted_of (sym e) ∙ sym k ∙ not-false a h
