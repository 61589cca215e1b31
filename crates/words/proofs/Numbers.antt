-- Twenty-two numbers, none of them 9, and each stands for one verdict. Assumes nothing.
use mathlib.Core.Path.{◌≡◌, refl, sym, ap, ◌∙◌}
use mathlib.Core.List.{List, [], ◌∷◌}
use Rattle.std.specs.Prelude.{Ok, Err}
use Prim.Native.Nat.{ℕ, ◌≤◌}
use lib.Dec.{eqb}
use Rattle.words.specs.Word.{pick}
use native.Mathlib.Omega.{arith}
use Rattle.words.specs.declared.decline.Decline.TheVariants.{Geometry, Length, Device, Register, Running, Idle, ResetKind, Address}
use Rattle.words.specs.declared.decline.Decline.TheVariants.{Sequence, LastSequence, Protection, Place, Script, Hours, NoWait}
use Rattle.words.specs.declared.decline.Decline.TheVariants.{ScriptBuffer, SheetBuffer, Row, Records, NotShown, Lanes}
use Rattle.words.specs.Decline.{Verdict, number_of}
use Rattle.words.specs.Numbers.{Numbers}

abbrev all : List Verdict
all =
    Ok tt ∷ Err Geometry ∷ Err Length ∷ Err Device ∷ Err Register ∷ Err Running ∷ Err Idle ∷ Err ResetKind
    ∷ Err Address ∷ Err Sequence ∷ Err LastSequence ∷ Err Protection ∷ Err Place ∷ Err Script ∷ Err Hours ∷ Err NoWait
    ∷ Err ScriptBuffer ∷ Err SheetBuffer ∷ Err Row ∷ Err Records ∷ Err NotShown ∷ Err Lanes ∷ []

-- the first verdict of a list that has this number
abbrev numbered : ℕ → List Verdict → Verdict
numbered n [] = Ok tt
numbered n (v ∷ rest) = pick (eqb (number_of v) n) v (numbered n rest)

back : (v : Verdict) → numbered (number_of v) all ≡ v
back (Ok done) = refl
back (Err Geometry) = refl
back (Err Length) = refl
back (Err Device) = refl
back (Err Register) = refl
back (Err Running) = refl
back (Err Idle) = refl
back (Err ResetKind) = refl
back (Err Address) = refl
back (Err Sequence) = refl
back (Err LastSequence) = refl
back (Err Protection) = refl
back (Err Place) = refl
back (Err Script) = refl
back (Err Hours) = refl
back (Err NoWait) = refl
back (Err ScriptBuffer) = refl
back (Err SheetBuffer) = refl
back (Err Row) = refl
back (Err Records) = refl
back (Err NotShown) = refl
back (Err Lanes) = refl

not_nine : (v : Verdict) → number_of v ≡ 9 → ⊥
not_nine (Ok done) e = omega (arith, e)
not_nine (Err Geometry) e = omega (arith, e)
not_nine (Err Length) e = omega (arith, e)
not_nine (Err Device) e = omega (arith, e)
not_nine (Err Register) e = omega (arith, e)
not_nine (Err Running) e = omega (arith, e)
not_nine (Err Idle) e = omega (arith, e)
not_nine (Err ResetKind) e = omega (arith, e)
not_nine (Err Address) e = omega (arith, e)
not_nine (Err Sequence) e = omega (arith, e)
not_nine (Err LastSequence) e = omega (arith, e)
not_nine (Err Protection) e = omega (arith, e)
not_nine (Err Place) e = omega (arith, e)
not_nine (Err Script) e = omega (arith, e)
not_nine (Err Hours) e = omega (arith, e)
not_nine (Err NoWait) e = omega (arith, e)
not_nine (Err ScriptBuffer) e = omega (arith, e)
not_nine (Err SheetBuffer) e = omega (arith, e)
not_nine (Err Row) e = omega (arith, e)
not_nine (Err Records) e = omega (arith, e)
not_nine (Err NotShown) e = omega (arith, e)
not_nine (Err Lanes) e = omega (arith, e)

at_most : (v : Verdict) → number_of v ≤ 22
at_most (Ok done) = omega arith
at_most (Err Geometry) = omega arith
at_most (Err Length) = omega arith
at_most (Err Device) = omega arith
at_most (Err Register) = omega arith
at_most (Err Running) = omega arith
at_most (Err Idle) = omega arith
at_most (Err ResetKind) = omega arith
at_most (Err Address) = omega arith
at_most (Err Sequence) = omega arith
at_most (Err LastSequence) = omega arith
at_most (Err Protection) = omega arith
at_most (Err Place) = omega arith
at_most (Err Script) = omega arith
at_most (Err Hours) = omega arith
at_most (Err NoWait) = omega arith
at_most (Err ScriptBuffer) = omega arith
at_most (Err SheetBuffer) = omega arith
at_most (Err Row) = omega arith
at_most (Err Records) = omega arith
at_most (Err NotShown) = omega arith
at_most (Err Lanes) = omega arith

pub numbers : Numbers
numbers =
    record {
      no_nine = not_nine;
      highest = at_most;
      one = λ v w h. sym (back v) ∙ ap (λ (n : ℕ). numbered n all) h ∙ back w;
    }
