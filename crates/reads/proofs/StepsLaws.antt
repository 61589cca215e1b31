-- The first of some steps, and then the others; two banks that are the same; when a read waits. Assumes nothing.
use mathlib.Core.Path.{◌≡◌, refl, sym}
use mathlib.Core.Bool.{Bool, true, false}
use mathlib.Core.List.{List}
use Prim.Native.Nat.{ℕ, zero, suc, ◌-◌, ◌<◌}
use native.Mathlib.Omega.{arith}
use borrow.Author.Tests.{not-true}
use Rattle.words.specs.Word.{pick}
use Rattle.words.proofs.BitLaws.{true_not_false}
use Rattle.geometry.specs.declared.banks.Geometry.{Geometry}
use Rattle.device.specs.declared.record.Device.{Device}
use Rattle.device.specs.Record.{running}
use Rattle.device.specs.State.{State, After}
use Rattle.flash.specs.Step.{step_of}
use Rattle.reads.specs.Read.{same, free_of, Stepped, stepped, steps_of}

-- after a step that left this: the steps that are left, or none where WR is 0
abbrev pub on_of : Geometry → List ℕ → ℕ → After → Stepped
on_of g sram n a = pick (running a.state.device) (steps_of g sram n a.state) (stepped a.state a.event)

pub next_step : (g : Geometry) (sram : List ℕ) (n : ℕ) (s : State) → 0 < n → steps_of g sram n s ≡ on_of g sram (n - 1) (step_of g s sram)
unfolding steps_of
next_step g sram zero s h = absurd (omega arith)
next_step g sram (suc n) s h = let e : suc n - 1 ≡ n = omega arith in rw e

-- two truth values that are the same
pub same_equal : (a c : Bool) → same a c ≡ true → a ≡ c
same_equal true c h = sym h
same_equal false c h = sym (not-true c h)

pub equal_same : (a c : Bool) → a ≡ c → same a c ≡ true
equal_same a true e = rw e
equal_same a false e = rw e

-- a bank that is not free is worked on
pub worked_on : (g : Geometry) (d : Device) (second : Bool) → free_of g d second ≡ false → running d ≡ true
unfolding free_of
worked_on g d second = go (running d) _
  where
    go : (t free : Bool) → pick t free true ≡ false → t ≡ true
    go true free h = refl
    go false free h = true_not_false h
