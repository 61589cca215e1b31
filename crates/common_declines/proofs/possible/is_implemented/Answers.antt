-- The row that is tested fits as is_within says; a row that does not fit decides, whatever the rows after it.
use Prim.Native.Nat.{zero}
use Rattle.std.proofs.Common.{◌≡◌, ℕ, suc, ◌≤◌, true, false, Bool, sym, ◌∙◌, add-one, arith}
use native.Mathlib.Decide.{dec_le}
use Rattle.device.specs.declared.record.Device.{Device}
use Rattle.device.specs.Record.{register_of}
use Rattle.device.specs.Registers.{within_of}
use Rattle.common_declines.specs.Possible.{rows_fit, implemented_of}
use Rattle.common_declines.proofs.possible.is_implemented.Goals as goal

-- a row that does not fit decides, whatever the rows after it
stays : (d : Device) (n m : ℕ) → n ≤ m → rows_fit d n ≡ false → rows_fit d m ≡ false
stays d n zero l h = let e : n ≡ 0 = omega arith in rw e at h
stays d n (suc m) l h = go (dec_le n m) (λ k. stays d n m k h)
  where
    go : Dec (n ≤ m) → (n ≤ m → rows_fit d m ≡ false) → rows_fit d (suc m) ≡ false
    go (yes k) below = rw (below k)
    go (no k) below = let e : n ≡ suc m = omega arith in rw e at h

-- the row that is tested fits as is_within says
row : (d : Device) (n v : ℕ) (t : Bool) → v ≡ register_of d n → t ≡ within_of n v → rows_fit d n ≡ true → rows_fit d (suc n) ≡ t
row d n v t e w h = rw (h, ← e, w)

-- with what is_within answered
tested : (d : Device) (n v : ℕ) (t u : Bool) → rows_fit d n ≡ true → v ≡ register_of d n → t ≡ within_of n v → t ≡ u → rows_fit d (suc n) ≡ u
tested d n v t u h e w k = row d n v t e w h ∙ k

pub returns-then-not-is_within : goal.returns-then-not-is_within
unfolding implemented_of
returns-then-not-is_within c =
    let n = c.loop-number.number in
    sym
    (stays c.args.d (suc n) 11 (omega arith)
    (tested c.args.d n _ _ _ c.loop-number.invariant c.register.ensures c.is_within.ensures c.if-not-is_within.true))

pub loop-number-preserved : goal.loop-number-preserved
loop-number-preserved c =
    rw add-one
    (tested c.args.d c.loop-number.number _ _ _ c.loop-number.invariant c.register.ensures c.is_within.ensures c.if-not-is_within.false)

pub returns : goal.returns
unfolding implemented_of
returns c = let e : c.loop-number.number ≡ 11 = omega arith in sym (rw e at c.loop-number.invariant)
