-- What is left of a script is a part of it, in its order. Assumes nothing.
use Prim.Native.Nat.{ℕ, ◌+◌, ◌<◌}
use mathlib.Core.Path.{◌≡◌, refl, ◌∙◌}
use mathlib.Core.Bool.{Bool, true, false}
use mathlib.Core.List.{List}
use native.Mathlib.Omega.{arith}
use lib.Dec.{ltb}
use borrow.Author.Tests.{ltb-true, ltb-false}
use Rattle.words.specs.Word.{pick}
use Rattle.geometry.specs.declared.banks.Geometry.{Geometry}
use Rattle.device.specs.State.{State}
use Rattle.script_format.specs.Records.{record_of, records_of}
use Rattle.script_smallest.specs.Smallest.{without_of}
use Rattle.script_smallest.specs.SmallestScripts.{Drops, PartOf}
use Rattle.script_smallest.specs.SmallestScripts.Drops.{stop, next}
use Rattle.script_smallest.proofs.WithoutLaws.{without}

-- where record m of a script without record i is in the whole script
abbrev pub stood : ℕ → ℕ → ℕ
stood i m = pick (ltb m i) m (m + 1)

stood_rises : (i m n : ℕ) → m < n → stood i m < stood i n
stood_rises i m n l = go (ltb m i) refl (ltb n i) refl
  where
    go : (a : Bool) → ltb m i ≡ a → (b : Bool) → ltb n i ≡ b → pick a m (m + 1) < pick b n (n + 1)
    go true ea true eb = l
    go true ea false eb = omega (arith, l)
    go false ea true eb = absurd (omega (arith, l, ltb-false m i ea, ltb-true n i eb))
    go false ea false eb = omega (arith, l)

pub stood_same : (x : List ℕ) (i m : ℕ) → i < records_of x → m < records_of (without_of x i)
    → (stood i m < records_of x) × (record_of (without_of x i) m ≡ record_of x (stood i m))
stood_same x i m l h = go (ltb m i) refl
  where
    go : (a : Bool) → ltb m i ≡ a → (pick a m (m + 1) < records_of x) × (record_of (without_of x i) m ≡ record_of x (pick a m (m + 1)))
    go true e = let w = without x i l in (omega (arith, w.fewer, h), w.below m (ltb-true m i e))
    go false e =
        let w = without x i l in
        (omega (arith, w.fewer, h), w.above m (omega (arith, ltb-false m i e)) (omega (arith, w.fewer, h)))

pub drops_part : (g : Geometry) (sram : List ℕ) (s : State) (number : ℕ) (x r : List ℕ) → Drops g sram s number x r → PartOf r x
drops_part g sram s number _ _ (stop x none) = record { at = λ k. k; same = λ k l. (l, refl); rising = λ k l. omega arith }
drops_part g sram s number _ _ (next x r i l can first rest) =
    let p = drops_part g sram s number (without_of x i) r rest in
    record {
      at = λ k. stood i (p.at k);
      same = λ k h. let there = stood_same x i (p.at k) l (p.same k h).0 in (there.0, (p.same k h).1 ∙ there.1);
      rising = λ k h. stood_rises i (p.at k) (p.at (k + 1)) (p.rising k h);
    }
