-- The lowest record first, again and again. Assumes nothing.
use Prim.Native.Nat.{ℕ, zero, suc, ◌<◌, ◌≤◌}
use mathlib.Core.Path.{◌≡◌, refl, sym, subst, ◌∙◌}
use mathlib.Core.Bool.{Bool, true, false}
use mathlib.Core.List.{List}
use native.Mathlib.Omega.{arith}
use native.Mathlib.Decide.{dec_lt}
use lib.Dec.{ltb}
use borrow.Author.Tests.{ltb-true, ltb-false}
use Rattle.words.specs.Word.{pick}
use Rattle.words.proofs.BitLaws.{true_not_false}
use Rattle.words.proofs.FirstLaws.{First, first_below}
use Rattle.geometry.specs.declared.banks.Geometry.{Geometry}
use Rattle.device.specs.State.{State}
use Rattle.script_format.specs.Records.{records_of}
use Rattle.script_smallest.specs.Smallest.{shows_of, without_of, lowest_of, dropped_of}
use Rattle.script_smallest.specs.SmallestScripts.{Drops, Gives}
use Rattle.script_smallest.specs.SmallestScripts.Drops.{stop, next}
use Rattle.script_smallest.proofs.WithoutLaws.{without}
use Rattle.script_smallest.proofs.ShowLaws.{shows_gives, gives_shows}

module _ (g : Geometry) (sram : List ℕ) (s : State) (number : ℕ) where
  abbrev lowest : List ℕ → ℕ
  lowest x = lowest_of g sram s number x

  search : (x : List ℕ) → First (λ i. shows_of g sram s number (without_of x i)) (records_of x) (lowest x)
  search x = first_below (λ i. shows_of g sram s number (without_of x i)) (records_of x)

  module _ (some : number ≡ 0 → ⊥) where
    -- none before the lowest can go
    none_before : (x : List ℕ) (j : ℕ) → j < lowest x → Gives g sram s (without_of x j) number → ⊥
    none_before x j l gives = true_not_false (sym (gives_shows g sram s number (without_of x j) some gives) ∙ (search x).before j l)

    pub drops : (n : ℕ) (x : List ℕ) → records_of x ≤ n → Drops g sram s number x (dropped_of g sram s number n x)
    drops zero x h = stop x (λ i l. absurd (omega (arith, h, l)))
    drops (suc n) x h = go (ltb (lowest x) (records_of x)) refl (drops n (without_of x (lowest x)))
      where
        go : (t : Bool) → ltb (lowest x) (records_of x) ≡ t
            → (records_of (without_of x (lowest x)) ≤ n
            → Drops g sram s number (without_of x (lowest x)) (dropped_of g sram s number n (without_of x (lowest x))))
            → Drops g sram s number x (pick t (dropped_of g sram s number n (without_of x (lowest x))) x)
        go true e later =
            let l = ltb-true (lowest x) (records_of x) e in
            next x _ (lowest x) l (shows_gives g sram s number (without_of x (lowest x)) ((search x).found l)) (none_before x)
            (later (omega (arith, (without x (lowest x) l).fewer, h)))
        go false e later = stop x (λ j k. none_before x j (omega (arith, ltb-false (lowest x) (records_of x) e, k)))

  -- ---- what dropping keeps and reaches

  pub drops_show : (x r : List ℕ) → Drops g sram s number x r → Gives g sram s x number → Gives g sram s r number
  drops_show _ _ (stop x none) h = h
  drops_show _ _ (next x r i l can first rest) h = drops_show (without_of x i) r rest can

  pub drops_stop : (x r : List ℕ) → Drops g sram s number x r → (i : ℕ) → i < records_of r → Gives g sram s (without_of r i) number → ⊥
  drops_stop _ _ (stop x none) = none
  drops_stop _ _ (next x r i l can first rest) = drops_stop (without_of x i) r rest

  pub drops_none : (x r : List ℕ) → Drops g sram s number x r
      → ((i : ℕ) → i < records_of x → Gives g sram s (without_of x i) number → ⊥) → r ≡ x
  drops_none _ _ (stop x none) h = refl
  drops_none _ _ (next x r i l can first rest) h = absurd (h i l can)

  -- ---- there is one result

  -- of two lowest records that can go neither is before the other
  same_lowest : (x : List ℕ) (i j : ℕ) → Gives g sram s (without_of x i) number → ((k : ℕ) → k < i → Gives g sram s (without_of x k) number → ⊥)
      → Gives g sram s (without_of x j) number → ((k : ℕ) → k < j → Gives g sram s (without_of x k) number → ⊥) → i ≡ j
  same_lowest x i j can first also before = go (dec_lt i j) (dec_lt j i)
    where
      go : Dec (i < j) → Dec (j < i) → i ≡ j
      go (yes l) d = absurd (before i l can)
      go (no l) (yes m) = absurd (first j m also)
      go (no l) (no m) = omega (arith, l, m)

  pub one_result : (x r q : List ℕ) → Drops g sram s number x r → Drops g sram s number x q → r ≡ q
  one_result _ _ q (stop x none) other = sym (drops_none x q other none)
  one_result _ _ q (next x r i l can first rest) other = go x q other i l can first (λ p. one_result (without_of x i) r p rest)
    where
      go : (x q : List ℕ) → Drops g sram s number x q → (i : ℕ) → i < records_of x → Gives g sram s (without_of x i) number
          → ((k : ℕ) → k < i → Gives g sram s (without_of x k) number → ⊥)
          → ((p : List ℕ) → Drops g sram s number (without_of x i) p → r ≡ p) → r ≡ q
      go _ _ (stop x none) i l can first later = absurd (none i l can)
      go _ _ (next x q j m also before end) i l can first later =
          later q (subst (λ (k : ℕ). Drops g sram s number (without_of x k) q) (sym (same_lowest x i j can first also before)) end)
