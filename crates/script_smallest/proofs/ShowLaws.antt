-- "among the answers of the play": the test, and a record that gives the number. Assumes nothing.
use Prim.Native.Nat.{ℕ}
use mathlib.Core.Path.{◌≡◌, refl}
use mathlib.Core.Bool.{Bool, true, false, not}
use mathlib.Core.List.{List}
use lib.Dec.{eqb}
use borrow.Author.Tests.{eqb-true, ne_eqb, eq-eqb}
use Rattle.words.proofs.PickLaws.{and_both}
use Rattle.words.proofs.FirstLaws.{any_some, some_any}
use Rattle.geometry.specs.declared.banks.Geometry.{Geometry}
use Rattle.device.specs.State.{State}
use Rattle.script_format.specs.Records.{records_of}
use Rattle.script_smallest.specs.Smallest.{answer_of, shows_of}
use Rattle.script_smallest.specs.SmallestScripts.{Gives}

module _ (g : Geometry) (sram : List ℕ) (s : State) (number : ℕ) where
  pub shows_gives : (x : List ℕ) → shows_of g sram s number x ≡ true → Gives g sram s x number
  unfolding shows_of
  shows_gives x h =
      let one = any_some (λ i. eqb (answer_of g sram s x i) number) (records_of x) (and_both (not (eqb number 0)) _ h).1 in
      record { at = one.number; below = one.below; answers = eqb-true _ _ one.holds }

  pub gives_shows : (x : List ℕ) → (number ≡ 0 → ⊥) → Gives g sram s x number → shows_of g sram s number x ≡ true
  unfolding shows_of
  gives_shows x some gives =
      rw (
        ne_eqb number 0 some,
        some_any (λ i. eqb (answer_of g sram s x i) number) (records_of x) gives.at gives.below (eq-eqb _ _ gives.answers),
      )

  pub not_shown : (x : List ℕ) → (Gives g sram s x number → ⊥) → shows_of g sram s number x ≡ false
  not_shown x none = go (shows_of g sram s number x) refl
    where
      go : (t : Bool) → shows_of g sram s number x ≡ t → shows_of g sram s number x ≡ false
      go true e = absurd (none (shows_gives x e))
      go false e = e
