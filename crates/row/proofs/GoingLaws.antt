-- Where a sign stands after turns of an accepted update: its next turn is accepted, it is done at the total only, and there no operation runs.
-- Assumes nothing.
use Prim.Native.Nat.{ℕ, ◌+◌, ◌≤◌, ◌<◌}
use mathlib.Core.Path.{◌≡◌, refl, ap, subst, ◌∙◌}
use mathlib.Core.Bool.{Bool, true, false, not, ◌&&◌}
use mathlib.Core.List.{List, [], ◌∷◌, ◌++◌}
use native.Mathlib.Omega.{arith}
use lib.Dec.{eqb}
use lib.ListN.{length}
use borrow.Author.Tests.{ne_eqb, eq-eqb}
use Rattle.words.specs.Decline.{accepted_of}
use Rattle.geometry.specs.declared.banks.Geometry.{Geometry}
use Rattle.geometry.specs.Lent.{most_sram}
use Rattle.device.specs.Record.{running}
use Rattle.device.specs.State.{State}
use Rattle.update.specs.Actions.{total_of}
use Rattle.update.specs.Turn.{turn_of}
use Rattle.update.specs.PowerFail.{Position, at, turned_of, turns_of, old, Update}
use Rattle.update.proofs.StandsLaws.{stands_turns}
use Rattle.update.proofs.StartLaws.{start_fixed, start_stands}
use Rattle.update.proofs.PowerFail.{done_idle, power_fail}

-- some list of turns of an accepted update leaves it there
pub record Going (g : Geometry) (image : List ℕ) (p : Position) : Type 0 where
  pub start : State
  pub update : Update g start image
  pub srams : List (List ℕ)
  pub is : turns_of g image (at start 0) srams ≡ p

turns_append : (g : Geometry) (image : List ℕ) (p : Position) (a b : List (List ℕ)) → turns_of g image p (a ++ b) ≡ turns_of g image (turns_of g image p a) b
turns_append g image p [] b = refl
turns_append g image p (s ∷ a) b = turns_append g image (turned_of g image p s) a b

module _ (g : Geometry) (image : List ℕ) (p : Position) (h : Going g image p) where
  -- it goes on
  pub going_turn : (sram : List ℕ) → Going g image (turned_of g image p sram)
  going_turn sram =
      record {
        start = h.start;
        update = h.update;
        srams = h.srams ++ (sram ∷ []);
        is = turns_append g image (at h.start 0) h.srams (sram ∷ []) ∙ ap (λ (p : Position). turned_of g image p sram) h.is;
      }

  going_accepted : (sram : List ℕ) → length sram ≤ most_sram → accepted_of (turn_of g p.state image sram p.place).decline ≡ true
  going_accepted sram short =
      subst (λ (p : Position). accepted_of (turn_of g p.state image sram p.place).decline ≡ true) h.is
      ((power_fail g image).answers h.start h.update h.srams sram short)

  pub going_within : p.place ≤ total_of g
  going_within = subst (λ (p : Position). p.place ≤ total_of g) h.is ((power_fail g image).within h.start h.update h.srams)

  pub going_idle : p.place ≡ total_of g → running p.state.device ≡ false
  going_idle e =
      let u = start_fixed g h.start image h.update (old h.start) refl in
      let q = turns_of g image (at h.start 0) h.srams in
      let there = stands_turns u (at h.start 0) (start_stands g h.start image h.update (old h.start) refl) h.srams in
      subst (λ (p : Position). running p.state.device ≡ false) h.is
      (done_idle u q there (ap (λ (p : Position). p.place) h.is ∙ e))

  -- unfinished it can be served, at the total it cannot
  abbrev can_of : List ℕ → Bool
  can_of sram = let t = turn_of g p.state image sram p.place in accepted_of t.decline && not t.done

  can_is : (sram : List ℕ) → length sram ≤ most_sram → can_of sram ≡ not (eqb p.place (total_of g))
  can_is sram short = rw (((power_fail g image).turns p sram).done, going_accepted sram short) refl

  pub going_can : (sram : List ℕ) → length sram ≤ most_sram → (p.place ≡ total_of g → ⊥) → can_of sram ≡ true
  going_can sram short unfinished = can_is sram short ∙ rw (ne_eqb p.place (total_of g) unfinished) refl

  pub going_done : (sram : List ℕ) → length sram ≤ most_sram → p.place ≡ total_of g → can_of sram ≡ false
  going_done sram short e = can_is sram short ∙ rw (eq-eqb p.place (total_of g) e) refl

  pub going_raises : (sram : List ℕ) → length sram ≤ most_sram → (p.place ≡ total_of g → ⊥) → (turned_of g image p sram).place ≡ p.place + 1
  going_raises sram short unfinished =
      let below : p.place < total_of g = omega (arith, going_within, unfinished) in
      ((power_fail g image).turns p sram).raises (going_accepted sram short) below
