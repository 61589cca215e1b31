-- The start asks by 01's four cases; after a cut of an update the old bank's sequence word is valid. Assumes nothing.
use mathlib.Core.Path.{◌≡◌, refl, sym, ap, ◌∙◌}
use mathlib.Core.Bool.{Bool, true, false, not, ◌&&◌}
use mathlib.Core.List.{List}
use Prim.Native.Nat.{ℕ}
use lib.Dec.{eqb}
use borrow.Author.Tests.{not-true, not-false}
use Rattle.words.specs.Quad.{word_at}
use Rattle.words.specs.Decline.{accepted_of}
use Rattle.words.proofs.BitLaws.{true_not_false}
use Rattle.words.proofs.PickLaws.{and_both}
use Rattle.geometry.specs.declared.banks.Geometry.{Geometry}
use Rattle.sequence.specs.Comparison.{Reason}
use Rattle.sequence.specs.Sequence.{sequence_index_of, valid_of}
use Rattle.sequence.specs.Comparison.{Comparison}
use Rattle.sequence.specs.Comparison.{reason_number_of, compare_of}
use Rattle.sequence.specs.Reasons.{ChosenBefore}
use Rattle.sequence.proofs.ComparisonLaws.{comparisons}
use Rattle.device.specs.Record.{running, bfswap}
use Rattle.device.specs.State.{State, bank_of}
use Rattle.reads.specs.Read.{same}
use Rattle.resets.specs.Reset.{comparison_of, reset_of, reset_reason_of}
use Rattle.controller.proofs.Controller.{controller}
use Rattle.update.specs.Start.{lower_valid_of, reset_keeps_of, swaps_agree_of, other_safe_of, sequence_allows_of}
use Rattle.update.specs.PowerFail.{at, turns_of, after_turns, Cut, reset_by, old, Update}
use Rattle.update.specs.Reasons.{UpdateReasons}
use Rattle.update.proofs.StandsLaws.{stands_turns}
use Rattle.update.proofs.StartLaws.{start_fixed, start_stands}
use Rattle.update.proofs.PowerFail.{reset_idle, kept_reset}

module _ (g : Geometry) where
  abbrev word_in : List ℕ → ℕ
  word_in bank = word_at bank (sequence_index_of g)

  -- a sign with a valid word in one of its banks has another reason
  not_none : (t : State) (second : Bool) → valid_of (word_in (bank_of t second)) ≡ true
      → eqb (reason_number_of (comparison_of g t.one t.two).reason) 3 ≡ true → ⊥
  not_none t second valid none =
      let (first, other) = and_both (not (valid_of (word_in t.one))) _ (sym (comparisons.meets (word_in t.one) (word_in t.two)).none ∙ none) in
      go second valid (not-true _ first) (not-true _ other)
    where
      go : (second : Bool) → valid_of (word_in (bank_of t second)) ≡ true → valid_of (word_in t.one) ≡ false → valid_of (word_in t.two) ≡ false → ⊥
      go true valid first other = true_not_false (sym valid ∙ other)
      go false valid first other = true_not_false (sym valid ∙ first)

  some_valid : (s : State) (image : List ℕ) → Update g s image → (srams : List (List ℕ)) (c : Cut)
      → reset_reason_of g (after_turns g s image srams) c.sram c.kind c.mask ≡ Reason.NoneValid → ⊥
  some_valid s image update srams c none =
      let u = start_fixed g s image update (old s) refl in
      let p = turns_of g image (at s 0) srams in
      let kept = kept_reset u p (stands_turns u (at s 0) (start_stands g s image update (old s) refl) srams) c in
      let compared = controller.compared g p.state c.sram c.kind c.mask (accepted p.state c none) in
      not_none (reset_by g p.state c).state (old s) (ap (λ (bank : List ℕ). valid_of (word_in bank)) kept ∙ u.valid)
      (ap (λ (r : Comparison). eqb (reason_number_of r.reason) 3) (sym compared) ∙ ap (λ (r : Reason). eqb (reason_number_of r) 3) none)
    where
      -- a declined reset has another reason
      accepted : (t : State) (c : Cut) → reset_reason_of g t c.sram c.kind c.mask ≡ Reason.NoneValid → accepted_of (reset_by g t c).decline ≡ true
      accepted t c none =
          not-false _
          (sym (controller.not_compared g t c.sram c.kind c.mask) ∙ ap (λ (r : Reason). eqb (reason_number_of r) 4) none)

  -- while no operation runs a reset compares what the banks hold
  same_comparison : (s : State) (sram : List ℕ) (kind : ℕ) (mask : List ℕ) → running s.device ≡ false
      → accepted_of (reset_of g s sram kind mask).decline ≡ true
      → reset_keeps_of g s ≡ same (bfswap (reset_of g s sram kind mask).state.device) (bfswap s.device)
  same_comparison s sram kind mask off on =
      let c : Cut = record { sram = sram; kind = kind; mask = mask } in
      let (one, two) = reset_idle g s c off in
      ap (λ (b : Bool). same b (bfswap s.device))
      (sym
      (ap (λ (r : Comparison). r.second) (controller.compared g s sram kind mask on)
      ∙ ap (λ (bank : List ℕ). (compare_of (word_in bank) (word_in (reset_of g s sram kind mask).state.two)).second) one
      ∙ ap (λ (bank : List ℕ). (compare_of (word_in s.one) (word_in bank)).second) two))

  -- what 01's cases choose is what the comparison chooses
  same_choice : (first other : ℕ) (second : Bool) → ChosenBefore first other second → (compare_of first other).second ≡ second
  same_choice first other second before = go (valid_of first) (valid_of other) refl refl
    where
      now : ChosenBefore first other (compare_of first other).second
      now = (comparisons.meets first other).chosen

      go : (f o : Bool) → valid_of first ≡ f → valid_of other ≡ o → (compare_of first other).second ≡ second
      go true true f o = now.both f o ∙ sym (before.both f o)
      go true false f o = now.only_first f o ∙ sym (before.only_first f o)
      go false true f o = now.only_other f o ∙ sym (before.only_other f o)
      go false false f o = now.none f o ∙ sym (before.none f o)

  start_asks : (s : State) (second : Bool) → ChosenBefore (word_in s.one) (word_in s.two) second
      → sequence_allows_of g s ≡ (lower_valid_of g s && (same second (bfswap s.device) && (swaps_agree_of s && other_safe_of g s)))
  unfolding sequence_allows_of
  start_asks s second before =
      ap (λ (b : Bool). lower_valid_of g s && (same b (bfswap s.device) && (swaps_agree_of s && other_safe_of g s)))
      (same_choice (word_in s.one) (word_in s.two) second before)

  pub update_reasons : UpdateReasons g
  update_reasons = record { same_comparison = same_comparison; start_asks = start_asks; some_valid = some_valid }
