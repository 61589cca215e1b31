-- A reset's reason is its comparison's, which has one answer; a declined one has the number 4. Assumes nothing.
use mathlib.Core.Path.{◌≡◌, refl, sym, ap, subst, ◌∙◌}
use mathlib.Core.Bool.{Bool, true, false, not}
use mathlib.Core.List.{List}
use Prim.Native.Nat.{ℕ}
use borrow.Author.Tests.{eqb-true}
use Rattle.words.specs.Quad.{word_at}
use Rattle.words.specs.Decline.{accepted_of}
use Rattle.geometry.specs.declared.banks.Geometry.{Geometry}
use Rattle.sequence.specs.Comparison.{Reason}
use Rattle.sequence.specs.Comparison.{Comparison}
use Rattle.sequence.specs.Sequence.{sequence_index_of}
use Rattle.sequence.specs.Comparison.{comparison}
use Rattle.sequence.specs.Reasons.{Reasons}
use Rattle.sequence.proofs.ComparisonLaws.{comparisons, one_reason}
use Rattle.device.specs.Record.{bfswap}
use Rattle.device.specs.State.{State}
use Rattle.resets.specs.Reset.{reset_reason_of}
use Rattle.controller.specs.Controller.{answer_of, transition_of}
use Rattle.controller.specs.Controller.Operation.{reset}
use Rattle.controller.specs.Reasons.{ResetReason, ResetReasons}
use Rattle.controller.proofs.Controller.{controller}

module _ (g : Geometry) (s : State) (sram : List ℕ) (kind : ℕ) (mask : List ℕ) where
  abbrev t : State
  t = transition_of g s (reset sram kind mask)

  abbrev own : Reason
  own = reset_reason_of g s sram kind mask

  abbrev first : ℕ
  first = word_at t.one (sequence_index_of g)

  abbrev other : ℕ
  other = word_at t.two (sequence_index_of g)

  reset_reason : ResetReason g s sram kind mask own
  reset_reason =
      record {
        passed_on = λ on. subst (Reasons first other) (sym (controller.compared g s sram kind mask on)) (comparisons.meets first other);
        not_compared = λ off. eqb-true _ _ (controller.not_compared g s sram kind mask ∙ ap not off);
      }

  one_reset_reason : (reason : Reason) → ResetReason g s sram kind mask reason → reason ≡ own
  one_reset_reason reason r = go (accepted_of (answer_of g s (reset sram kind mask))) refl
    where
      go : (a : Bool) → accepted_of (answer_of g s (reset sram kind mask)) ≡ a → reason ≡ own
      go true on =
          let same = comparisons.fixes first other (comparison (bfswap t.device) reason) (r.passed_on on) in
          ap (λ (c : Comparison). c.reason) (same ∙ sym (controller.compared g s sram kind mask on))
      go false off = one_reason reason own (r.not_compared off ∙ sym (reset_reason.not_compared off))

pub reset_reasons : ResetReasons
reset_reasons = record { meets = reset_reason; fixes = one_reset_reason }
