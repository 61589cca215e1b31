-- A step leaves a possible device, so that while WR stays 1 the next step is not declined either. Assumes nothing.
use mathlib.Core.Path.{◌≡◌, refl, ◌∙◌}
use mathlib.Core.Bool.{Bool, true, false, not, and-false}
use mathlib.Core.List.{List, [], ◌∷◌}
use Prim.Native.Nat.{ℕ, ◌+◌, ◌<◌}
use native.Mathlib.Omega.{arith}
use lib.Dec.{eqb, ltb}
use lib.ListN.{length}
use borrow.Author.Tests.{eqb-false, lt-ltb, ltb-true}
use Rattle.words.specs.Decline.{accepted_of}
use Rattle.words.specs.Word.{pick, bit, has_of, clear_of}
use Rattle.words.proofs.PickLaws.{pick_both, and_both}
use Rattle.words.proofs.BitLaws.{clear_bit, has_bit}
use Rattle.words.proofs.MaskLaws.{Within, clear_within}
use Rattle.geometry.specs.declared.banks.Geometry.{Geometry}
use Rattle.device.specs.declared.record.Device.{Device}
use Rattle.device.specs.Answer.{Answer}
use Rattle.device.specs.Registers.{WR, WRERR, LVDERR}
use Rattle.device.specs.Builders.{with_con}
use Rattle.device.specs.Record.{running, op_of, no_operands}
use Rattle.device.specs.State.{State}
use Rattle.nvmop.specs.Operation.{launched_begins_of, length_of}
use Rattle.common_declines.specs.Possible.{launched_fits_of, nothing_launched_of, running_of, resting_of, possible_of}
use Rattle.common_declines.proofs.PossibleLaws.{Possible, possible, possible_test, same_rows, same_launched}
use Rattle.common_declines.proofs.CommonDeclineLaws.{Ready, opens}
use Rattle.flash.specs.Step.{advanced, ended_of, advance_of, step_decline_of, step_answer_of, step_of}
use Rattle.flash.specs.Effect.{effect_of}
use Rattle.flash.proofs.AcceptedLaws.{step_ready}

-- ---- the device
module _ (g : Geometry) (d : Device) (can : possible_of g d ≡ true) (on : running d ≡ true) where
  was : Possible g d
  was = possible g d can

  -- with WR = 0 and step number 0
  rested : (con : ℕ) → Within 0xF0CF con → bit 15 con ≡ false → possible_of g (ended_of d con) ≡ true
  unfolding launched_fits_of resting_of nothing_launched_of
  rested con h off =
      possible_test g (ended_of d con)
      (record {
        rows = same_launched _ no_operands (same_rows d con d.keystep 0 h was.rows);
        launched = refl;
        always = was.always;
        keys = was.keys;
        runs = rw (has_bit 15 con ∙ off);
      })

  going : (eqb (d.step + 1) (length_of g (op_of d)) ≡ false) → possible_of g (with_con d d.nvmcon.0 d.keystep (d.step + 1)) ≡ true
  unfolding running_of
  going more =
      let s0 = and_both (eqb d.keystep 0) _ (rw on at was.runs) in
      let s1 = and_both (has_of d.nvmcon.0 WRERR) _ s0.1 in
      let s2 = and_both (not (has_of d.nvmcon.0 LVDERR)) _ s1.1 in
      let s3 = and_both (launched_begins_of g d) (ltb d.step (length_of g (op_of d))) s2.1 in
      let lt : d.step < length_of g (op_of d) = ltb-true _ _ s3.1 in
      let ne : d.step + 1 ≡ length_of g (op_of d) → ⊥ = eqb-false _ _ more in
      let next : d.step + 1 < length_of g (op_of d) = omega arith in
      possible_test g (with_con d d.nvmcon.0 d.keystep (d.step + 1))
      (record {
        rows = same_rows d _ d.keystep (d.step + 1) was.rows.con was.rows;
        launched = was.launched;
        always = was.always;
        keys = was.keys;
        runs = rw (on, s0.0, s1.0, s2.0, s3.0, lt-ltb _ _ next);
      })

  pub advance_possible : (aborts : Bool) → possible_of g (advance_of g d aborts).device ≡ true
  unfolding advance_of
  advance_possible aborts =
      pick_both P aborts (rested (clear_of d.nvmcon.0 WR) (clear_within 0xF0CF _ WR was.rows.con)
      (clear_bit 15 d.nvmcon.0 WR ∙ and-false (bit 15 d.nvmcon.0)))
      (go (eqb (d.step + 1) (length_of g (op_of d))) refl)
    where
      P : Answer → Type 0
      P a = possible_of g a.device ≡ true

      go : (t : Bool) → eqb (d.step + 1) (length_of g (op_of d)) ≡ t
          → P (pick t (advanced (ended_of d (clear_of d.nvmcon.0 (WR + WRERR))) true)
          (advanced (with_con d d.nvmcon.0 d.keystep (d.step + 1)) false))
      go true e = rested (clear_of d.nvmcon.0 0xA000) (clear_within 0xF0CF _ 0xA000 was.rows.con)
          (clear_bit 15 d.nvmcon.0 0xA000 ∙ and-false (bit 15 d.nvmcon.0))
      go false e = going e

-- ---- when a step is not declined
pub step_accepts : (g : Geometry) (d : Device) (one two sram : ℕ) → Ready g d (one ∷ two ∷ []) sram → running d ≡ true
    → accepted_of (step_decline_of g d one two sram) ≡ true
unfolding step_decline_of
step_accepts g d one two sram ready on =
    let lent = ready.lent in
    rw (opens g d (one ∷ two ∷ []) sram lent.listed lent.banks lent.room ready.possible, on)

-- the next step, while WR is 1
pub next_accepts : (g : Geometry) (s : State) (sram : List ℕ) → accepted_of (step_answer_of g s sram) ≡ true
    → let e = (step_of g s sram).state.device in running e ≡ true
    → accepted_of (step_decline_of g e (length s.one) (length s.two) (length sram)) ≡ true
unfolding step_of
next_accepts g s sram accepted still =
    let (ready, _, on) = step_ready g s.device _ _ _ accepted in
    let e = (advance_of g s.device (effect_of g s sram).aborts).device in
    let can = advance_possible g s.device ready.possible on (effect_of g s sram).aborts in
    let runs : running e ≡ true = rw accepted at still in
    rw accepted (step_accepts g e _ _ _ (record { lent = ready.lent; possible = can }) runs)
