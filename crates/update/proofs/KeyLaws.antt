-- The key step after a turn: at most 1, but after the second and the third key store. Assumes nothing.
use mathlib.Core.Path.{◌≡◌, refl, sym, ap, ◌∙◌}
use mathlib.Core.Bool.{Bool, true, false, not}
use mathlib.Core.List.{List}
use Prim.Native.Nat.{ℕ, ◌+◌, ◌≤◌, ◌<◌}
use native.Mathlib.Omega.{arith}
use lib.Dec.{eqb, ltb}
use borrow.Author.Tests.{eqb-true, not-false}
use Rattle.words.specs.Word.{pick}
use Rattle.words.specs.Decline.{accepted_of}
use Rattle.words.proofs.BitLaws.{true_not_false}
use Rattle.words.proofs.PickLaws.{pick_both, and_both}
use Rattle.geometry.specs.declared.banks.Geometry.{Geometry}
use Rattle.device.specs.declared.record.Device.{Device}
use Rattle.device.specs.Answer.{Answer}
use Rattle.device.specs.Numbers.{NVMCON, NVMKEY, key1, plain, invert}
use Rattle.device.specs.Record.{running, register_of, op_of}
use Rattle.device.specs.State.{State}
use Rattle.register_fields.specs.Fields.{wanted_of, key_next_of}
use Rattle.nvmop.specs.Operation.{length_of}
use Rattle.common_declines.specs.Possible.{running_of, possible_of}
use Rattle.common_declines.proofs.PossibleLaws.{possible}
use Rattle.register_access.specs.Store.{has_form_of, store_decline_of, applied_of, store_accepted_of, store_of}
use Rattle.register_access.proofs.AcceptedLaws.{store_ready}
use Rattle.flash.specs.Effect.{effect_of}
use Rattle.flash.specs.Step.{advance_of, step_of}
use Rattle.flash.proofs.AcceptedLaws.{step_ready}
use Rattle.controller.proofs.RunLaws.{by_store}
use Rattle.controller.proofs.WriteLaws.{by_step}
use Rattle.update.specs.declared.actions.Action.{Action}
use Rattle.update.specs.declared.actions.Action.TheVariants.{Store, Step}
use Rattle.update.specs.Actions.{total_of}
use Rattle.update.specs.Turn.{next_action_of, perform_of, turn_of}
use Rattle.update.specs.PowerFail.{Position, turned_of}
use Rattle.update.specs.Probes.{later_key_of}
use Rattle.update.proofs.TurnLaws.{performs, answers_so}

-- ---- a store
-- the key step that a store to NVMKEY leaves
abbrev key_left : Device → ℕ → ℕ → ℕ → ℕ
key_left d r form value = pick (eqb r NVMKEY) (key_next_of d.keystep (wanted_of form (register_of d r) value)) 0

-- of the first key it is 1
first_key : (d : Device) (form value : ℕ) → has_form_of NVMKEY form ≡ true → not (eqb value key1) ≡ false → key_left d NVMKEY form value ≤ 1
unfolding has_form_of key_next_of
first_key d form value formed early =
    let is_plain = held_form (ltb invert form) formed in
    rw (is_plain, not-false (eqb value key1) early) (omega arith)
  where
    held_form : (t : Bool) → pick t false (eqb form plain) ≡ true → eqb form plain ≡ true
    held_form true h = true_not_false (sym h)
    held_form false h = h

key_left_lem : (d : Device) (r form value : ℕ) → has_form_of r form ≡ true → later_key_of (Store r form value) ≡ false → key_left d r form value ≤ 1
key_left_lem d r form value formed early = go (eqb r NVMKEY) refl
  where
    go : (t : Bool) → eqb r NVMKEY ≡ t → key_left d r form value ≤ 1
    go false e = rw e (omega arith)
    go true e = let key = eqb-true r NVMKEY e in rw key (first_key d form value (rw key at formed) (rw key at early))

carried_key : (g : Geometry) (d : Device) (r form value : ℕ) → accepted_of (store_decline_of g d r form) ≡ true
    → later_key_of (Store r form value) ≡ false → (store_of g d r form value).device.keystep ≤ 1
unfolding store_of store_accepted_of applied_of
carried_key g d r form value ok early =
    rw ok
    (pick_both (λ (a : Answer). a.device.keystep ≤ 1) (eqb r NVMCON) (omega arith)
    (key_left_lem d r form value (store_ready g d r form ok).formed early))

stored_key : (g : Geometry) (d : Device) (r form value : ℕ) → accepted_of (store_of g d r form value).decline ≡ true
    → later_key_of (Store r form value) ≡ false → (store_of g d r form value).device.keystep ≤ 1
stored_key g d r form value on early =
    by_store g d r form value (λ a. accepted_of a.decline ≡ true → a.device.keystep ≤ 1)
    (λ ok h. carried_key g d r form value ok early)
    (λ off h. true_not_false (sym h ∙ off))
    on

-- ---- a step: while an operation runs the key step is 0, and a step leaves it
running_key : (g : Geometry) (d : Device) → possible_of g d ≡ true → running d ≡ true → d.keystep ≡ 0
unfolding running_of
running_key g d can on = eqb-true d.keystep 0 (and_both (eqb d.keystep 0) _ (rw on at (possible g d can).runs)).0

advanced_key : (g : Geometry) (d : Device) (aborts : Bool) → (advance_of g d aborts).device.keystep ≡ d.keystep
unfolding advance_of
advanced_key g d aborts =
    pick_both (λ (a : Answer). a.device.keystep ≡ d.keystep) aborts refl
    (pick_both (λ (a : Answer). a.device.keystep ≡ d.keystep) (eqb (d.step + 1) (length_of g (op_of d))) refl refl)

stepped_key : (g : Geometry) (s : State) (sram : List ℕ) → accepted_of (step_of g s sram).decline ≡ true → (step_of g s sram).state.device.keystep ≤ 1
stepped_key g s sram =
    by_step g s sram (λ a. accepted_of a.decline ≡ true → a.state.device.keystep ≤ 1)
    (λ on h.
    let (ready, runs, going) = step_ready g s.device _ _ _ on in
    omega (arith, advanced_key g s.device (effect_of g s sram).aborts, running_key g s.device ready.possible going))
    (λ off h. true_not_false (sym h ∙ off))

-- ---- a turn
performed_key : (g : Geometry) (s : State) (sram : List ℕ) (a : Action) → accepted_of (perform_of g s sram a).decline ≡ true → later_key_of a ≡ false
    → (perform_of g s sram a).state.device.keystep ≤ 1
performed_key g s sram (Store r form value) on early = stored_key g s.device r form value on early
performed_key g s sram Step on early = stepped_key g s sram on

pub met_low : (g : Geometry) (image : List ℕ) (p : Position) (sram : List ℕ)
    → accepted_of (turn_of g p.state image sram p.place).decline ≡ true → p.place < total_of g
    → later_key_of (next_action_of g p.state image p.place) ≡ false → (turned_of g image p sram).state.device.keystep ≤ 1
met_low g image p sram on l early =
    let done = performs g s image sram p.place l (ap accepted_of (sym (answers_so g s image sram p.place)) ∙ on) in
    rw done (performed_key g s sram (next_action_of g s image p.place) (rw done at on) early)
  where
    s : State
    s = p.state
