-- What a record answers: a number of one digit always, and 0, 4, 5 or 6 on a possible device over banks of the geometry's length.
-- Assumes nothing.
use mathlib.Core.Path.{◌≡◌, refl, sym}
use Rattle.std.specs.Prelude.{Ok, Err}
use mathlib.Core.Bool.{Bool, true, false}
use mathlib.Core.List.{List, [], ◌∷◌}
use mathlib.Core.Logic.{◌⊎◌, inl, inr}
use Prim.Native.Nat.{ℕ, ◌≤◌, ◌<◌}
use native.Mathlib.Omega.{arith}
use borrow.Author.Tests.{leb-true, le-ltb}
use lib.Dec.{eqb, ltb, leb}
use lib.ListN.{length}
use Rattle.words.specs.Word.{pick}
use Rattle.words.proofs.PickLaws.{pick_both, and_both}
use Rattle.words.proofs.BitLaws.{true_not_false}
use Rattle.geometry.specs.declared.banks.Geometry.{Geometry}
use Rattle.words.specs.declared.decline.Decline.{Decline}
use Rattle.geometry.specs.Banks.{in_range_of}
use Rattle.words.specs.Decline.{Verdict, number_of, accepted_of}
use Rattle.geometry.specs.Lent.{lengths_fit_of, lent_decline_of, lent_decline_up_to}
use Rattle.device.specs.declared.record.Device.{Device}
use Rattle.device.specs.Record.{running}
use Rattle.common_declines.specs.Possible.{possible_of}
use Rattle.common_declines.specs.CommonDecline.{common_decline_of}
use Rattle.common_declines.proofs.CommonDeclineLaws.{opens}
use Rattle.device.specs.Answer.{Answer}
use Rattle.register_access.specs.Store.{has_form_of, may_store_of, store_decline_of, store_accepted_of, store_of}
use Rattle.flash.specs.Step.{step_decline_of, step_of}
use Rattle.resets.specs.Reset.{reset_decline_of, Explained, explained_of, reset_of}
use Rattle.device.specs.State.{State, state, After}
use Rattle.controller.specs.Controller.{Sound}
use Rattle.script_format.specs.declared.Record.{Record}
use Rattle.script_format.specs.Records.{is_reset_of, is_record_of}
use Rattle.script_record.specs.Record.{mask_zero, record_after_of}

-- ---- what holds of every answer that a call can give holds of the call's answer

module _ (P : Verdict → Type 0) (g : Geometry) (d : Device) (accepted : P (Ok tt)) where
  store-answer : (r form value : ℕ) → P (common_decline_of g d [] 0) → P (Err Decline.Register) → P (Err Decline.Running)
      → P (store_of g d r form value).decline
  unfolding store_of store_accepted_of store_decline_of
  store-answer r form value common register run =
      pick_both (λ (a : Answer). P a.decline) (accepted_of (store_decline_of g d r form))
      (pick_both (λ (a : Answer). P a.decline) (eqb r 0) accepted accepted)
      (pick_both P (accepted_of (common_decline_of g d [] 0))
      (pick_both P (has_form_of r form) (pick_both P (may_store_of d r) accepted run) register)
      common)

  step-answer : (one two sram : List ℕ) → P (common_decline_of g d (length one ∷ length two ∷ []) (length sram)) → P (Err Decline.Idle)
      → P (step_of g (state d one two) sram).decline
  unfolding step_of step_decline_of
  step-answer one two sram common idle =
      pick_both (λ (a : After). P a.decline) (accepted_of (step_decline_of g d (length one) (length two) (length sram))) accepted
      (pick_both P (accepted_of (common_decline_of g d (length one ∷ length two ∷ []) (length sram))) (pick_both P (running d) accepted idle) common)

  reset-answer : (one two sram : List ℕ) (kind : ℕ) (mask : List ℕ) → P (common_decline_of g d (length one ∷ length two ∷ []) (length sram))
      → P (pick (ltb 2 kind) (Err Decline.ResetKind) (Ok tt)) → P (reset_of g (state d one two) sram kind mask).decline
  unfolding explained_of reset_decline_of
  reset-answer one two sram kind mask common known =
      pick_both (λ (e : Explained). P e.after.decline) (accepted_of (reset_decline_of g d (length one) (length two) (length sram) kind)) accepted
      (pick_both P (accepted_of (common_decline_of g d (length one ∷ length two ∷ []) (length sram))) known common)

-- ---- one digit

abbrev OneDigit : Verdict → Type 0
OneDigit d = number_of d < 10

common_decline_digit : (g : Geometry) (d : Device) (lengths : List ℕ) (sram : ℕ) → OneDigit (common_decline_of g d lengths sram)
unfolding common_decline_of lent_decline_up_to
common_decline_digit g d lengths sram =
    pick_both OneDigit (accepted_of (lent_decline_of g lengths sram))
    (pick_both OneDigit (possible_of g d) (omega arith) (omega arith))
    (pick_both OneDigit (in_range_of g) (pick_both OneDigit (lengths_fit_of g lengths sram) (omega arith) (omega arith)) (omega arith))

pub record_digit : (g : Geometry) (sram : List ℕ) (s : State) (r : Record) → number_of (record_after_of g sram s r).decline < 10
unfolding record_after_of
record_digit g sram s r =
    let d = s.device in
    let banks = common_decline_digit g d (length s.one ∷ length s.two ∷ []) (length sram) in
    pick_both (λ (a : After). OneDigit a.decline) (eqb r.kind 0)
    (store-answer OneDigit g d (omega arith) r.number r.form r.value (common_decline_digit g d [] 0) (omega arith) (omega arith))
    (pick_both (λ (a : After). OneDigit a.decline) (eqb r.kind 1)
    (step-answer OneDigit g d (omega arith) s.one s.two sram banks (omega arith))
    (reset-answer OneDigit g d (omega arith) s.one s.two sram r.number mask_zero banks
    (pick_both OneDigit (ltb 2 r.number) (omega arith) (omega arith))))

pub answer_digit : (g : Geometry) (sram : List ℕ) (s : State) (r : Record) (a : After) → a ≡ record_after_of g sram s r → number_of a.decline < 10
answer_digit g sram s r a e = rw e (record_digit g sram s r)

-- ---- 0, 4, 5 or 6

-- the answers that a record gets in a play
abbrev pub RecordAnswer : Verdict → Type 0
RecordAnswer d = (number_of d ≡ 0) ⊎ ((number_of d ≡ 4) ⊎ ((number_of d ≡ 5) ⊎ (number_of d ≡ 6)))

picked : (t x : Bool) → pick t x false ≡ true → x ≡ true
picked true x h = h
picked false x h = absurd (true_not_false (sym h))

-- a reset kind of a script is a known one
known_kind : (r : Record) → eqb r.kind 0 ≡ false → eqb r.kind 1 ≡ false → is_record_of r ≡ true → r.number ≤ 2
unfolding is_record_of is_reset_of
known_kind r store step known =
    let other = rw (store, step) at (picked (eqb r.unused 0) _ known) in
    leb-true r.number 2 (and_both (leb r.number 2) _ (picked (eqb r.kind 2) (is_reset_of r) other)).0

-- a known record on a possible device
pub record_answer : (g : Geometry) (sram : List ℕ) (s : State) (r : Record) → in_range_of g ≡ true → length sram ≤ 16384 → Sound g s → is_record_of r ≡ true
    → RecordAnswer (record_after_of g sram s r).decline
unfolding record_after_of
record_answer g sram s r listed room sound = go (eqb r.kind 0) refl (eqb r.kind 1) refl
  where
    none : RecordAnswer (Ok tt)
    none = inl refl

    alone : RecordAnswer (common_decline_of g s.device [] 0)
    alone = rw (opens g s.device [] 0 listed tt (omega arith) sound.possible) none

    banks : RecordAnswer (common_decline_of g s.device (length s.one ∷ length s.two ∷ []) (length sram))
    banks = rw (opens g s.device (length s.one ∷ length s.two ∷ []) (length sram) listed (sound.first, (sound.other, tt)) room
        sound.possible) none

    go : (a : Bool) → eqb r.kind 0 ≡ a → (b : Bool) → eqb r.kind 1 ≡ b → is_record_of r ≡ true → RecordAnswer (record_after_of g sram s r).decline
    go true ea b eb known =
        rw ea (store-answer RecordAnswer g s.device none r.number r.form r.value alone (inr (inl refl)) (inr (inr (inl refl))))
    go false ea true eb known = rw (ea, eb) (step-answer RecordAnswer g s.device none s.one s.two sram banks (inr (inr (inr refl))))
    go false ea false eb known =
        rw (ea, eb)
        (reset-answer RecordAnswer g s.device none s.one s.two sram r.number mask_zero banks
        (rw (le-ltb 2 r.number (known_kind r ea eb known)) none))
