-- A read that does not wait leaves the state; one that waits ends with WR at 0: each step raises the step number or ends the operation.
-- Assumes nothing.
use mathlib.Core.Path.{◌≡◌, refl, sym, ap, ◌∙◌}
use Rattle.std.specs.Prelude.{Ok, Err}
use mathlib.Core.Bool.{Bool, true, false, not, ◌&&◌, and-false}
use mathlib.Core.List.{List, [], ◌∷◌}
use Prim.Native.Nat.{ℕ, zero, suc, ◌+◌, ◌≤◌}
use native.Mathlib.Omega.{arith}
use lib.Dec.{eqb}
use lib.ListN.{length, replicate}
use Rattle.words.specs.Word.{pick, bit, has_of, clear_of}
use Rattle.words.specs.Decline.{accepted_of}
use Rattle.words.proofs.PickLaws.{and_both, pick_both}
use Rattle.words.proofs.BitLaws.{true_not_false, clear_bit, has_bit}
use Rattle.geometry.specs.declared.banks.Geometry.{Geometry}
use Rattle.geometry.specs.Banks.{in_range_of}
use Rattle.geometry.proofs.SizeLaws.{in-range}
use Rattle.map.specs.Windows.{locate_of}
use Rattle.device.specs.declared.record.Device.{Device}
use Rattle.device.specs.Answer.{Answer}
use Rattle.device.specs.Registers.{WR, WRERR}
use Rattle.device.specs.Builders.{with_con}
use Rattle.device.specs.Record.{running, bfswap, pfswap, op_of}
use Rattle.protection.specs.Protection.{pwp_of}
use Rattle.words.specs.declared.decline.Decline.{Decline}
use Rattle.device.specs.State.{State, after}
use Rattle.nvmop.specs.Operation.{length_of}
use Rattle.flash.specs.Effect.{effect_of}
use Rattle.flash.specs.Step.{advanced, ended_of, advance_of, step_decline_of, step_answer_of, step_of}
use Rattle.flash.proofs.AcceptedLaws.{runs}
use Rattle.common_declines.proofs.CommonDeclineLaws.{opens}
use Rattle.reads.specs.Read.{second_at_of, free_of, stepped, steps_of, remaining_of, waited_of, read_answer_of, waits_of, word_read_of}
use Rattle.reads.specs.Read.{Reading, reading, flash_read_of}
use Rattle.reads.proofs.AcceptedLaws.{read_ready}
use Rattle.reads.proofs.StepsLaws.{worked_on}
use Rattle.controller.specs.Controller.{run_of, Sound}
use Rattle.words.proofs.DeclineLaws.{held, neither}
use Rattle.common_declines.specs.CommonDecline.{common_decline_of}
use Rattle.controller.proofs.WriteLaws.{by_step, by_advance}
use Rattle.controller.specs.Controller.Operation.{step}
use Rattle.controller.proofs.KeepLaws.{cleared_bit}
use Rattle.controller.proofs.RunLaws.{run_sound}
use borrow.Author.Tests.{not-true, eqb-true}

-- ---- what a step leaves of the device
module _ (g : Geometry) (s : State) (sram : List ℕ) where
  abbrev before : Device
  before = s.device

  abbrev left : Device
  left = (step_of g s sram).state.device

  by_left : (P : Device → Type 0) → P (ended_of before (clear_of before.nvmcon.0 WR)) → P (ended_of before (clear_of before.nvmcon.0 (WR + WRERR)))
      → P (with_con before before.nvmcon.0 before.keystep (before.step + 1)) → P before → P left
  by_left P aborted last more same =
      by_step g s sram (λ a. P a.state.device) (λ on. by_advance g before P aborted last more (effect_of g s sram).aborts) (λ off. same)

  pub step_boot : bfswap left ≡ bfswap before
  step_boot = by_left (λ e. bfswap e ≡ bfswap before) (cleared_bit before WR 6 refl) (cleared_bit before (WR + WRERR) 6 refl) refl refl

  pub step_program : pfswap left ≡ pfswap before
  step_program = by_left (λ e. pfswap e ≡ pfswap before) (cleared_bit before WR 7 refl) (cleared_bit before (WR + WRERR) 7 refl) refl refl

  pub step_bwp : left.nvmbwp.0 ≡ before.nvmbwp.0
  step_bwp = by_left (λ e. e.nvmbwp.0 ≡ before.nvmbwp.0) refl refl refl refl

  pub step_pwp : pwp_of left ≡ pwp_of before
  step_pwp = by_left (λ e. pwp_of e ≡ pwp_of before) refl refl refl refl

-- ---- a read that does not wait
pub read_same : (g : Geometry) (s : State) (sram : List ℕ) (address : ℕ) → waits_of g s sram address ≡ false
    → (flash_read_of g s sram address).after.state ≡ s
unfolding flash_read_of
read_same g s sram address = go (accepted_of (read_answer_of g s sram address)) (free_of g s.device (second_at_of s.device (locate_of g address)))
  where
    done : Bool → Bool → Reading
    done a free =
        pick a
        (let t = pick free (stepped s false) (waited_of g s sram) in reading (after (Ok tt) t.state t.event) (word_read_of g t.state address))
        (reading (after (read_answer_of g s sram address) s false) 0)

    go : (a f : Bool) → (a && not f) ≡ false → (done a f).after.state ≡ s
    go true true h = refl
    go true false h = true_not_false h
    go false f h = refl

-- ---- a read that waits
-- where no decline applies a step is carried out
pub step-accepted : (g : Geometry) (s : State) (sram : List ℕ) → in_range_of g ≡ true → Sound g s → length sram ≤ 16384 → running s.device ≡ true
    → accepted_of (step_answer_of g s sram) ≡ true
unfolding step_decline_of
step-accepted g s sram listed sound short on =
    rw (opens g s.device (length s.one ∷ length s.two ∷ []) (length sram) listed (sound.first, (sound.other, tt)) short sound.possible, on)

-- with WR cleared no operation runs
pub ended_idle : (d : Device) (mask : ℕ) → bit 15 mask ≡ true → has_of (clear_of d.nvmcon.0 mask) WR ≡ false
ended_idle d mask on =
    has_bit 15 (clear_of d.nvmcon.0 mask)
    ∙ clear_bit 15 d.nvmcon.0 mask
    ∙ ap (λ (t : Bool). bit 15 d.nvmcon.0 && not t) on
    ∙ and-false (bit 15 d.nvmcon.0)

-- where WR falls it gives an event
pub last_event : (g : Geometry) (s : State) (sram : List ℕ) → accepted_of (step_answer_of g s sram) ≡ true → running s.device ≡ true
    → running (step_of g s sram).state.device ≡ false → (step_of g s sram).event ≡ true
unfolding advance_of
last_event g s sram ok on =
    by_step g s sram (λ a. running a.state.device ≡ false → a.event ≡ true)
    (λ on'.
    pick_both P (effect_of g s sram).aborts (λ idle. refl)
    (pick_both P (eqb (d.step + 1) (length_of g (op_of d))) (λ idle. refl) (λ idle. true_not_false (sym on ∙ idle))))
    (λ off. true_not_false (sym ok ∙ off))
  where
    d : Device
    d = s.device

    P : Answer → Type 0
    P a = running a.device ≡ false → a.event ≡ true

-- while it goes on at most one step less is left
pub one_less : (g : Geometry) (s : State) (sram : List ℕ) (n : ℕ) → suc n ≤ remaining_of g s.device
    → let e = (step_of g s sram).state.device in running e ≡ true → n ≤ remaining_of g e
one_less g s sram n some =
    by_left g s sram (λ e. running e ≡ true → n ≤ remaining_of g e) (λ runs. true_not_false (sym runs ∙ ended_idle s.device WR refl))
    (λ runs. true_not_false (sym runs ∙ ended_idle s.device (WR + WRERR) refl)) (λ runs. omega (arith, some)) (λ runs. omega (arith, some))

-- and where it does not abort only the last step ends it
pub last_ends : (g : Geometry) (s : State) (sram : List ℕ) → accepted_of (step_answer_of g s sram) ≡ true → running s.device ≡ true
    → (effect_of g s sram).aborts ≡ false → running (step_of g s sram).state.device ≡ false → remaining_of g s.device ≤ 1
unfolding step_of advance_of
last_ends g s sram ok on none = rw (ok, none) (go (eqb (s.device.step + 1) (length_of g (op_of s.device))) refl)
  where
    d : Device
    d = s.device

    go : (t : Bool) → eqb (d.step + 1) (length_of g (op_of d)) ≡ t
        → running (pick t (advanced (ended_of d (clear_of d.nvmcon.0 (WR + WRERR))) true)
        (advanced (with_con d d.nvmcon.0 d.keystep (d.step + 1)) false)).device ≡ false
        → remaining_of g d ≤ 1
    go true e off = omega (arith, eqb-true (d.step + 1) (length_of g (op_of d)) e)
    go false e off = true_not_false (sym on ∙ off)

module _ (g : Geometry) (sram : List ℕ) (listed : in_range_of g ≡ true) (short : length sram ≤ 16384) where
  -- one step less is left
  pub fewer : (s : State) → Sound g s → running s.device ≡ true → (n : ℕ) → remaining_of g s.device ≤ suc n
      → let e = (step_of g s sram).state.device in running e ≡ true → remaining_of g e ≤ n
  fewer s sound on n few =
      by_step g s sram (λ a. running a.state.device ≡ true → remaining_of g a.state.device ≤ n)
      (λ ok.
      by_advance g d (λ e. running e ≡ true → remaining_of g e ≤ n) (λ runs. true_not_false (sym runs ∙ ended_idle d WR refl))
      (λ runs. true_not_false (sym runs ∙ ended_idle d (WR + WRERR) refl)) (λ runs. omega (arith, few)) (effect_of g s sram).aborts)
      (λ off runs. true_not_false (sym (step-accepted g s sram listed sound short on) ∙ off))
    where
      d : Device
      d = s.device

  steps_end : (n : ℕ) (s : State) → Sound g s → running s.device ≡ true → remaining_of g s.device ≤ n
      → running (steps_of g sram n s).state.device ≡ false
  unfolding steps_of
  steps_end zero s sound on few =
      let run = runs g s.device (in-range g listed) sound.possible on in
      absurd (omega (arith, run.below, few))
  steps_end (suc n) s sound on few =
      go (running t.device) refl (λ e. steps_end n t (run_sound g s sound (step sram ∷ []) (tt, tt)) e (fewer s sound on n few e))
    where
      t : State
      t = (step_of g s sram).state

      go : (on' : Bool) → running t.device ≡ on' → (running t.device ≡ true → running (steps_of g sram n t).state.device ≡ false)
          → running (pick on' (steps_of g sram n t) (stepped t (step_of g s sram).event)).state.device ≡ false
      go true e rest = rest e
      go false e rest = e

pub read_ends : (g : Geometry) (s : State) (sram : List ℕ) (address : ℕ) → waits_of g s sram address ≡ true
    → running (flash_read_of g s sram address).after.state.device ≡ false
unfolding flash_read_of
read_ends g s sram address waits =
    let free = free_of g s.device (second_at_of s.device (locate_of g address)) in
    let (ok, busy) = and_both (accepted_of (read_answer_of g s sram address)) (not free) waits in
    let (ready, inside) = read_ready g s.device _ _ _ address ok in
    let sound : Sound g s = record { possible = ready.possible; first = ready.lent.banks.0; other = ready.lent.banks.1.0 } in
    let on = worked_on g s.device _ (not-true free busy) in
    rw (ok, not-true free busy)
    (steps_end g sram ready.lent.listed ready.lent.room (remaining_of g s.device) s sound on (omega arith))

-- a read that waits is made while an operation runs, and at rest none waits
pub waits_runs : (g : Geometry) (s : State) (sram : List ℕ) (address : ℕ) → waits_of g s sram address ≡ true → running s.device ≡ true
waits_runs g s sram address waits =
    let free = free_of g s.device (second_at_of s.device (locate_of g address)) in
    worked_on g s.device _ (not-true free (and_both (accepted_of (read_answer_of g s sram address)) (not free) waits).1)

-- with an SRAM that is not too long
pub waits_short : (g : Geometry) (s : State) (sram : List ℕ) (address : ℕ) → waits_of g s sram address ≡ true → length sram ≤ 16384
waits_short g s sram address waits =
    let free = free_of g s.device (second_at_of s.device (locate_of g address)) in
    let ok = (and_both (accepted_of (read_answer_of g s sram address)) (not free) waits).0 in
    (read_ready g s.device _ _ _ address ok).0.lent.room

pub idle_free : (g : Geometry) (s : State) (sram : List ℕ) (address : ℕ) → running s.device ≡ false → waits_of g s sram address ≡ false
unfolding free_of
idle_free g s sram address idle = rw idle (and-false (accepted_of (read_answer_of g s sram address)))

-- ---- the steps of a read as single steps
-- at rest a step is declined and changes nothing
step_idle : (g : Geometry) (s : State) (sram : List ℕ) → running s.device ≡ false → (step_of g s sram).state ≡ s
unfolding step_decline_of
step_idle g s sram idle =
    by_step g s sram (λ a. a.state ≡ s)
    (λ on.
    true_not_false
    (sym (held (running s.device) (Ok tt) (Err Decline.Idle) refl (neither (common_decline_of g s.device _ (length sram)) _ on).1).0 ∙ idle))
    (λ off. refl)

steps_idle : (g : Geometry) (s : State) (sram : List ℕ) (n : ℕ) → running s.device ≡ false → run_of g s (replicate n (step sram)) ≡ s
steps_idle g s sram zero idle = refl
steps_idle g s sram (suc n) idle =
    ap (λ (t : State). run_of g t (replicate n (step sram))) (step_idle g s sram idle) ∙ steps_idle g s sram n idle

pub steps_run : (g : Geometry) (sram : List ℕ) (n : ℕ) (s : State) → (steps_of g sram n s).state ≡ run_of g s (replicate n (step sram))
unfolding steps_of
steps_run g sram zero s = refl
steps_run g sram (suc n) s = go (running (step_of g s sram).state.device) refl (steps_run g sram n (step_of g s sram).state)
  where
    t : State
    t = (step_of g s sram).state

    go : (on : Bool) → running t.device ≡ on → (steps_of g sram n t).state ≡ run_of g t (replicate n (step sram))
        → (pick on (steps_of g sram n t) (stepped t (step_of g s sram).event)).state ≡ run_of g t (replicate n (step sram))
    go true e rest = rest
    go false e rest = sym (steps_idle g t sram n e)

-- what a read that waits leaves
pub read_steps : (g : Geometry) (s : State) (sram : List ℕ) (address : ℕ) → waits_of g s sram address ≡ true
    → (flash_read_of g s sram address).after.state ≡ (steps_of g sram (remaining_of g s.device) s).state
unfolding flash_read_of
read_steps g s sram address waits =
    let free = free_of g s.device (second_at_of s.device (locate_of g address)) in
    let (ok, busy) = and_both (accepted_of (read_answer_of g s sram address)) (not free) waits in
    rw (ok, not-true free busy)
