-- Each step of a read that waits is a single step: its quad is the only one that it writes, the last gives the event. Assumes nothing.
use mathlib.Core.Path.{◌≡◌, refl, sym, ap, ◌∙◌}
use mathlib.Core.Bool.{Bool, true, false, not}
use mathlib.Core.Logic.{◌⊎◌, inl, inr}
use mathlib.Core.List.{List, [], ◌∷◌}
use Prim.Native.Nat.{ℕ, zero, suc, ◌+◌, ◌*◌, ◌≤◌, ◌<◌}
use native.Mathlib.Omega.{arith}
use lib.Dec.{eqb}
use lib.ListN.{length, replicate}
use borrow.Author.Tests.{not-true, eqb-true, le-leb}
use Rattle.words.specs.Word.{pick, has_of, clear_of}
use Rattle.words.specs.Quad.{word_at}
use Rattle.words.specs.Decline.{Verdict, number_of, accepted_of, first_of}
use Rattle.words.proofs.PickLaws.{pick_both, and_both}
use Rattle.words.proofs.BitLaws.{true_not_false}
use Rattle.common_declines.specs.Possible.{running_of, possible_of}
use Rattle.common_declines.proofs.PossibleLaws.{possible}
use Rattle.geometry.specs.declared.banks.Geometry.{Geometry}
use Rattle.geometry.specs.Banks.{in_range_of, page_words_of, page_quads_of}
use Rattle.geometry.specs.Lent.{most_sram, lengths_fit_of, lent_decline_up_to}
use Rattle.geometry.proofs.SizeLaws.{in-range}
use Rattle.map.specs.Windows.{locate_of}
use Rattle.device.specs.declared.record.Device.{Device}
use Rattle.device.specs.Answer.{Answer}
use Rattle.device.specs.Registers.{WR, WRERR}
use Rattle.device.specs.Builders.{with_con}
use Rattle.device.specs.Record.{running, op_of}
use Rattle.device.specs.State.{State, bank_of}
use Rattle.nvmop.specs.Operation.{length_of}
use Rattle.common_declines.specs.CommonDecline.{common_decline_of}
use Rattle.flash.specs.Effect.{step_at_of, effect_of}
use Rattle.flash.specs.Step.{advanced, ended_of, advance_of, step_answer_of, step_of}
use Rattle.flash.proofs.AcceptedLaws.{runs}
use Rattle.reads.specs.Read.{second_at_of, free_of, Stepped, stepped, steps_of, remaining_of, read_answer_of, waits_of}
use Rattle.reads.specs.Read.{flash_read_of}
use Rattle.reads.proofs.AcceptedLaws.{read_ready}
use Rattle.reads.proofs.StepsLaws.{worked_on}
use Rattle.controller.specs.Controller.{run_of, Sound, Outside, step_second_of, step_quad_of}
use Rattle.controller.specs.Controller.Operation.{flash_read, step}
use Rattle.controller.specs.FlashReads.{Stalls}
use Rattle.controller.specs.Waits.{Untouched, OffPage, LeftBySteps, Waited, Waits}
use Rattle.controller.proofs.FlashReads.{lengths_of, addressed, same_number, stalled, stalls}
use Rattle.controller.proofs.WriteLaws.{by_step, by_advance, step_writes, one_quad}
use Rattle.controller.proofs.KeepLaws.{cleared_bit, keeps}
use Rattle.controller.proofs.RunLaws.{run_sound}
use Rattle.controller.proofs.WaitLaws.{step-accepted, ended_idle, last_event, fewer, read_ends}

-- ---- one step of a running operation
-- where WR stays set it raises the step number and changes nothing else of the device
next_device : (g : Geometry) (s : State) (sram : List ℕ) → accepted_of (step_answer_of g s sram) ≡ true → let e = (step_of g s sram).state.device in
    running e ≡ true → e ≡ with_con s.device s.device.nvmcon.0 s.device.keystep (s.device.step + 1)
next_device g s sram ok =
    let d = s.device in
    by_step g s sram (λ a. running a.state.device ≡ true → a.state.device ≡ with_con d d.nvmcon.0 d.keystep (d.step + 1))
    (λ on.
    by_advance g d (λ e. running e ≡ true → e ≡ with_con d d.nvmcon.0 d.keystep (d.step + 1))
    (λ runs. true_not_false (sym runs ∙ ended_idle d WR refl)) (λ runs. true_not_false (sym runs ∙ ended_idle d (WR + WRERR) refl)) (λ runs. refl)
    (effect_of g s sram).aborts)
    (λ off. true_not_false (sym ok ∙ off))

-- where WR stays set it gives none
more_event : (g : Geometry) (s : State) (sram : List ℕ) → running (step_of g s sram).state.device ≡ true → (step_of g s sram).event ≡ false
unfolding advance_of
more_event g s sram =
    by_step g s sram (λ a. running a.state.device ≡ true → a.event ≡ false)
    (λ on.
    pick_both P (effect_of g s sram).aborts (λ runs. true_not_false (sym runs ∙ ended_idle d WR refl))
    (pick_both P (eqb (d.step + 1) (length_of g (op_of d))) (λ runs. true_not_false (sym runs ∙ ended_idle d (WR + WRERR) refl)) (λ runs. refl)))
    (λ off runs. refl)
  where
    d : Device
    d = s.device

    P : Answer → Type 0
    P a = running a.device ≡ true → a.event ≡ false

-- WRERR is set while an operation runs
running_error : (g : Geometry) (d : Device) → possible_of g d ≡ true → running d ≡ true → has_of d.nvmcon.0 WRERR ≡ true
unfolding running_of
running_error g d can on =
    let keyless = and_both (eqb d.keystep 0) _ (rw on at (possible g d can).runs) in
    (and_both (has_of d.nvmcon.0 WRERR) _ keyless.1).0

-- where WR falls it was the last step, or an abort, which leaves WRERR
last_step : (g : Geometry) (s : State) (sram : List ℕ) → possible_of g s.device ≡ true → running s.device ≡ true
    → let e = (step_of g s sram).state.device in
    running e ≡ false → (s.device.step + 1 ≡ length_of g (op_of s.device)) ⊎ (has_of e.nvmcon.0 WRERR ≡ true)
unfolding advance_of
last_step g s sram can on =
    by_step g s sram (λ a. Ends a.state.device) (λ ok. go (effect_of g s sram).aborts (eqb (d.step + 1) (length_of g (op_of d))) refl)
    (λ off idle. true_not_false (sym on ∙ idle))
  where
    d : Device
    d = s.device

    Ends : Device → Type 0
    Ends e = running e ≡ false → (d.step + 1 ≡ length_of g (op_of d)) ⊎ (has_of e.nvmcon.0 WRERR ≡ true)

    go : (aborts last : Bool) → eqb (d.step + 1) (length_of g (op_of d)) ≡ last
        → Ends
        (pick aborts (advanced (ended_of d (clear_of d.nvmcon.0 WR)) true)
        (pick last (advanced (ended_of d (clear_of d.nvmcon.0 (WR + WRERR))) true)
        (advanced (with_con d d.nvmcon.0 d.keystep (d.step + 1)) false))).device
    go true last e = λ idle. inr (cleared_bit d WR 13 refl ∙ running_error g d can on)
    go false true e = λ idle. inl (eqb-true _ _ e)
    go false false e = λ idle. true_not_false (sym on ∙ idle)

-- it writes no word outside its quad
step_untouched : (g : Geometry) (s : State) (sram : List ℕ) (second : Bool) (v : ℕ)
    → (step_second_of g s ≡ second → Outside (step_quad_of g s) v)
    → word_at (bank_of (step_of g s sram).state second) v ≡ word_at (bank_of s second) v
step_untouched g s sram second v out = go (step_second_of g s) second refl out
  where
    t : State
    t = (step_of g s sram).state

    go : (a c : Bool) → step_second_of g s ≡ a → (step_second_of g s ≡ c → Outside (step_quad_of g s) v) → word_at (bank_of t c) v ≡ word_at (bank_of s c) v
    go true true e out = rw e at ((one_quad g s t (step_writes g s sram)).outside v (out e))
    go false false e out = rw e at ((one_quad g s t (step_writes g s sram)).outside v (out e))
    go true false e out = ap (λ (l : List ℕ). word_at l v) (rw e at (one_quad g s t (step_writes g s sram)).other_bank)
    go false true e out = ap (λ (l : List ℕ). word_at l v) (rw e at (one_quad g s t (step_writes g s sram)).other_bank)

-- nor one of the other bank
step_other : (g : Geometry) (s : State) (sram : List ℕ) (second : Bool) → (step_second_of g s ≡ second → ⊥)
    → bank_of (step_of g s sram).state second ≡ bank_of s second
step_other g s sram second off = go (step_second_of g s) second refl off
  where
    t : State
    t = (step_of g s sram).state

    go : (a c : Bool) → step_second_of g s ≡ a → (step_second_of g s ≡ c → ⊥) → bank_of t c ≡ bank_of s c
    go true true e off = absurd (off e)
    go false false e off = absurd (off e)
    go true false e off = rw e at (one_quad g s t (step_writes g s sram)).other_bank
    go false true e off = rw e at (one_quad g s t (step_writes g s sram)).other_bank

-- ---- the steps that remain
-- none of them lies in the bank
abbrev OffBank : Geometry → State → Bool → Type 0
OffBank g s second =
    let d = s.device in
    (k : ℕ) → d.step ≤ k → k < length_of g (op_of d) → second_at_of d (step_at_of g (op_of d) d.launched.nvmaddr k) ≡ second → ⊥

record Done (g : Geometry) (s : State) (sram : List ℕ) (w : Stepped) : Type 0 where
  event : w.event ≡ true
  left : LeftBySteps g s sram w.state
  untouched : (second : Bool) (v : ℕ) → Untouched g s second v → word_at (bank_of w.state second) v ≡ word_at (bank_of s second) v
  other : (second : Bool) → OffBank g s second → bank_of w.state second ≡ bank_of s second

module _ (g : Geometry) (sram : List ℕ) (listed : in_range_of g ≡ true) (short : length sram ≤ 16384) where
  module _ (s : State) (sound : Sound g s) (on : running s.device ≡ true) where
    abbrev d : Device
    d = s.device

    abbrev t : State
    t = (step_of g s sram).state

    ok : accepted_of (step_answer_of g s sram) ≡ true
    ok = step-accepted g s sram listed sound short on

    below : d.step < length_of g (op_of d)
    below = (runs g d (in-range g listed) sound.possible on).below

    first_other : (second : Bool) → OffBank g s second → bank_of t second ≡ bank_of s second
    first_other second off = step_other g s sram second (off d.step (omega arith) below)

    carried : accepted_of (step_of g s sram).decline ≡ true
    carried = by_step g s sram (λ a. accepted_of a.decline ≡ true) (λ on'. refl) (λ off. true_not_false (sym ok ∙ off))

    first_untouched : (second : Bool) (v : ℕ) → Untouched g s second v → word_at (bank_of t second) v ≡ word_at (bank_of s second) v
    first_untouched second v out = step_untouched g s sram second v (out d.step (omega arith) below)

    -- the last of them
    last_done : running t.device ≡ false → Done g s sram (stepped t (step_of g s sram).event)
    last_done idle =
        record {
          event = last_event g s sram ok on idle;
          left =
              record {
                count = 1;
                some = omega arith;
                few = omega (arith, below);
                same = refl;
                each = (carried, tt);
                quiet = λ k l. absurd (omega (arith, l));
                last = only;
                all = ends (last_step g s sram sound.possible on idle);
              };
          untouched = first_untouched;
          other = first_other;
        }
      where
        only : (k : ℕ) → k + 1 ≡ 1 → (step_of g (run_of g s (replicate k (step sram))) sram).event ≡ true
        only zero e = last_event g s sram ok on idle
        only (suc k) e = absurd (omega (arith, e))

        ends : {A : Type 0} → (d.step + 1 ≡ length_of g (op_of d)) ⊎ A → (1 ≡ remaining_of g d) ⊎ A
        ends (inl e) = inl (omega (arith, e))
        ends (inr a) = inr a

    -- one, and then the others
    more_done : (w : Stepped) → running t.device ≡ true → Done g t sram w → Done g s sram w
    more_done w on' rest =
        let e = next_device g s sram ok on' in
        record {
          event = rest.event;
          left =
              record {
                count = suc rest.left.count;
                some = omega arith;
                few = fits e rest.left.few;
                same = rest.left.same;
                each = (carried, rest.left.each);
                quiet = quiet;
                last = last;
                all = ends e rest.left.all;
              };
          untouched = λ second v out. rest.untouched second v (passes e second v out) ∙ first_untouched second v out;
          other = λ second off. rest.other second (passes_bank e second off) ∙ first_other second off;
        }
      where
        next : Device
        next = with_con s.device s.device.nvmcon.0 s.device.keystep (s.device.step + 1)

        fits : (step_of g s sram).state.device ≡ next → rest.left.count ≤ remaining_of g (step_of g s sram).state.device
            → suc rest.left.count ≤ remaining_of g s.device
        fits e few = omega (arith, below, rw e at few)

        quiet : (k : ℕ) → k + 1 < suc rest.left.count → (step_of g (run_of g s (replicate k (step sram))) sram).event ≡ false
        quiet zero l = more_event g s sram on'
        quiet (suc k) l = rest.left.quiet k (omega (arith, l))

        last : (k : ℕ) → k + 1 ≡ suc rest.left.count → (step_of g (run_of g s (replicate k (step sram))) sram).event ≡ true
        last zero e = absurd (omega (arith, e, rest.left.some))
        last (suc k) e = rest.left.last k (omega (arith, e))

        ends : {A : Type 0} → (step_of g s sram).state.device ≡ next → (rest.left.count ≡ remaining_of g (step_of g s sram).state.device) ⊎ A
            → (suc rest.left.count ≡ remaining_of g s.device) ⊎ A
        ends e (inl n) = inl (omega (arith, below, rw e at n))
        ends e (inr a) = inr a

        passes_bank : (step_of g s sram).state.device ≡ next → (second : Bool) → OffBank g s second → OffBank g (step_of g s sram).state second
        passes_bank e second off = rw e (λ k lo hi here. off k (omega arith) hi here)

        passes : (step_of g s sram).state.device ≡ next → (second : Bool) (v : ℕ) → Untouched g s second v → Untouched g (step_of g s sram).state second v
        passes e second v out = rw e (λ k lo hi here. out k (omega arith) hi here)

  steps_done : (n : ℕ) (s : State) → Sound g s → running s.device ≡ true → remaining_of g s.device ≤ n → Done g s sram (steps_of g sram n s)
  unfolding steps_of
  steps_done zero s sound on few = absurd (omega (arith, below s sound on, few))
  steps_done (suc n) s sound on few =
      go (running (step_of g s sram).state.device) refl
      (λ e. steps_done n (step_of g s sram).state (run_sound g s sound (step sram ∷ []) (tt, tt)) e (fewer g sram listed short s sound on n few e))
    where
      go : (on' : Bool) → running (step_of g s sram).state.device ≡ on'
          → (running (step_of g s sram).state.device ≡ true → Done g (step_of g s sram).state sram (steps_of g sram n (step_of g s sram).state))
          → Done g s sram (pick on' (steps_of g sram n (step_of g s sram).state) (stepped (step_of g s sram).state (step_of g s sram).event))
      go true e rest = more_done s sound on _ e (rest e)
      go false e rest = last_done s sound on e

-- ---- the reads
waited : (g : Geometry) (s : State) (sram : List ℕ) (address : ℕ) → waits_of g s sram address ≡ true → Waited g s sram (flash_read_of g s sram address)
unfolding flash_read_of
waited g s sram address waits =
    let free = free_of g s.device (second_at_of s.device (locate_of g address)) in
    let (ok, busy) = and_both (accepted_of (read_answer_of g s sram address)) (not free) waits in
    let (ready, inside) = read_ready g s.device _ _ _ address ok in
    let sound : Sound g s = record { possible = ready.possible; first = ready.lent.banks.0; other = ready.lent.banks.1.0 } in
    let on = worked_on g s.device _ (not-true free busy) in
    let done = steps_done g sram ready.lent.listed ready.lent.room (remaining_of g s.device) s sound on (omega arith) in
    record {
      ends = read_ends g s sram address waits;
      event = rw (ok, not-true free busy) done.event;
      steps = rw (ok, not-true free busy) done.left;
      untouched = rw (ok, not-true free busy) done.untouched;
      other = rw (ok, not-true free busy) (λ second off. done.other second (λ k lo hi here. off (record { place = k; below = hi; there = here })));
      page = rw (ok, not-true free busy) (λ second n i off l. done.untouched second (n * page_words_of g + i) (off_page n i off l));
    }
  where
    -- a word of a page lies outside the quads that lie outside the page
    off_page : {second : Bool} (n i : ℕ) → OffPage g s second n → i < page_words_of g → Untouched g s second (n * page_words_of g + i)
    off_page n i off l = λ k lo hi here. apart (off k lo hi here)
      where
        apart : {q : ℕ} → (q < n * page_quads_of g) ⊎ (n * page_quads_of g + page_quads_of g ≤ q) → Outside q (n * page_words_of g + i)
        apart (inl low) = inr (omega arith)
        apart (inr high) = inl (omega arith)

-- ---- which reads wait
module _ (g : Geometry) (s : State) (sram : List ℕ) (address : ℕ) where
  waits_stalled : accepted_of (read_answer_of g s sram address) ≡ true → Stalls g s.device address → waits_of g s sram address ≡ true
  waits_stalled ok b = rw (ok, stalled g s sram address ok b)

  stalls_waiting : waits_of g s sram address ≡ true → (accepted_of (read_answer_of g s sram address) ≡ true) × Stalls g s.device address
  stalls_waiting w =
      let (ok, busy) = and_both (accepted_of (read_answer_of g s sram address)) _ w in
      (ok, stalls g s sram address ok (not-true _ busy))

-- an SRAM that is not too long is no part of declines 1 to 3
same_declines : (g : Geometry) (d : Device) (lengths : List ℕ) (sram : ℕ) → sram ≤ most_sram
    → common_decline_of g d lengths sram ≡ common_decline_of g d lengths 0
unfolding common_decline_of lent_decline_up_to lengths_fit_of
same_declines g d lengths sram short = rw (le-leb sram most_sram short)

answers_kept : (g : Geometry) (s : State) (sram : List ℕ) (address : ℕ) → length sram ≤ most_sram
    → number_of (flash_read_of g s sram address).after.decline ≡ number_of (flash_read_of g s [] address).after.decline
answers_kept g s sram address short =
    same_number g s sram address
    ∙ ap (λ (d : Verdict). number_of (first_of d (addressed g s sram address))) (same_declines g s.device (lengths_of s) (length sram) short)
    ∙ sym (same_number g s [] address)

pub waits : Waits
waits =
    record {
      waits = waits_stalled;
      waits_only = stalls_waiting;
      waited = waited;
      answers_kept = answers_kept;
      keeps = λ g s sram address. keeps g s (flash_read sram address);
    }
