-- A reset of two states that differ in registers 2 to 7 alone tears alike. What was launched follows WR: a launch takes it from the registers,
-- and where WR falls it is 0. So it is what the registers hold until one of them is stored to while an operation runs.
-- Assumes nothing.
use mathlib.Core.Path.{◌≡◌, refl, sym, ap, ◌∙◌}
use Rattle.std.specs.Prelude.{Ok}
use mathlib.Core.Bool.{Bool, true, false, ◌&&◌, and-false}
use mathlib.Core.List.{List, [], ◌∷◌}
use Prim.Native.Nat.{ℕ, ◌+◌, ◌*◌, ◌/◌, ◌%◌}
use lib.Dec.{eqb, leb}
use lib.ListN.{length, get_or}
use lib.Bits.{bit_or}
use borrow.Author.Tests.{ne_eqb, eqb-true}
use Rattle.words.specs.Word.{pick, bit, merge_of, clear_of}
use Rattle.words.specs.Decline.{accepted_of}
use Rattle.words.proofs.PickLaws.{pick_both, and_both}
use Rattle.words.proofs.BitLaws.{true_not_false, clear_bit, has_bit}
use Rattle.geometry.specs.declared.banks.Geometry.{Geometry}
use Rattle.sequence.specs.Comparison.{Reason}
use Rattle.device.specs.declared.record.Device.{Device}
use Rattle.device.specs.declared.record.Operands.{Operands}
use Rattle.register_access.specs.RegisterRead.{RegisterRead}
use Rattle.device.specs.Registers.{WR, WRERR, BFSWAP, NVMERS, resets}
use Rattle.device.specs.Numbers.{NVMCON, NVMPWP, NVMBWP, NVMCON2}
use Rattle.device.specs.Builders.{power_on, with_con, with_stored, with_launched, with_operands}
use Rattle.device.specs.Record.{running, op_of, operands_of, no_operands}
use Rattle.device.specs.State.{State, after}
use Rattle.protection.specs.Protection.{pwp_of}
use Rattle.nvmop.specs.Operation.{begins_at_of}
use Rattle.common_declines.specs.Possible.{launched_fits_of, nothing_launched_of, running_of, resting_of, possible_of}
use Rattle.common_declines.proofs.PossibleLaws.{possible, possible_test, resting, launched_fit}
use Rattle.register_access.specs.Store.{loads_of, may_store_of, store_decline_of, applied_of, store_accepted_of, store_of, read_decline_of, register_read_of}
use Rattle.register_access.proofs.AcceptedLaws.{store_ready, store_at_rest}
use Rattle.register_fields.specs.Fields.{wanted_of}
use Rattle.flash.specs.Effect.{step_at_of, source_fits_of, effect_of}
use Rattle.flash.specs.Step.{ended_of, step_of}
use Rattle.map.specs.Windows.{locate_of}
use Rattle.reads.specs.Read.{second_at_of, free_of, Stepped, stepped, remaining_of, waited_of, read_answer_of, word_read_of, Reading, reading, flash_read_of}
use Rattle.resets.specs.Reset.{reset_con_of, reset_device_of, reset_decline_of, reset_answer_of, tear_of}
use Rattle.resets.specs.Reset.{comparison_of, compared_of, restart_of, explained, Explained, explained_of}
use Rattle.resets.proofs.AcceptedLaws.{reset_ready}
use Rattle.controller.specs.Controller.{Operation, answer_of, transition_of, BringsWord}
use Rattle.controller.specs.Controller.Operation.{store, register_read, flash_read, step, reset}
use Rattle.controller.specs.Loads.{AsLaunched, loads_while_running, ByRegisters, ButLoaded, LoadEarly}
use Rattle.controller.proofs.StoreEquations.{con-store}
use Rattle.controller.proofs.StoreLaws.{con_holds}
use Rattle.controller.proofs.DeviceLaws.{reset_idle}
use Rattle.controller.proofs.RunLaws.{by_store, transition_possible}
use Rattle.controller.proofs.WriteLaws.{by_step, by_advance, by_reset}
use Rattle.controller.proofs.LoadLaws.{Alike, state_with, same_common, same_effect, same_read, steps_alike, run_alike, but_loaded}
use Rattle.controller.proofs.ReadLaws.{by_flash_read}
use Rattle.controller.proofs.LoadLaws.{six, answers, loaded, no_event, unseen_answers}

-- ---- a reset with other registers 2 to 7
-- which of them it leaves: a power-on gives its own
abbrev reset_operands : Operands → ℕ → Operands
reset_operands o kind = pick (eqb kind 0) (operands_of power_on) o

same_con : (d : Device) (o : Operands) (kind : ℕ) → reset_con_of (with_operands d o) kind ≡ reset_con_of d kind
unfolding reset_con_of
same_con d o kind = refl

reset-device : (d : Device) (o : Operands) (kind : ℕ) (swap : Bool)
    → reset_device_of (with_operands d o) kind swap ≡ with_operands (reset_device_of d kind swap) (reset_operands o kind)
unfolding reset_device_of
reset-device d o kind swap = rw (same_con d o kind) (go (eqb kind 0) (bit_or (reset_con_of d kind) (pick swap BFSWAP 0)))
  where
    kept : Device → ℕ → Device
    kept e con = with_launched (with_con (with_stored e e.nvmaddr e.nvmdata e.nvmsrcaddr (get_or resets NVMPWP 0) (get_or resets NVMBWP 0)
        (merge_of NVMERS e.nvmcon2.0 (get_or resets NVMCON2 0)) 0) con 0 0) no_operands

    go : (t : Bool) (con : ℕ) → pick t (with_con power_on con 0 0) (kept (with_operands d o) con)
        ≡ with_operands (pick t (with_con power_on con 0 0) (kept d con)) (pick t (operands_of power_on) o)
    go true con = refl
    go false con = refl

module _ (g : Geometry) (s : State) (o : Operands) (can : possible_of g (with_operands s.device o) ≡ possible_of g s.device) where
  same_reset : (sram : List ℕ) (kind : ℕ) → reset_answer_of g (state_with o s) sram kind ≡ reset_answer_of g s sram kind
  unfolding reset_decline_of
  same_reset sram kind = rw (same_common g s o can (length s.one ∷ length s.two ∷ []) (length sram))

  -- the registers 2 to 7 that it leaves
  left_operands : List ℕ → ℕ → Operands
  left_operands sram kind = pick (accepted_of (reset_answer_of g s sram kind)) (reset_operands o kind) o

  reset_with : (sram : List ℕ) (kind : ℕ) (mask : List ℕ) → let e = explained_of g s sram kind mask in
      explained_of g (state_with o s) sram kind mask
      ≡ explained (after e.after.decline (state_with (left_operands sram kind) e.after.state) e.after.event) e.reason
  unfolding explained_of left_operands
  reset_with sram kind mask =
      rw (same_reset sram kind, same_effect g s.device o s.one s.two sram, reset-device) (go (accepted_of (reset_answer_of g s sram kind)))
    where
      t : State
      t = tear_of g s sram mask

      done : Explained
      done = explained (restart_of g t kind) (comparison_of g t.one t.two).reason

      with_registers : Operands → Explained → Explained
      with_registers p e = explained (after e.after.decline (state_with p e.after.state) e.after.event) e.reason

      go : (a : Bool)
          → pick a (with_registers (reset_operands o kind) done) (explained (after (reset_answer_of g s sram kind) (state_with o s) false) Reason.NotCompared)
          ≡ with_registers (pick a (reset_operands o kind) o) (pick a done (explained (after (reset_answer_of g s sram kind) s false) Reason.NotCompared))
      go true = refl
      go false = refl

torn : (g : Geometry) (without loaded : State) → Alike g without loaded → (sram : List ℕ) (kind : ℕ) (mask : List ℕ)
    → let o = reset sram kind mask in
    ButLoaded (transition_of g without o) (transition_of g loaded o)
    × ((answer_of g loaded o ≡ answer_of g without o)
    × ((explained_of g loaded sram kind mask).reason ≡ (explained_of g without sram kind mask).reason))
torn g without loaded h sram kind mask =
    let same = ap (λ (u : State). explained_of g u sram kind mask) h.same ∙ reset_with g without h.operands h.can sram kind mask in (
      record { operands = _; same = ap (λ (e : Explained). e.after.state) same },
      (ap (λ (e : Explained). e.after.decline) same, ap (λ (e : Explained). e.reason) same),
    )

-- ---- a flash read
-- two readings are the same but for registers 2 to 7
abbrev SameReading : Reading → Reading → Type 0
SameReading without loaded =
    ButLoaded without.after.state loaded.after.state
    × ((loaded.after.decline ≡ without.after.decline) × ((loaded.after.event ≡ without.after.event) × (loaded.word ≡ without.word)))

read_with : (g : Geometry) (s : State) (o : Operands) → possible_of g (with_operands s.device o) ≡ possible_of g s.device → (sram : List ℕ) (address : ℕ)
    → SameReading (flash_read_of g s sram address) (flash_read_of g (state_with o s) sram address)
unfolding flash_read_of free_of
read_with g s o can sram address =
    rw (same_read g s o can sram address)
    (go (accepted_of (read_answer_of g s sram address)) (free_of g s.device (second_at_of s.device (locate_of g address))))
  where
    h : Alike g s (state_with o s)
    h = record { operands = o; same = refl; can = can }

    ready : State → Bool → Stepped
    ready t free = pick free (stepped t false) (waited_of g t sram)

    read : State → Bool → Bool → Reading
    read t a free =
        pick a (let w = ready t free in reading (after (Ok tt) w.state w.event) (word_read_of g w.state address))
        (reading (after (read_answer_of g s sram address) t false) 0)

    go : (a free : Bool) → SameReading (read s a free) (read (state_with o s) a free)
    go true true = (record { operands = o; same = refl }, (refl, (refl, refl)))
    go true false =
        let both = steps_alike g sram (remaining_of g s.device) s (state_with o s) h in
        (but_loaded g _ _ both.alike, (refl, (both.event, ap (λ (u : State). word_read_of g u address) both.alike.same)))
    go false free = (record { operands = o; same = refl }, (refl, (refl, refl)))

unseen_read : (g : Geometry) (without loaded : State) → Alike g without loaded → (sram : List ℕ) (address : ℕ)
    → SameReading (flash_read_of g without sram address) (flash_read_of g loaded sram address)
unseen_read g without loaded h sram address = rw h.same (read_with g without h.operands h.can sram address)

-- ---- the registers after a reset and after a step
keeps : (g : Geometry) (s : State) (sram : List ℕ) (kind : ℕ) (mask : List ℕ) → (kind ≡ 0 → ⊥)
    → operands_of (transition_of g s (reset sram kind mask)).device ≡ operands_of s.device
unfolding reset_device_of
keeps g s sram kind mask other =
    by_reset g s sram kind mask (λ a. operands_of a.state.device ≡ operands_of s.device) (λ on. rw (ne_eqb kind 0 other)) (λ off. refl)

forgets : (g : Geometry) (s : State) (sram mask : List ℕ) → accepted_of (answer_of g s (reset sram 0 mask)) ≡ true
    → operands_of (transition_of g s (reset sram 0 mask)).device ≡ operands_of power_on
unfolding reset_device_of
forgets g s sram mask =
    by_reset g s sram 0 mask (λ a. accepted_of a.decline ≡ true → operands_of a.state.device ≡ operands_of power_on)
    (λ on h. refl)
    (λ off h. true_not_false (sym h ∙ off))

left : (g : Geometry) (s : State) (sram : List ℕ) → operands_of (transition_of g s (step sram)).device ≡ operands_of s.device
left g s sram =
    by_step g s sram (λ a. operands_of a.state.device ≡ operands_of s.device)
    (λ on. by_advance g s.device (λ d. operands_of d ≡ operands_of s.device) refl refl refl (effect_of g s sram).aborts)
    (λ off. refl)

-- ---- decline 3
judges : (g : Geometry) (d : Device) (o : Operands) → launched_fits_of o ≡ true → possible_of g d ≡ true → possible_of g (with_operands d o) ≡ true
unfolding running_of resting_of
judges g d o fits can =
    let old = possible g d can in
    possible_test g (with_operands d o)
    (record { rows = launched_fit d o fits old.rows; launched = old.launched; always = old.always; keys = old.keys; runs = old.runs })

judged : (g : Geometry) (d : Device) (o : Operands) → launched_fits_of o ≡ true → launched_fits_of (operands_of d) ≡ true
    → possible_of g (with_operands d o) ≡ possible_of g d
judged g d o fits was = go (possible_of g (with_operands d o)) (possible_of g d) refl refl
  where
    go : (a b : Bool) → possible_of g (with_operands d o) ≡ a → possible_of g d ≡ b → a ≡ b
    go true true ha hb = refl
    go false false ha hb = refl
    go true false ha hb = sym (judges g (with_operands d o) (operands_of d) was ha) ∙ hb
    go false true ha hb = sym ha ∙ judges g d o fits hb

cleared : (g : Geometry) (s : State) (o : Operation) → possible_of g s.device ≡ true → BringsWord o
    → let d = (transition_of g s o).device in running d ≡ false → nothing_launched_of d.launched ≡ true
unfolding resting_of
cleared g s o can word idle =
    let d = (transition_of g s o).device in
    (and_both (eqb d.step 0) (nothing_launched_of d.launched) (resting g d (transition_possible g s o word can) idle)).1

-- ---- a launch
-- an accepted store to NVMCON takes what it launches from the registers
con_launches : (g : Geometry) (d : Device) (form value : ℕ) → accepted_of (store_decline_of g d NVMCON form) ≡ true
    → let e = (store_of g d NVMCON form value).device in
    (e.launched ≡ pick (running e) (operands_of d) d.launched) × (operands_of e ≡ operands_of d)
con_launches g d form value ok =
    let rest = store_at_rest g d NVMCON form refl ok in
    let same = con-store g d rest form value (store_ready g d NVMCON form ok).formed in
    rw same (con_holds g d rest (wanted_of form d.nvmcon.0 value), refl)

launches : (g : Geometry) (s : State) (form value : ℕ) → let t = transition_of g s (store NVMCON form value) in
    running s.device ≡ false → running t.device ≡ true → t.device.launched ≡ operands_of s.device
launches g s form value idle on =
    by_store g d NVMCON form value (λ a. running a.device ≡ true → a.device.launched ≡ operands_of d)
    (λ ok runs. (con_launches g d form value ok).0 ∙ ap (λ (t : Bool). pick t (operands_of d) d.launched) runs)
    (λ off runs. true_not_false (sym runs ∙ idle))
    on
  where
    d : Device
    d = s.device

-- ---- as launched
-- an accepted store that 01 accepts finds the device at rest
at_rest_lem : (g : Geometry) (d : Device) (r form : ℕ) → accepted_of (store_decline_of g d r form) ≡ true → (running d && loads_of r) ≡ false
    → running d ≡ false
unfolding may_store_of
at_rest_lem g d r form ok quiet = go (running d) refl (store_ready g d r form ok).may quiet
  where
    go : (t : Bool) → running d ≡ t → pick t (loads_of r) true ≡ true → (t && loads_of r) ≡ false → running d ≡ false
    go true on may quiet = true_not_false (sym may ∙ quiet)
    go false off may quiet = off

-- with WR at 0 nothing is launched
ended_launched : (d : Device) (con : ℕ) → bit 15 con ≡ false → AsLaunched (ended_of d con)
ended_launched d con off = ap (λ (t : Bool). pick t (operands_of d) no_operands) (sym (has_bit 15 con ∙ off))

-- a store to NVMCON at rest, and to another register
con_stays : (g : Geometry) (d : Device) (r form value : ℕ) → r ≡ NVMCON → accepted_of (store_decline_of g d r form) ≡ true → d.launched ≡ no_operands
    → AsLaunched (store_of g d r form value).device
con_stays g d r form value con ok nothing =
    let (launched, same) = con_launches g d form value (rw con at ok) in
    rw con
    (launched ∙ ap (pick (running e) (operands_of d)) nothing ∙ ap (λ (o : Operands). pick (running e) o no_operands) (sym same))
  where
    e : Device
    e = (store_of g d NVMCON form value).device

other_stays : (g : Geometry) (d : Device) (r form value : ℕ) → eqb r NVMCON ≡ false → accepted_of (store_decline_of g d r form) ≡ true
    → running d ≡ false → d.launched ≡ no_operands → AsLaunched (store_of g d r form value).device
unfolding store_of store_accepted_of applied_of
other_stays g d r form value other ok idle nothing = rw (ok, other, idle) nothing

store_stays : (g : Geometry) (d : Device) (r form value : ℕ) → AsLaunched d → (running d && loads_of r) ≡ false → AsLaunched (store_of g d r form value).device
store_stays g d r form value h quiet = by_store g d r form value (λ a. AsLaunched a.device) (λ ok. go (eqb r NVMCON) refl ok) (λ off. h)
  where
    nothing : accepted_of (store_decline_of g d r form) ≡ true → d.launched ≡ no_operands
    nothing ok = h ∙ ap (λ (t : Bool). pick t (operands_of d) no_operands) (at_rest_lem g d r form ok quiet)

    go : (t : Bool) → eqb r NVMCON ≡ t → accepted_of (store_decline_of g d r form) ≡ true → AsLaunched (store_of g d r form value).device
    go true e ok = con_stays g d r form value (eqb-true r NVMCON e) ok (nothing ok)
    go false e ok = other_stays g d r form value e ok (at_rest_lem g d r form ok quiet) (nothing ok)

-- after a reset nothing is launched
reset_empty : (d : Device) (kind : ℕ) (swap : Bool) → (reset_device_of d kind swap).launched ≡ no_operands
unfolding reset_device_of
reset_empty d kind swap = pick_both (λ (e : Device). e.launched ≡ no_operands) (eqb kind 0) refl refl

reset_launched : (g : Geometry) (d : Device) → possible_of g d ≡ true → (kind : ℕ) (swap : Bool) → AsLaunched (reset_device_of d kind swap)
reset_launched g d can kind swap =
    reset_empty d kind swap ∙ ap (λ (t : Bool). pick t (operands_of (reset_device_of d kind swap)) no_operands) (sym (reset_idle g d can kind swap))

step_stays : (g : Geometry) (s : State) (sram : List ℕ) → AsLaunched s.device → AsLaunched (step_of g s sram).state.device
step_stays g s sram h =
    let d = s.device in
    let con = d.nvmcon.0 in
    by_step g s sram (λ a. AsLaunched a.state.device)
    (λ on.
    by_advance g d AsLaunched (ended_launched d (clear_of con WR) (clear_bit 15 con WR ∙ and-false (bit 15 con)))
    (ended_launched d (clear_of con (WR + WRERR)) (clear_bit 15 con (WR + WRERR) ∙ and-false (bit 15 con))) h (effect_of g s sram).aborts)
    (λ off. h)

stays : (g : Geometry) (s : State) (o : Operation) → AsLaunched s.device → loads_while_running s.device o ≡ false
    → AsLaunched (transition_of g s o).device
unfolding register_read_of
stays g s (store r form value) h quiet = store_stays g s.device r form value h quiet
stays g s (register_read r) h quiet = pick_both (λ (a : RegisterRead). AsLaunched a.device) (accepted_of (read_decline_of g s.device r)) h h
stays g s (flash_read sram address) h quiet = by_flash_read g sram (λ t. AsLaunched t.device) (λ t h. step_stays g t sram h) s address h
stays g s (step sram) h quiet = step_stays g s sram h
stays g s (reset sram kind mask) h quiet =
    by_reset g s sram kind mask (λ a. AsLaunched a.state.device) (λ on.
    let t = tear_of g s sram mask in
    reset_launched g s.device (reset_ready g s.device _ _ _ kind on).possible kind (compared_of g t.one t.two))
    (λ off. h)

restored : (g : Geometry) (s : State) (sram : List ℕ) (kind : ℕ) (mask : List ℕ) → accepted_of (answer_of g s (reset sram kind mask)) ≡ true
    → AsLaunched (transition_of g s (reset sram kind mask)).device
restored g s sram kind mask =
    by_reset g s sram kind mask (λ a. accepted_of a.decline ≡ true → AsLaunched a.state.device)
    (λ on h. reset_launched g s.device (reset_ready g s.device _ _ _ kind on).possible kind _)
    (λ off h. true_not_false (sym h ∙ off))

by_registers : (g : Geometry) (d : Device) → AsLaunched d → running d ≡ true → ByRegisters g d
unfolding source_fits_of
by_registers g d h on =
    let e : d.launched ≡ operands_of d = h ∙ ap (λ (t : Bool). pick t (operands_of d) no_operands) on in
    record {
      location = ap (λ (o : Operands). step_at_of g (op_of d) o.nvmaddr d.step) e;
      target = ap (λ (o : Operands). begins_at_of g (op_of d) o.nvmaddr (pwp_of d)) e;
      quad = ap (λ (o : Operands). o.nvmdata) e;
      row = ap (λ (o : Operands). (o.nvmsrcaddr + 16 * d.step) / 4) e;
      fits = λ sram. ap (λ (o : Operands). eqb (o.nvmsrcaddr % 4) 0 && leb ((o.nvmsrcaddr + 16 * d.step) / 4 + 4) sram) e;
    }

pub load_early : LoadEarly
load_early =
    record {
      six = six;
      answers = answers;
      loaded = loaded;
      no_event = no_event;
      unseen = λ g s l h. but_loaded g _ _ (run_alike g s l h);
      unseen_answers = unseen_answers;
      unseen_read = λ g s l h. unseen_read g _ _ (run_alike g s l h);
      torn = λ g s l h. torn g _ _ (run_alike g s l h);
      keeps = keeps;
      forgets = forgets;
      left = left;
      launches = launches;
      judged = judged;
      cleared = cleared;
      power_on_lem = refl;
      stays = stays;
      restored = restored;
      by_registers = by_registers;
    }
