-- Every list of operations leaves a possible device and banks of unchanged length, since each operation does; a declined operation
-- changes nothing; after a reset BFSWAP is the comparison.
-- Assumes nothing.
use mathlib.Core.Path.{◌≡◌, refl, sym, ap, ◌∙◌}
use mathlib.Core.Bool.{Bool, true, false, not}
use mathlib.Core.List.{List, [], ◌∷◌, ◌++◌}
use Prim.Native.Nat.{ℕ}
use lib.Dec.{eqb}
use Rattle.words.proofs.PickLaws.{pick_both}
use Rattle.words.proofs.BitLaws.{true_not_false}
use Rattle.words.specs.Quad.{word_at}
use Rattle.geometry.specs.declared.banks.Geometry.{Geometry}
use Rattle.words.specs.Decline.{accepted_of}
use Rattle.device.specs.declared.record.Device.{Device}
use Rattle.device.specs.Answer.{Answer}
use Rattle.register_access.specs.RegisterRead.{RegisterRead}
use Rattle.device.specs.Record.{bfswap}
use Rattle.common_declines.specs.Possible.{possible_of}
use Rattle.register_access.specs.Store.{store_decline_of, store_accepted_of, store_of, read_decline_of, register_read_of}
use Rattle.flash.proofs.AcceptedLaws.{step_ready}
use Rattle.sequence.specs.Comparison.{Reason}
use Rattle.sequence.specs.Sequence.{sequence_index_of}
use Rattle.sequence.specs.Comparison.{reason_number_of, comparison, compare_of}
use Rattle.sequence.proofs.ComparisonLaws.{comparisons}
use Rattle.resets.specs.Reset.{tear_of, comparison_of, reset_reason_of}
use Rattle.resets.proofs.AcceptedLaws.{reset_ready}
use Rattle.device.specs.State.{State, state}
use Rattle.controller.specs.Controller.{Operation, answer_of, transition_of, run_of, BringsWord, BringWords, Sound}
use Rattle.controller.specs.Controller.Operation.{store, register_read, flash_read, step, reset}
use Rattle.controller.proofs.StoreLaws.{store_possible, read_leaves_possible}
use Rattle.controller.proofs.DeviceLaws.{reset_possible, reset_swap}
use Rattle.flash.proofs.StepLaws.{advance_possible}
use Rattle.controller.proofs.WriteLaws.{by_step, by_reason, by_reset}
use Rattle.controller.proofs.ReadLaws.{by_flash_read}
use Rattle.controller.proofs.KeepLaws.{keeps}
use Rattle.flash.specs.Step.{step_of}
use Rattle.reads.specs.Read.{read_answer_of, Reading, flash_read_of}

-- ---- what an accepted operation leaves, and what a declined one
pub by_store : (g : Geometry) (d : Device) (r form value : ℕ) (P : Answer → Type 0)
    → (accepted_of (store_decline_of g d r form) ≡ true → P (store_of g d r form value))
    → (accepted_of (store_decline_of g d r form) ≡ false → P (record { decline = store_decline_of g d r form; device = d; event = false }))
    → P (store_of g d r form value)
unfolding store_of
by_store g d r form value P yes' no' = go (accepted_of (store_decline_of g d r form)) refl
  where
    go : (t : Bool) → accepted_of (store_decline_of g d r form) ≡ t → P (store_of g d r form value)
    go true e = yes' e
    go false e = rw e (no' e)

pub by_read : (g : Geometry) (d : Device) (r : ℕ) (P : RegisterRead → Type 0)
    → (accepted_of (read_decline_of g d r) ≡ true → P (register_read_of g d r))
    → (accepted_of (read_decline_of g d r) ≡ false → P (record { decline = read_decline_of g d r; value = 0; device = d }))
    → P (register_read_of g d r)
unfolding register_read_of
by_read g d r P yes' no' = go (accepted_of (read_decline_of g d r)) refl
  where
    go : (t : Bool) → accepted_of (read_decline_of g d r) ≡ t → P (register_read_of g d r)
    go true e = yes' e
    go false e = rw e (no' e)

-- a store and a read that are carried out answer so
pub store_answers : (g : Geometry) (d : Device) (r form value : ℕ) → accepted_of (store_decline_of g d r form) ≡ true
    → accepted_of (store_of g d r form value).decline ≡ true
unfolding store_of store_accepted_of
store_answers g d r form value on = rw on (pick_both (λ (a : Answer). accepted_of a.decline ≡ true) (eqb r 0) refl refl)

read_answers : (g : Geometry) (d : Device) (r : ℕ) → accepted_of (read_decline_of g d r) ≡ true → accepted_of (register_read_of g d r).decline ≡ true
unfolding register_read_of
read_answers g d r on = rw on on

-- ---- the state stays sound
step_possible : (g : Geometry) (s : State) (sram : List ℕ) → possible_of g s.device ≡ true → possible_of g (step_of g s sram).state.device ≡ true
step_possible g s sram h =
    by_step g s sram (λ a. possible_of g a.state.device ≡ true)
    (λ on. advance_possible g s.device h (step_ready g s.device _ _ _ on).2 _)
    (λ off. h)

pub transition_possible : (g : Geometry) (s : State) (o : Operation) → BringsWord o → possible_of g s.device ≡ true
    → possible_of g (transition_of g s o).device ≡ true
transition_possible g s (store r form value) w h =
    by_store g s.device r form value (λ a. possible_of g a.device ≡ true) (store_possible g s.device r form value w) (λ off. h)
transition_possible g s (register_read r) w h =
    by_read g s.device r (λ a. possible_of g a.device ≡ true) (read_leaves_possible g s.device r) (λ off. h)
transition_possible g s (flash_read sram address) w h =
    by_flash_read g sram (λ t. possible_of g t.device ≡ true) (λ t h. step_possible g t sram h) s address h
transition_possible g s (step sram) w h = step_possible g s sram h
transition_possible g s (reset sram kind mask) w h =
    by_reset g s sram kind mask (λ a. possible_of g a.state.device ≡ true) (λ on. reset_possible g s.device h kind _) (λ off. h)

transition_sound : (g : Geometry) (s : State) (o : Operation) → BringsWord o → Sound g s → Sound g (transition_of g s o)
transition_sound g s o w h =
    let long = (keeps g s o).long in
    record { possible = transition_possible g s o w h.possible; first = long false ∙ h.first; other = long true ∙ h.other }

pub run_sound : (g : Geometry) (s : State) → Sound g s → (l : List Operation) → BringWords l → Sound g (run_of g s l)
run_sound g s h [] w = h
run_sound g s h (o ∷ l) w = run_sound g (transition_of g s o) (transition_sound g s o w.0 h) l w.1

-- ---- lists that follow one another
pub run_append : (g : Geometry) (s : State) (first other : List Operation) → run_of g s (first ++ other) ≡ run_of g (run_of g s first) other
run_append g s [] other = refl
run_append g s (o ∷ first) other = run_append g (transition_of g s o) first other

-- ---- a declined operation changes nothing
read_declined : (g : Geometry) (s : State) (sram : List ℕ) (address : ℕ) → accepted_of (flash_read_of g s sram address).after.decline ≡ false
    → (flash_read_of g s sram address).after.state ≡ s
unfolding flash_read_of
read_declined g s sram address =
    pick_both (λ (r : Reading). accepted_of r.after.decline ≡ false → r.after.state ≡ s) (accepted_of (read_answer_of g s sram address))
    (λ h. true_not_false h) (λ h. refl)

pub declined_same : (g : Geometry) (s : State) (o : Operation) → accepted_of (answer_of g s o) ≡ false → transition_of g s o ≡ s
declined_same g s (store r form value) h =
    by_store g s.device r form value
    (λ a. accepted_of a.decline ≡ false → state a.device s.one s.two ≡ s)
    (λ on h. true_not_false (sym (store_answers g s.device r form value on) ∙ h))
    (λ off h. refl)
    h
declined_same g s (register_read r) h =
    by_read g s.device r
    (λ a. accepted_of a.decline ≡ false → state a.device s.one s.two ≡ s)
    (λ on h. true_not_false (sym (read_answers g s.device r on) ∙ h))
    (λ off h. refl)
    h
declined_same g s (flash_read sram address) h = read_declined g s sram address h
declined_same g s (step sram) h =
    by_step g s sram (λ a. accepted_of a.decline ≡ false → a.state ≡ s) (λ on h. true_not_false h) (λ off h. refl) h
declined_same g s (reset sram kind mask) h =
    by_reset g s sram kind mask (λ a. accepted_of a.decline ≡ false → a.state ≡ s) (λ on h. true_not_false h) (λ off h. refl) h

-- ---- after a reset BFSWAP and the reason are the comparison
pub compared : (g : Geometry) (s : State) (sram : List ℕ) (kind : ℕ) (mask : List ℕ) → accepted_of (answer_of g s (reset sram kind mask)) ≡ true
    → let t = transition_of g s (reset sram kind mask) in
    comparison (bfswap t.device) (reset_reason_of g s sram kind mask)
    ≡ compare_of (word_at t.one (sequence_index_of g)) (word_at t.two (sequence_index_of g))
compared g s sram kind mask =
    by_reason g s sram kind mask
    (λ e. accepted_of e.after.decline ≡ true → let t = e.after.state in
    comparison (bfswap t.device) e.reason ≡ compare_of (word_at t.one (sequence_index_of g)) (word_at t.two (sequence_index_of g)))
    (λ on h.
    ap (λ (b : Bool). let t = tear_of g s sram mask in comparison b (comparison_of g t.one t.two).reason)
    (reset_swap g s.device (reset_ready g s.device _ _ _ kind on).possible kind _))
    (λ off h. true_not_false (sym h ∙ off))

-- the comparison itself never says so
was_compared : (first other : ℕ) → eqb (reason_number_of (compare_of first other).reason) 4 ≡ false
was_compared first other = (comparisons.meets first other).compared

pub not_compared : (g : Geometry) (s : State) (sram : List ℕ) (kind : ℕ) (mask : List ℕ)
    → eqb (reason_number_of (reset_reason_of g s sram kind mask)) 4 ≡ not (accepted_of (answer_of g s (reset sram kind mask)))
not_compared g s sram kind mask =
    by_reason g s sram kind mask (λ e. eqb (reason_number_of e.reason) 4 ≡ not (accepted_of e.after.decline))
    (λ on. was_compared _ _)
    (λ off. rw off)

pub none_valid : (g : Geometry) (s : State) (sram : List ℕ) (kind : ℕ) (mask : List ℕ) → reset_reason_of g s sram kind mask ≡ Reason.NoneValid
    → bfswap (transition_of g s (reset sram kind mask)).device ≡ false
none_valid g s sram kind mask =
    by_reason g s sram kind mask (λ e. e.reason ≡ Reason.NoneValid → bfswap e.after.state.device ≡ false)
    (λ on none.
    reset_swap g s.device (reset_ready g s.device _ _ _ kind on).possible kind _
    ∙ (comparisons.meets _ _).none_bank (ap (λ (r : Reason). eqb (reason_number_of r) 3) none))
    (λ off none. true_not_false (ap (λ (r : Reason). eqb (reason_number_of r) 4) none))
