-- A step, a tear and a flash read ask none of registers 2 to 7, and a store to one of them while an operation runs changes no other part of
-- the device. So two states that differ in these registers alone go on alike.
-- Assumes nothing.
use mathlib.Core.Path.{◌≡◌, refl, sym, ap, ◌∙◌}
use Rattle.std.specs.Prelude.{Ok, Err}
use mathlib.Core.Bool.{Bool, true, false}
use mathlib.Core.List.{List, [], ◌∷◌}
use Prim.Native.Nat.{ℕ, zero, suc, ◌+◌, ◌^◌, ◌≤◌, ◌<◌}
use native.Mathlib.Omega.{arith}
use lib.Dec.{eqb}
use lib.ListN.{length}
use lib.Seq.{get_or-set_same}
use borrow.Author.Tests.{le-leb, lt-leb, ne_eqb, eqb-true}
use Rattle.words.specs.Word.{pick, clear_of}
use Rattle.words.specs.declared.decline.Decline.{Decline}
use Rattle.words.specs.Decline.{number_of, accepted_of}
use Rattle.words.proofs.PickLaws.{pick_both, and_both}
use Rattle.words.proofs.BitLaws.{true_not_false}
use Rattle.geometry.specs.declared.banks.Geometry.{Geometry}
use Rattle.geometry.specs.Banks.{one_of, in_range_of}
use Rattle.device.specs.declared.record.Device.{Device}
use Rattle.device.specs.declared.record.Operands.{Operands}
use Rattle.device.specs.Answer.{Answer}
use Rattle.device.specs.Registers.{WR, WRERR}
use Rattle.device.specs.Numbers.{NVMADDR, NVMDATA0, NVMDATA1, NVMDATA2, NVMDATA3, NVMSRCADDR}
use Rattle.device.specs.Builders.{with_con, with_operands}
use Rattle.device.specs.Record.{register_of, running, op_of, operands_of}
use Rattle.device.specs.State.{State, state, After, after}
use Rattle.nvmop.specs.Operation.{length_of}
use Rattle.common_declines.specs.Possible.{running_of, possible_of}
use Rattle.common_declines.specs.CommonDecline.{common_decline_of}
use Rattle.common_declines.proofs.PossibleLaws.{possible}
use Rattle.common_declines.proofs.CommonDeclineLaws.{opens}
use Rattle.register_fields.specs.Fields.{wanted_of}
use Rattle.register_access.specs.Store.{has_form_of, loads_of, may_store_of, store_decline_of, applied_of, accepted, store_wanted, store_accepted_of, store_of}
use Rattle.register_access.proofs.AcceptedLaws.{store_ready, store_carried}
use Rattle.flash.specs.Write.{written_of}
use Rattle.flash.specs.Effect.{blocked_of, source_fits_of, effect_at_of, effect_of}
use Rattle.flash.specs.Step.{step_decline_of, ended_of, advanced, advance_of, step_answer_of, step_of}
use Rattle.flash.proofs.AcceptedLaws.{step_ready}
use Rattle.reads.specs.Read.{flash_read_decline_of, read_answer_of, Stepped, stepped, steps_of}
use Rattle.reads.proofs.StepsLaws.{on_of}
use Rattle.controller.specs.Controller.{answer_of, transition_of, run_of}
use Rattle.controller.specs.Controller.Operation.{store}
use Rattle.controller.specs.Loads.{Move, moves_of, works_of, Loads, Given, given_of, ButLoaded}
use Rattle.controller.specs.Loads.Move.{work, load}
use Rattle.controller.proofs.ChangeLaws.{other_register}
use Rattle.controller.proofs.StoreLaws.{store_possible}
use Rattle.flash.proofs.StepLaws.{advance_possible}
use Rattle.controller.proofs.RunLaws.{by_store}
use Rattle.controller.proofs.WriteLaws.{by_step}

-- ---- registers 2 to 7
abbrev six_registers : List ℕ
six_registers = NVMADDR ∷ NVMDATA0 ∷ NVMDATA1 ∷ NVMDATA2 ∷ NVMDATA3 ∷ NVMSRCADDR ∷ []

not_above : (r : ℕ) → 8 ≤ r → loads_of r ≡ false
not_above r h = rw (le-leb 2 r (omega arith), lt-leb r 7 (omega arith))

none_above : (r : ℕ) → 8 ≤ r → one_of six_registers r ≡ false
none_above r h =
    rw (
      ne_eqb r 2 (λ e. omega arith),
      ne_eqb r 3 (λ e. omega arith),
      ne_eqb r 4 (λ e. omega arith),
      ne_eqb r 5 (λ e. omega arith),
      ne_eqb r 6 (λ e. omega arith),
      ne_eqb r 7 (λ e. omega arith),
    )

pub six : (r : ℕ) → loads_of r ≡ one_of six_registers r
six zero = refl
six (suc zero) = refl
six (suc (suc zero)) = refl
six (suc (suc (suc zero))) = refl
six (suc (suc (suc (suc zero)))) = refl
six (suc (suc (suc (suc (suc zero))))) = refl
six (suc (suc (suc (suc (suc (suc zero)))))) = refl
six (suc (suc (suc (suc (suc (suc (suc zero))))))) = refl
six (suc (suc (suc (suc (suc (suc (suc (suc n)))))))) = let r = suc (suc (suc (suc (suc (suc (suc (suc n))))))) in
    not_above r (omega arith) ∙ sym (none_above r (omega arith))

-- what holds of each of them
by_load : (P : ℕ → Type 0) → P 2 → P 3 → P 4 → P 5 → P 6 → P 7 → (r : ℕ) → loads_of r ≡ true → P r
by_load P a b c d e f zero h = true_not_false (sym h)
by_load P a b c d e f (suc zero) h = true_not_false (sym h)
by_load P a b c d e f (suc (suc zero)) h = a
by_load P a b c d e f (suc (suc (suc zero))) h = b
by_load P a b c d e f (suc (suc (suc (suc zero)))) h = c
by_load P a b c d e f (suc (suc (suc (suc (suc zero))))) h = d
by_load P a b c d e f (suc (suc (suc (suc (suc (suc zero)))))) h = e
by_load P a b c d e f (suc (suc (suc (suc (suc (suc (suc zero))))))) h = f
by_load P a b c d e f (suc (suc (suc (suc (suc (suc (suc (suc n)))))))) h =
    true_not_false (sym h ∙ not_above (suc (suc (suc (suc (suc (suc (suc (suc n)))))))) (omega arith))

module _ (d : Device) (w : ℕ) where
  -- the store changes registers 2 to 7 alone, and shuts the key
  applied_loads : (r : ℕ) → loads_of r ≡ true → applied_of d r w ≡ with_operands (with_con d d.nvmcon.0 0 d.step) (operands_of (applied_of d r w))
  unfolding applied_of
  applied_loads =
      by_load (λ r. applied_of d r w ≡ with_operands (with_con d d.nvmcon.0 0 d.step) (operands_of (applied_of d r w))) refl refl refl refl refl refl

  -- the register holds what was wanted
  applied_holds : length d.nvmdata ≡ 4 → (r : ℕ) → loads_of r ≡ true → register_of (applied_of d r w) r ≡ w
  unfolding applied_of register_of
  applied_holds four =
      by_load (λ r. register_of (applied_of d r w) r ≡ w) refl
      (get_or-set_same d.nvmdata 0 w 0 (omega arith))
      (get_or-set_same d.nvmdata 1 w 0 (omega arith))
      (get_or-set_same d.nvmdata 2 w 0 (omega arith))
      (get_or-set_same d.nvmdata 3 w 0 (omega arith))
      refl

-- while an operation runs the key is shut
shut : (g : Geometry) (d : Device) → possible_of g d ≡ true → running d ≡ true → with_con d d.nvmcon.0 0 d.step ≡ d
unfolding running_of
shut g d can on =
    let key = eqb-true d.keystep 0 (and_both (eqb d.keystep 0) _ (rw on at (possible g d can).runs)).0 in
    ap (λ (k : ℕ). with_con d d.nvmcon.0 k d.step) (sym key)

-- a store to one of them that is not declined
module _ (g : Geometry) (d : Device) (r form value : ℕ) (loads : loads_of r ≡ true) where
  abbrev w : ℕ
  w = wanted_of form (register_of d r) value

  stored : accepted_of (store_decline_of g d r form) ≡ true → store_of g d r form value ≡ accepted (applied_of d r w) false
  unfolding store_of store_accepted_of
  stored ok = rw ok (by_load (λ q. store_wanted g d q w ≡ accepted (applied_of d q w) false) refl refl refl refl refl refl r loads)

  stored_loads : accepted_of (store_decline_of g d r form) ≡ true → running d ≡ true
      → (store_of g d r form value).device ≡ with_operands d (operands_of (applied_of d r w))
  stored_loads ok on =
      ap (λ (a : Answer). a.device) (stored ok)
      ∙ applied_loads d w r loads
      ∙ ap (λ (e : Device). with_operands e (operands_of (applied_of d r w))) (shut g d (store_ready g d r form ok).possible on)

  pub no_event : (store_of g d r form value).event ≡ false
  no_event = by_store g d r form value (λ a. a.event ≡ false) (λ ok. ap (λ (a : Answer). a.event) (stored ok)) (λ off. refl)

-- what decline 5 asks while an operation runs
asks : (d : Device) (r : ℕ) → running d ≡ true → may_store_of d r ≡ loads_of r
unfolding may_store_of
asks d r on = rw on

declines : (g : Geometry) (d : Device) (r form : ℕ) → in_range_of g ≡ true → possible_of g d ≡ true → has_form_of r form ≡ true
    → store_decline_of g d r form ≡ pick (may_store_of d r) (Ok tt) (Err Decline.Running)
unfolding store_decline_of
declines g d r form listed can formed = rw (opens g d [] 0 listed tt (omega arith) can, formed)

pub answers : (g : Geometry) (s : State) (r form value : ℕ) → in_range_of g ≡ true → possible_of g s.device ≡ true → running s.device ≡ true
    → has_form_of r form ≡ true → number_of (answer_of g s (store r form value)) ≡ pick (loads_of r) 0 5
unfolding store_accepted_of
answers g s r form value listed can on formed = go (loads_of r) refl
  where
    d : Device
    d = s.device

    go : (t : Bool) → loads_of r ≡ t → number_of (store_of g d r form value).decline ≡ pick t 0 5
    go true loads =
        ap (λ (a : Answer). number_of a.decline) (store_carried g d r form value listed can formed (asks d r on ∙ loads))
        ∙ pick_both (λ (a : Answer). number_of a.decline ≡ 0) (eqb r 0) refl refl
    go false loads =
        let busy = declines g d r form listed can formed ∙ ap (λ (t : Bool). pick t (Ok tt) (Err Decline.Running)) (asks d r on ∙ loads) in
        by_store g d r form value (λ a. number_of a.decline ≡ 5) (λ yes'. true_not_false (sym yes' ∙ ap accepted_of busy)) (λ off. ap number_of busy)

pub loaded : (g : Geometry) (s : State) (r form value : ℕ) → loads_of r ≡ true → running s.device ≡ true → length s.device.nvmdata ≡ 4
    → accepted_of (answer_of g s (store r form value)) ≡ true
    → let t = transition_of g s (store r form value) in
    ButLoaded s t × ((register_of t.device r ≡ wanted_of form (register_of s.device r) value)
    × ((q : ℕ) → (r ≡ q → ⊥) → register_of t.device q ≡ register_of s.device q))
loaded g s r form value loads on four ok =
    by_store g d r form value (λ a. accepted_of a.decline ≡ true → Loaded a)
    (λ yes' h. (
      record { operands = _; same = ap (λ (e : Device). state e s.one s.two) (stored_loads g d r form value loads yes' on) },
      (
        ap (λ (a : Answer). register_of a.device r) (stored g d r form value loads yes') ∙ applied_holds d want four r loads,
        λ q other. ap (λ (a : Answer). register_of a.device q) (stored g d r form value loads yes') ∙ other_register r q other d want,
      ),
    ))
    (λ off h. true_not_false (sym h ∙ off))
    ok
  where
    d : Device
    d = s.device

    want : ℕ
    want = wanted_of form (register_of d r) value

    Loaded : Answer → Type 0
    Loaded a = ButLoaded s (state a.device s.one s.two)
        × ((register_of a.device r ≡ want) × ((q : ℕ) → (r ≡ q → ⊥) → register_of a.device q ≡ register_of d q))

-- ---- what a step, a tear and a flash read do asks none of registers 2 to 7
pub same_effect : (g : Geometry) (d : Device) (o : Operands) (one two sram : List ℕ)
    → effect_of g (state (with_operands d o) one two) sram ≡ effect_of g (state d one two) sram
unfolding effect_of blocked_of effect_at_of source_fits_of
same_effect g d o one two sram = refl

-- an answer, a state and what a call leaves, with other registers 2 to 7
abbrev answer_with : Operands → Answer → Answer
answer_with o a = record { decline = a.decline; device = with_operands a.device o; event = a.event }

abbrev pub state_with : Operands → State → State
state_with o s = state (with_operands s.device o) s.one s.two

abbrev after_with : Operands → After → After
after_with o a = after a.decline (state_with o a.state) a.event

same_advance : (g : Geometry) (d : Device) (o : Operands) (aborts : Bool) → advance_of g (with_operands d o) aborts ≡ answer_with o (advance_of g d aborts)
unfolding advance_of
same_advance g d o true = refl
same_advance g d o false = go (eqb (d.step + 1) (length_of g (op_of d)))
  where
    go : (t : Bool) → pick t (advanced (ended_of (with_operands d o) (clear_of d.nvmcon.0 (WR + WRERR))) true)
        (advanced (with_con (with_operands d o) d.nvmcon.0 d.keystep (d.step + 1)) false)
        ≡ answer_with o (pick t (advanced (ended_of d (clear_of d.nvmcon.0 (WR + WRERR))) true)
        (advanced (with_con d d.nvmcon.0 d.keystep (d.step + 1)) false))
    go true = refl
    go false = refl

-- of a device that is as possible with them
module _ (g : Geometry) (s : State) (o : Operands) (can : possible_of g (with_operands s.device o) ≡ possible_of g s.device) where
  pub same_common : (lengths : List ℕ) (sram : ℕ) → common_decline_of g (with_operands s.device o) lengths sram ≡ common_decline_of g s.device lengths sram
  unfolding common_decline_of
  same_common lengths sram = rw can

  same_answer : (sram : List ℕ) → step_answer_of g (state_with o s) sram ≡ step_answer_of g s sram
  unfolding step_decline_of
  same_answer sram = rw (same_common (length s.one ∷ length s.two ∷ []) (length sram))

  step_with : (sram : List ℕ) → step_of g (state_with o s) sram ≡ after_with o (step_of g s sram)
  unfolding step_of
  step_with sram =
      rw (
        same_answer sram,
        same_effect g s.device o s.one s.two sram,
        same_advance g s.device o (effect_of g s sram).aborts,
      ) (go (accepted_of (step_answer_of g s sram)))
    where
      go : (t : Bool) → let e = effect_of g s sram in let a = advance_of g s.device e.aborts in
          pick t (after (Ok tt) (written_of s (with_operands a.device o) e.write) a.event) (after (step_answer_of g s sram) (state_with o s) false)
          ≡ after_with o (pick t (after (Ok tt) (written_of s a.device e.write) a.event) (after (step_answer_of g s sram) s false))
      go true = refl
      go false = refl

  pub same_read : (sram : List ℕ) (address : ℕ) → read_answer_of g (state_with o s) sram address ≡ read_answer_of g s sram address
  unfolding flash_read_decline_of
  same_read sram address = rw (same_common (length s.one ∷ length s.two ∷ []) (length sram))

-- ---- two states that differ in registers 2 to 7 alone go on alike
pub record Alike (g : Geometry) (s t : State) : Type 0 where
  pub operands : Operands
  pub same : t ≡ state_with operands s
  pub can : possible_of g (with_operands s.device operands) ≡ possible_of g s.device

alike : (g : Geometry) (s : State) → Alike g s s
alike g s = record { operands = operands_of s.device; same = refl; can = refl }

-- by a step
step_alike : (g : Geometry) (s t : State) (sram : List ℕ) → Alike g s t → Alike g (step_of g s sram).state (step_of g t sram).state
step_alike g s t sram h =
    record {
      operands = h.operands;
      same = ap (λ (u : State). (step_of g u sram).state) h.same ∙ ap (λ (a : After). a.state) (step_with g s h.operands h.can sram);
      can = kept;
    }
  where
    o : Operands
    o = h.operands

    kept : possible_of g (with_operands (step_of g s sram).state.device o) ≡ possible_of g (step_of g s sram).state.device
    kept =
        by_step g s sram (λ a. possible_of g (with_operands a.state.device o) ≡ possible_of g a.state.device)
        (λ on.
        let (ready, runs, going) = step_ready g s.device _ _ _ on in
        let aborts = (effect_of g s sram).aborts in
        ap (λ (a : Answer). possible_of g a.device) (sym (same_advance g s.device o aborts))
        ∙ advance_possible g (with_operands s.device o) (h.can ∙ ready.possible) going aborts
        ∙ sym (advance_possible g s.device ready.possible going aborts))
        (λ off. h.can)

-- and by a store to one of these registers in one of them while an operation runs
load_alike : (g : Geometry) (s t : State) (r form value : ℕ) → loads_of r ≡ true → value < 2 ^ 32 → running t.device ≡ true → Alike g s t
    → Alike g s (transition_of g t (store r form value))
load_alike g s t r form value loads word on h =
    by_store g t.device r form value (λ a. Alike g s (state a.device t.one t.two)) yes' (λ off. h)
  where
    yes' : accepted_of (store_decline_of g t.device r form) ≡ true → Alike g s (state (store_of g t.device r form value).device t.one t.two)
    yes' ok =
        let now = operands_of (applied_of t.device r (wanted_of form (register_of t.device r) value)) in
        let here : (store_of g t.device r form value).device ≡ with_operands s.device now =
        stored_loads g t.device r form value loads ok on ∙ ap (λ (u : State). with_operands u.device now) h.same in
        record {
          operands = now;
          same = ap (λ (d : Device). state d t.one t.two) here ∙ ap (λ (u : State). state (with_operands s.device now) u.one u.two) h.same;
          can =
              ap (possible_of g) (sym here)
              ∙ store_possible g t.device r form value word ok
              ∙ sym (sym h.can ∙ ap (λ (u : State). possible_of g u.device) (sym h.same) ∙ (store_ready g t.device r form ok).possible);
        }

moves_alike : (g : Geometry) (s t : State) (l : List Move) → Loads g t l → Alike g s t
    → Alike g (run_of g s (moves_of (works_of l))) (run_of g t (moves_of l))
moves_alike g s t [] loads h = h
moves_alike g s t (work sram ∷ l) loads h = moves_alike g (step_of g s sram).state (step_of g t sram).state l loads (step_alike g s t sram h)
moves_alike g s t (load r form value ∷ l) (known, (word, (on, rest))) h =
    moves_alike g s _ l rest (load_alike g s t r form value known word on h)

given_alike : (g : Geometry) (s t : State) (l : List Move) → Loads g t l → Alike g s t → given_of g t l ≡ given_of g s (works_of l)
given_alike g s t [] loads h = refl
given_alike g s t (work sram ∷ l) loads h =
    let same = ap (λ (u : State). step_of g u sram) h.same ∙ step_with g s h.operands h.can sram in
    ap (λ (a : After). record { decline = a.decline; event = a.event } ∷ given_of g (step_of g t sram).state l) same
    ∙ ap (λ (rest : List Given). record { decline = (step_of g s sram).decline; event = (step_of g s sram).event } ∷ rest)
    (given_alike g (step_of g s sram).state (step_of g t sram).state l loads (step_alike g s t sram h))
given_alike g s t (load r form value ∷ l) (known, (word, (on, rest))) h =
    given_alike g s _ l rest (load_alike g s t r form value known word on h)

-- ---- the promises of a list of moves
pub run_alike : (g : Geometry) (s : State) (l : List Move) → Loads g s l → Alike g (run_of g s (moves_of (works_of l))) (run_of g s (moves_of l))
run_alike g s l loads = moves_alike g s s l loads (alike g s)

pub but_loaded : (g : Geometry) (s t : State) → Alike g s t → ButLoaded s t
but_loaded g s t h = record { operands = h.operands; same = h.same }

pub unseen_answers : (g : Geometry) (s : State) (l : List Move) → Loads g s l → given_of g s l ≡ given_of g s (works_of l)
unseen_answers g s l loads = given_alike g s s l loads (alike g s)

-- ---- a flash read of both
pub record AlikeSteps (g : Geometry) (a c : Stepped) : Type 0 where
  pub alike : Alike g a.state c.state
  pub event : c.event ≡ a.event

-- after a step of both
on_alike : (g : Geometry) (sram : List ℕ) (n : ℕ) (a c : After) → Alike g a.state c.state → c.event ≡ a.event
    → AlikeSteps g (steps_of g sram n a.state) (steps_of g sram n c.state) → AlikeSteps g (on_of g sram n a) (on_of g sram n c)
on_alike g sram n a c h event rest = rw (ap (λ (u : State). running u.device) h.same) (go (running a.state.device))
  where
    go : (on : Bool) → AlikeSteps g (pick on (steps_of g sram n a.state) (stepped a.state a.event))
        (pick on (steps_of g sram n c.state) (stepped c.state c.event))
    go true = rest
    go false = record { alike = h; event = event }

step_event : (g : Geometry) (s t : State) (sram : List ℕ) → Alike g s t → (step_of g t sram).event ≡ (step_of g s sram).event
step_event g s t sram h =
    ap (λ (u : State). (step_of g u sram).event) h.same ∙ ap (λ (a : After). a.event) (step_with g s h.operands h.can sram)

pub steps_alike : (g : Geometry) (sram : List ℕ) (n : ℕ) (s t : State) → Alike g s t → AlikeSteps g (steps_of g sram n s) (steps_of g sram n t)
unfolding steps_of
steps_alike g sram zero s t h = record { alike = h; event = refl }
steps_alike g sram (suc n) s t h =
    on_alike g sram n (step_of g s sram) (step_of g t sram) (step_alike g s t sram h) (step_event g s t sram h)
    (steps_alike g sram n _ _ (step_alike g s t sram h))
