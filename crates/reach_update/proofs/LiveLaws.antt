-- How long the two updates are the same, and from when their devices are again: up to the differing store, and from the next store to the
-- same register on, which puts the same word there.
-- Assumes nothing.
use mathlib.Core.Path.{◌≡◌, refl, sym, ap, ◌∙◌}
use Rattle.std.specs.Prelude.{Ok, Err}
use mathlib.Core.Bool.{Bool, true, false}
use mathlib.Core.List.{List}
use Prim.Native.Nat.{ℕ, zero, suc, ◌+◌, ◌%◌, ◌≤◌, ◌<◌}
use native.Mathlib.Decide.{ℕ_discrete}
use native.Mathlib.Omega.{arith}
use lib.Dec.{eqb}
use lib.ListN.{length, set}
use lib.Seq.{get_or-set_same}
use borrow.Author.Tests.{eqb-true}
use Rattle.words.specs.Quad.{word_at}
use Rattle.words.specs.declared.decline.Decline.{Decline}
use Rattle.words.specs.Decline.{accepted_of}
use Rattle.words.proofs.CaseLaws.{below_four}
use Rattle.words.proofs.DeclineLaws.{held}
use Rattle.words.proofs.PickLaws.{and_both}
use Rattle.geometry.specs.declared.banks.Geometry.{Geometry}
use Rattle.device.specs.declared.record.Device.{Device}
use Rattle.device.specs.declared.record.Operands.{Operands}
use Rattle.device.specs.Record.{running}
use Rattle.device.specs.State.{State}
use Rattle.common_declines.specs.Possible.{possible_of, nothing_launched_of, resting_of}
use Rattle.common_declines.proofs.PossibleLaws.{resting}
use Rattle.register_access.specs.Store.{has_form_of, may_store_of, applied_of, store_accepted_of, store_of}
use Rattle.register_access.proofs.AcceptedLaws.{store_carried}
use Rattle.flash.specs.Step.{advance_of}
use Rattle.update.specs.declared.actions.Action.{Action}
use Rattle.update.specs.declared.actions.Action.TheVariants.{Store, Step}
use Rattle.update.specs.Actions.{total_of}
use Rattle.update.specs.Turn.{next_action_of, action_decline_of, perform_of}
use Rattle.update.specs.PowerFail.{Position, turned_of, Update}
use Rattle.update.proofs.FormLaws.{actions_formed}
use Rattle.update.proofs.Blocks.{old_word}
use Rattle.update.proofs.PhaseLaws.{action_at}
use Rattle.update.proofs.MoveLaws.{running_steps}
use Rattle.reach_update.specs.Near.{with_data_words, NearDevice}
use Rattle.reach_update.proofs.SameButLaws.{same_all}
use Rattle.reach_update.proofs.DeviceLaws.{running_near, store_near}
use Rattle.reach_update.proofs.PairLaws.{listed, few, after_p, after_q}
use Rattle.reach_update.proofs.TurnLaws.{first, second, Pair, next_p, next_q, action_p, action_q, allowed, Turned, turned}
use Rattle.reach_update.proofs.TurnLaws.Turned.{both, neither}

-- a step is no store
pub step_or_store : {A : Type 0} (a : Action) (r form v : ℕ) → a ≡ Step → a ≡ Store r form v → A
step_or_store a r form v e f = let z : ◌≡◌ {A = ℕ} 0 1 = cc in absurd (omega arith)

-- at rest nothing is launched
rest_words : (o : Operands) → nothing_launched_of o ≡ true → (x : ℕ) → x < 4 → word_at o.nvmdata x ≡ 0
unfolding nothing_launched_of
rest_words o h =
    let (address, h0) = and_both (eqb o.nvmaddr 0) _ h in
    let (w0, h1) = and_both (eqb (word_at o.nvmdata 0) 0) _ h0 in
    let (w1, h2) = and_both (eqb (word_at o.nvmdata 1) 0) _ h1 in
    let (w2, h3) = and_both (eqb (word_at o.nvmdata 2) 0) _ h2 in
    let (w3, source) = and_both (eqb (word_at o.nvmdata 3) 0) _ h3 in
    below_four (λ x. word_at o.nvmdata x ≡ 0) (eqb-true _ 0 w0) (eqb-true _ 0 w1) (eqb-true _ 0 w2) (eqb-true _ 0 w3)

rest_launched : (g : Geometry) (d : Device) → possible_of g d ≡ true → running d ≡ false → (x : ℕ) → x < 4 → word_at d.launched.nvmdata x ≡ 0
unfolding resting_of
rest_launched g d can idle = rest_words d.launched (and_both (eqb d.step 0) _ (resting g d can idle)).1

-- a plain store to NVMDATA x, at rest or not
own_store : (g : Geometry) (d : Device) (x : ℕ) → x < 4 → (value : ℕ) → let e = (store_accepted_of g d (3 + x) 0 value).device in
    (e.nvmdata ≡ set d.nvmdata x value) × (e.launched ≡ d.launched)
unfolding store_accepted_of applied_of
own_store g d zero l value = (refl, refl)
own_store g d (suc zero) l value = (refl, refl)
own_store g d (suc (suc zero)) l value = (refl, refl)
own_store g d (suc (suc (suc zero))) l value = (refl, refl)
own_store g d (suc (suc (suc (suc x)))) l value = absurd (omega arith)

-- it makes near devices at rest the same
own_same : (g : Geometry) (x : ℕ) → x < 4 → (d e : Device) (value : ℕ) → NearDevice x d e → length d.nvmdata ≡ 4 → length e.nvmdata ≡ 4
    → possible_of g d ≡ true → possible_of g e ≡ true → running d ≡ false → running e ≡ false
    → NearDevice x (store_accepted_of g d (3 + x) 0 value).device (store_accepted_of g e (3 + x) 0 value).device
    → (store_accepted_of g d (3 + x) 0 value).device ≡ (store_accepted_of g e (3 + x) 0 value).device
own_same g x l d e value near long long' can also idle idle' left =
    let d' = (store_accepted_of g d (3 + x) 0 value).device in
    let e' = (store_accepted_of g e (3 + x) 0 value).device in
    let (words, kept) = own_store g d x l value in
    let (words', kept') = own_store g e x l value in
    let put : word_at d'.nvmdata x ≡ value = ap (λ (q : List ℕ). word_at q x) words ∙ get_or-set_same d.nvmdata x value 0 (omega arith) in
    let put' : word_at e'.nvmdata x ≡ value = ap (λ (q : List ℕ). word_at q x) words' ∙ get_or-set_same e.nvmdata x value 0 (omega arith) in
    let none : word_at d'.launched.nvmdata x ≡ 0 = ap (λ (o : Operands). word_at o.nvmdata x) kept ∙ rest_launched g d can idle x l in
    let none' : word_at e'.launched.nvmdata x ≡ 0 = ap (λ (o : Operands). word_at o.nvmdata x) kept' ∙ rest_launched g e also idle' x l in
    let data_same : d'.nvmdata ≡ e'.nvmdata = same_all x d'.nvmdata e'.nvmdata left.words (put ∙ sym put') in
    let launched_same : d'.launched.nvmdata ≡ e'.launched.nvmdata = same_all x _ _ left.launched (none ∙ sym none') in
    sym (left.rest ∙ ap (λ (q : List ℕ). with_data_words d' q e'.launched.nvmdata) (sym data_same) ∙ ap (with_data_words d' d'.nvmdata) (sym launched_same))

-- where the actions differ: at place k, in a store to NVMDATA x, which comes again a quad's actions later
pub record Differs (g : Geometry) (x : ℕ) (one two : ℕ → Action) (k : ℕ) : Type 0 where
  pub value : ℕ
  pub store : one k ≡ Store (3 + x) 0 value
  pub same : (n : ℕ) → n < total_of g → (n ≡ k → ⊥) → one n ≡ two n
  pub next_value : ℕ
  pub next : one (k + 13) ≡ Store (3 + x) 0 next_value

module _ (g : Geometry) (s : State) (image other : List ℕ) (i : ℕ) (update : Update g s image) (also : Update g s other)
    (same : (j : ℕ) → (j ≡ i → ⊥) → word_at image j ≡ word_at other j) (k : ℕ)
    (differs : Differs g (i % 4) (action_at (first g s image other i update also same)) (action_at (second g s image other i update also same)) k) where
  abbrev one : ℕ → Action
  one = action_at (first g s image other i update also same)

  pub record Live (p q : Position) : Type 0 where
    pub early : p.place ≤ k → p.state ≡ q.state
    pub late : k + 13 < p.place → p.state.device ≡ q.state.device

  live_moved : (a b c d : Position) → a ≡ c → b ≡ d → Live c d → Live a b
  live_moved a b c d e f h = rw (e, f) h

  module _ (p q : Position) (pair : Pair g s image other i update also same p q) (live : Live p q) (sram : List ℕ) (short : length sram ≤ 16384)
      (below : p.place < total_of g) where
    to_p : next_action_of g p.state image p.place ≡ one p.place
    to_p = action_p g s image other i update also same p q pair sram short below

    to_q : (p.place ≡ k → ⊥) → next_action_of g q.state other q.place ≡ one p.place
    to_q ne = action_q g s image other i update also same p q pair sram short below ∙ sym (differs.same p.place below ne)

    may : accepted_of (action_decline_of p.state.device (one p.place)) ≡ true
    may = allowed g s image other i update also same p q pair sram short below

    -- the same action on the same device
    same_device : p.state.device ≡ q.state.device → (a : Action) → accepted_of (action_decline_of p.state.device a) ≡ true
        → (perform_of g p.state sram a).state.device ≡ (perform_of g q.state sram a).state.device
    same_device e (Store r form value) ok = ap (λ (d : Device). (store_of g d r form value).device) e
    same_device e Step ok =
        let on = (held (running p.state.device) (Ok tt) (Err Decline.Idle) refl ok).0 in
        let at_p = pair.at_p in
        let at_q = pair.at_q in
        let devices : at_p.device ≡ at_q.device =
        ap (λ (t : State). t.device) (sym at_p.state) ∙ e ∙ ap (λ (t : State). t.device) at_q.state in
        ap (λ (t : State). t.device) (after_p g s image other i update also same p q at_p at_q pair.near on sram short)
        ∙ ap (λ (d : Device). (advance_of g d false).device) devices
        ∙ sym (ap (λ (t : State). t.device) (after_q g s image other i update also same p q at_p at_q pair.near on sram short))

    -- the next store to the same register
    module _ (here : p.place ≡ k + 13) where
      x<4 : i % 4 < 4
      x<4 = few g s image other i update also same

      action : one p.place ≡ Store (3 + i % 4) 0 differs.next_value
      action = ap one here ∙ differs.next

      idle : running p.state.device ≡ false
      idle = go (running p.state.device) refl
        where
          go : (t : Bool) → running p.state.device ≡ t → running p.state.device ≡ false
          go true on =
              step_or_store (one p.place) (3 + i % 4) 0 differs.next_value
              (running_steps (first g s image other i update also same) p pair.at_p on).action action
          go false off = off

      idle_q : running q.state.device ≡ false
      idle_q =
          sym (running_near g (listed g s image other i update also same) (i % 4) x<4 p.state.device q.state.device pair.near.device) ∙ idle

      formed : has_form_of (3 + i % 4) 0 ≡ true
      formed = rw action at (actions_formed g image (old_word (first g s image other i update also same)) p.place)

      carried : (d : Device) → possible_of g d ≡ true → running d ≡ false
          → store_of g d (3 + i % 4) 0 differs.next_value ≡ store_accepted_of g d (3 + i % 4) 0 differs.next_value
      unfolding may_store_of
      carried d can off = store_carried g d (3 + i % 4) 0 differs.next_value (listed g s image other i update also same) can formed (rw off)

      own_device : (store_of g p.state.device (3 + i % 4) 0 differs.next_value).device
          ≡ (store_of g q.state.device (3 + i % 4) 0 differs.next_value).device
      own_device =
          let d = p.state.device in
          let e = q.state.device in
          let can = pair.at_p.sound.possible in
          let can' = pair.at_q.sound.possible in
          let four : (t : State) (d : Device) → t.device ≡ d → length d.nvmdata ≡ 4 → length t.device.nvmdata ≡ 4 =
          λ t d e h. ap (λ (d : Device). length d.nvmdata) e ∙ h in
          let left =
          store_near g (listed g s image other i update also same) (i % 4) x<4 d e can can' pair.near.device (3 + i % 4) 0 differs.next_value
          differs.next_value (λ ne. refl) in
          rw (carried d can idle, carried e can' idle_q)
          (own_same g (i % 4) x<4 d e differs.next_value pair.near.device
          (four p.state pair.at_p.device (ap (λ (t : State). t.device) pair.at_p.state) pair.at_p.quad)
          (four q.state pair.at_q.device (ap (λ (t : State). t.device) pair.at_q.state) pair.at_q.quad) can can' idle idle_q
          (rw (carried d can idle, carried e can' idle_q) at left))

    abbrev after : Position
    after = next_p g s image other i update also same p q pair sram

    abbrev after' : Position
    after' = next_q g s image other i update also same p q pair sram

    late_next : k + 13 < p.place + 1 → after.state.device ≡ after'.state.device
    late_next l = go (ℕ_discrete p.place (k + 13))
      where
        ne : p.place ≡ k → ⊥
        ne e = omega arith

        go : Dec (p.place ≡ k + 13) → after.state.device ≡ after'.state.device
        go (yes here) =
            rw (to_p, to_q ne, action here) (own_device here)
        go (no further) = rw (to_p, to_q ne) (same_device (live.late (omega arith)) (one p.place) may)

    live_next : Live after after'
    live_next =
        record {
          early =
              λ l. let ne : p.place ≡ k → ⊥ = λ e. omega arith in
              ap (λ (t : State). (perform_of g t sram (next_action_of g p.state image p.place)).state) (live.early (omega arith))
              ∙ ap (λ (a : Action). (perform_of g q.state sram a).state) (to_p ∙ sym (to_q ne));
          late = late_next;
        }

  pub turn_live : (p q : Position) (pair : Pair g s image other i update also same p q) → Live p q → (sram : List ℕ)
      → Live (turned_of g image p sram) (turned_of g other q sram)
  turn_live p q pair live sram = go (turned g s image other i update also same p q pair sram)
    where
      go : Turned g s image other i update also same p q pair sram → Live (turned_of g image p sram) (turned_of g other q sram)
      go (both short l e f) = live_moved _ _ _ _ e f (live_next p q pair live sram short l)
      go (neither e f) = live_moved _ _ p q e f live
