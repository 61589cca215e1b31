-- Two updates of one start whose images differ in word i: their actions differ in one data store alone, and a step of one writes the quad
-- that a step of the other writes, with the same words but for word i.
-- Assumes nothing.
use mathlib.Core.Path.{◌≡◌, refl, sym, ap, ◌∙◌}
use mathlib.Core.Bool.{Bool, true, false, not}
use mathlib.Core.List.{List, [], ◌∷◌, ◌++◌}
use Prim.Native.Nat.{ℕ, zero, suc, ◌+◌, ◌-◌, ◌*◌, ◌/◌, ◌%◌, ◌≤◌, ◌<◌}
use native.Mathlib.Nat.{mod-lt}
use native.Mathlib.Omega.{arith}
use lib.Dec.{eqb, ltb}
use lib.ListN.{length, get_or}
use Rattle.words.specs.Quad.{word_at, put_quad}
use Rattle.geometry.specs.declared.banks.Geometry.{Geometry}
use Rattle.geometry.specs.Banks.{in_range_of}
use Rattle.sequence.specs.Sequence.{sequence_quad_of}
use Rattle.map.specs.Windows.{quad_index_of}
use Rattle.device.specs.declared.record.Device.{Device}
use Rattle.device.specs.Numbers.{quad_program}
use Rattle.device.specs.Record.{running, op_of}
use Rattle.device.specs.State.{State, After}
use Rattle.flash.specs.Effect.{Effect}
use Rattle.flash.specs.Write.{written_of}
use Rattle.flash.specs.Effect.{effect, effect_of, step_location_of}
use Rattle.flash.specs.Step.{advance_of, step_of}
use Rattle.flash.proofs.EffectLaws.{effect_quad}
use Rattle.update.specs.declared.actions.Action.{Action}
use Rattle.update.specs.declared.actions.Action.TheVariants.{Store, Step}
use Rattle.update.specs.Actions.{stored, prologue, launch_stores, end_stores, quad_block, erased_page_of, programmed_quad_of}
use Rattle.update.specs.Actions.{new_quad_of, page_actions, quad_actions, programming_from}
use Rattle.update.specs.Actions.{page_action_of, quad_action_of, action_at_of}
use Rattle.update.specs.PowerFail.{Position, old, Update}
use Rattle.update.proofs.FormLaws.{step_carried}
use Rattle.update.proofs.PlacedLaws.{placed, bank_new, put_placed}
use Rattle.update.proofs.Blocks.{Fixed, Block, Stepping, Stands, old_word, op_in, steps_in, quad_in, words_in}
use Rattle.update.proofs.Blocks.Block.{prologue as start, page, quad}
use Rattle.update.proofs.BlockSteps.{block_codes, block_writes}
use Rattle.update.proofs.PhaseLaws.{action_at}
use Rattle.update.proofs.StartLaws.{start_fixed}
use Rattle.update.proofs.MoveLaws.{stepping_of}
use Rattle.reach_update.specs.Near.{SameBut, NearDevice, NearState}
use Rattle.words.proofs.QuadLaws.{quad_word}
use Rattle.reach_update.proofs.SameButLaws.{put_near}
use Rattle.reach_update.proofs.DeviceLaws.{pick_two, by_near, running_near, advance_near}

-- ---- actions that are the same but for the value of a store to NVMDATA x
abbrev pub Alike : ℕ → Action → Action → Type 0
Alike x (Store r form v) (Store s form' w) = (r ≡ s) × (form ≡ form') × ((r ≡ 3 + x → ⊥) → v ≡ w)
Alike x (Store r form v) Step = ⊥
Alike x Step (Store r form v) = ⊥
Alike x Step Step = Unit {0}

alike_self : (x : ℕ) (a : Action) → Alike x a a
alike_self x (Store r form v) = (refl, refl, λ ne. refl)
alike_self x Step = tt

abbrev AllAlike : ℕ → List Action → List Action → Type 0
AllAlike x [] [] = Unit {0}
AllAlike x [] (b ∷ m) = ⊥
AllAlike x (a ∷ l) [] = ⊥
AllAlike x (a ∷ l) (b ∷ m) = Alike x a b × AllAlike x l m

all_self : (x : ℕ) (l : List Action) → AllAlike x l l
all_self x [] = tt
all_self x (a ∷ l) = (alike_self x a, all_self x l)

alike_at : (x : ℕ) (l m : List Action) → AllAlike x l m → (k : ℕ) → Alike x (get_or l k Step) (get_or m k Step)
alike_at x [] [] h k = go k
  where
    go : (k : ℕ) → Alike x (get_or {A = Action} [] k Step) (get_or {A = Action} [] k Step)
    go zero = tt
    go (suc k) = tt
alike_at x [] (b ∷ m) h k = absurd h
alike_at x (a ∷ l) [] h k = absurd h
alike_at x (a ∷ l) (b ∷ m) (h, t) zero = h
alike_at x (a ∷ l) (b ∷ m) (h, t) (suc k) = alike_at x l m t k

-- the state with an old bank that is the same in both
pub near_placed : (b : Bool) (i : ℕ) (d e : Device) (kept new other : List ℕ) → NearDevice (i % 4) d e → SameBut i new other
    → NearState b i (placed b d kept new) (placed b e kept other)
near_placed true i d e kept new other near same = record { device = near; old_bank = refl; new_bank_lem = same }
near_placed false i d e kept new other near same = record { device = near; old_bank = refl; new_bank_lem = same }

-- location and operation of a step
near_location : (g : Geometry) (x : ℕ) (d e : Device) → NearDevice x d e → (step_location_of g d ≡ step_location_of g e) × (op_of d ≡ op_of e)
near_location g x d e near =
    by_near x d e (λ (f : Device). (step_location_of g d ≡ step_location_of g f) × (op_of d ≡ op_of f)) near (λ p q hp hq. (refl, refl))

module _ (g : Geometry) (s : State) (image other : List ℕ) (i : ℕ) (update : Update g s image) (also : Update g s other)
    (same : (j : ℕ) → (j ≡ i → ⊥) → word_at image j ≡ word_at other j) where
  abbrev pub u : Fixed
  u = start_fixed g s image update (old s) refl

  abbrev pub v : Fixed
  v = start_fixed g s other also (old s) refl

  abbrev x : ℕ
  x = i % 4

  pub listed : in_range_of g ≡ true
  listed = u.listed

  pub few : i % 4 < 4
  few = mod-lt i (omega arith)

  -- the quads of the two new banks
  new_quads : (j y : ℕ) → y < 4 → (4 * j + y ≡ i → ⊥) → word_at (new_quad_of g image (old_word u) j) y ≡ word_at (new_quad_of g other (old_word v) j) y
  unfolding new_quad_of
  new_quads j y l ne =
      pick_two (λ (q r : List ℕ). word_at q y ≡ word_at r y) (eqb j (sequence_quad_of g)) refl
      (quad_word image j y l ∙ same (4 * j + y) ne ∙ sym (quad_word other j y l))

  -- ---- actions
  quad_alike : (j k : ℕ) → Alike x (quad_action_of g j (new_quad_of g image (old_word u) j) k) (quad_action_of g j (new_quad_of g other (old_word v) j) k)
  unfolding quad_action_of
  quad_alike j k =
      let q = new_quad_of g image (old_word u) j in
      let r = new_quad_of g other (old_word v) j in
      let store : (y : ℕ) → y < 4 → (3 + y ≡ 3 + x → ⊥) → word_at q y ≡ word_at r y = λ y l ne. new_quads j y l (λ e. ne (omega arith)) in
      let rest = stored (launch_stores quad_program) ++ (Step ∷ stored end_stores) in
      alike_at x (quad_block g j q) (quad_block g j r) (
        (refl, refl, λ ne. refl),
        (
          (refl, refl, store 0 (omega arith)),
          (
            (refl, refl, store 1 (omega arith)),
            ((refl, refl, store 2 (omega arith)), ((refl, refl, store 3 (omega arith)), all_self x rest)),
          ),
        ),
      )
      k

  pub actions_alike : (n : ℕ) → Alike x (action_at u n) (action_at v n)
  unfolding action_at_of
  actions_alike n =
      pick_two (Alike x) (ltb n 12) (alike_self x (get_or prologue n Step))
      (pick_two (Alike x) (ltb n (programming_from g))
      (alike_self x (page_action_of g (erased_page_of g ((n - 12) / page_actions g)) ((n - 12) % page_actions g)))
      (quad_alike (programmed_quad_of g ((n - programming_from g) / quad_actions)) ((n - programming_from g) % quad_actions)))

  -- ---- where both updates are in steps
  module _ (p q : Position) (at_p : Stands u p) (at_q : Stands v q) (near : NearState (old s) i p.state q.state) where
    pub near_devices : NearDevice x at_p.device at_q.device
    near_devices = rw (at_p.state, at_q.state) at near.device

    pub near_banks : SameBut i at_p.new at_q.new
    near_banks =
        rw (at_p.state, at_q.state, bank_new (old s) at_p.device u.old at_p.new, bank_new (old s) at_q.device v.old at_q.new)
        at near.new_bank_lem

    module _ (on : running p.state.device ≡ true) where
      on_q : running q.state.device ≡ true
      on_q = sym (running_near g listed x few p.state.device q.state.device near.device) ∙ on

      pub step_p : Stepping u at_p.device at_p.new p.place
      step_p = stepping_of u at_p.device at_p.new p.place at_p.phase (ap (λ (t : State). running t.device) (sym at_p.state) ∙ on)

      pub step_q : Stepping v at_q.device at_q.new q.place
      step_q = stepping_of v at_q.device at_q.new q.place at_q.phase (ap (λ (t : State). running t.device) (sym at_q.state) ∙ on_q)

      abbrev pub quad_p : ℕ
      quad_p = quad_in u step_p.block step_p.count

      abbrev pub quad_q : ℕ
      quad_q = quad_in v step_q.block step_q.count

      abbrev pub words_p : List ℕ
      words_p = words_in u step_p.block

      abbrev pub words_q : List ℕ
      words_q = words_in v step_q.block

      pub writes_p : (sram : List ℕ) → effect_of g p.state sram ≡ effect false true (not (old s)) quad_p words_p
      writes_p sram =
          ap (λ (t : State). effect_of g t sram) (at_p.state ∙ ap (λ (d : Device). placed (old s) d u.old at_p.new) step_p.device)
          ∙ block_writes u step_p.block step_p.first step_p.count at_p.new step_p.within step_p.few sram

      pub writes_q : (sram : List ℕ) → effect_of g q.state sram ≡ effect false true (not (old s)) quad_q words_q
      writes_q sram =
          ap (λ (t : State). effect_of g t sram) (at_q.state ∙ ap (λ (d : Device). placed (old s) d v.old at_q.new) step_q.device)
          ∙ block_writes v step_q.block step_q.first step_q.count at_q.new step_q.within step_q.few sram

      -- the same quad
      pub same_quad : quad_p ≡ quad_q
      same_quad =
          ap (λ (e : Effect). e.write.quad) (sym (writes_p []))
          ∙ effect_quad g p.state []
          ∙ ap (quad_index_of g) (near_location g x p.state.device q.state.device near.device).0
          ∙ sym (effect_quad g q.state [])
          ∙ ap (λ (e : Effect). e.write.quad) (writes_q [])

      same_op : op_in u step_p.block ≡ op_in v step_q.block
      same_op =
          sym (ap op_of step_p.device ∙ (block_codes u step_p.block).op_code)
          ∙ (near_location g x at_p.device at_q.device near_devices).1
          ∙ ap op_of step_q.device
          ∙ (block_codes v step_q.block).op_code

      -- with the same words but for word i
      pub same-words : (y : ℕ) → y < 4 → (4 * quad_p + y ≡ i → ⊥) → word_at words_p y ≡ word_at words_q y
      same-words = go step_p.block step_q.block step_p.count step_q.count step_p.few step_q.few same_op same_quad
        where
          go : (k m : Block) (n o : ℕ) → n < steps_in u k → o < steps_in v m → op_in u k ≡ op_in v m → quad_in u k n ≡ quad_in v m o
              → (y : ℕ) → y < 4 → (4 * quad_in u k n + y ≡ i → ⊥) → word_at (words_in u k) y ≡ word_at (words_in v m) y
          go start m n o few_n few_o op at y l ne = absurd (omega arith)
          go (page a) start n o few_n few_o op at y l ne = absurd (omega arith)
          go (page a) (page c) n o few_n few_o op at y l ne = refl
          go (page a) (quad c) n o few_n few_o op at y l ne = absurd (omega arith)
          go (quad a) start n o few_n few_o op at y l ne = absurd (omega arith)
          go (quad a) (page c) n o few_n few_o op at y l ne = absurd (omega arith)
          go (quad a) (quad c) n o few_n few_o op at y l ne =
              new_quads (programmed_quad_of g a) y l ne
              ∙ ap (λ (j : ℕ). word_at (new_quad_of g other (old_word v) j) y) at

      -- so a step of both leaves them near
      module _ (sram : List ℕ) (short : length sram ≤ 16384) where
        pub after_p : (step_of g p.state sram).state ≡ placed (old s) (advance_of g at_p.device false).device u.old (put_quad at_p.new quad_p words_p)
        after_p =
            ap (λ (a : After). a.state) (step_carried g p.state sram listed at_p.sound short on)
            ∙ ap (λ (e : Effect). written_of p.state (advance_of g p.state.device e.aborts).device e.write) (writes_p sram)
            ∙ ap (λ (t : State). written_of t (advance_of g t.device false).device (effect false true (not (old s)) quad_p words_p).write) at_p.state
            ∙ put_placed (old s) at_p.device u.old at_p.new (advance_of g at_p.device false).device quad_p words_p

        pub after_q : (step_of g q.state sram).state ≡ placed (old s) (advance_of g at_q.device false).device v.old (put_quad at_q.new quad_q words_q)
        after_q =
            ap (λ (a : After). a.state) (step_carried g q.state sram listed at_q.sound short on_q)
            ∙ ap (λ (e : Effect). written_of q.state (advance_of g q.state.device e.aborts).device e.write) (writes_q sram)
            ∙ ap (λ (t : State). written_of t (advance_of g t.device false).device (effect false true (not (old s)) quad_q words_q).write) at_q.state
            ∙ put_placed (old s) at_q.device v.old at_q.new (advance_of g at_q.device false).device quad_q words_q

        pub step_near : NearState (old s) i (step_of g p.state sram).state (step_of g q.state sram).state
        step_near =
            rw (after_p, after_q, ← same_quad)
            (near_placed (old s) i _ _ u.old _ _ (advance_near g x at_p.device at_q.device near_devices)
            (put_near i at_p.new at_q.new near_banks quad_p words_p words_q same-words))
