-- While an operation of an update runs, the action of its place is a step, so that a step of a read is the turn of the place; a read that
-- waits leaves the device at rest before the next store, and a turn at the place of the read, whose action is a step, is declined.
-- Assumes nothing.
use mathlib.Core.Path.{◌≡◌, refl, sym, ap, ◌∙◌}
use Rattle.std.specs.Prelude.{Ok, Err}
use mathlib.Core.Bool.{Bool, true, false, not, ◌&&◌}
use mathlib.Core.List.{List, [], ◌∷◌, ◌++◌}
use mathlib.Core.Logic.{◌⊎◌, inl, inr}
use Prim.Native.Nat.{ℕ, zero, suc, ◌+◌, ◌≤◌, ◌<◌}
use native.Mathlib.Omega.{arith}
use lib.Dec.{eqb, leb}
use lib.ListN.{length, replicate}
use borrow.Author.Tests.{lt-ltb, eq-eqb}
use Rattle.words.specs.Word.{pick, has_of}
use Rattle.words.specs.declared.decline.Decline.{Decline}
use Rattle.words.specs.Decline.{accepted_of, first_of}
use Rattle.words.proofs.BitLaws.{true_not_false}
use Rattle.geometry.specs.declared.banks.Geometry.{Geometry}
use Rattle.geometry.specs.Banks.{program_bytes_of, bank_words_of}
use Rattle.geometry.proofs.SizeLaws.{in-range}
use Rattle.sequence.specs.Sequence.{sequence_index_of}
use Rattle.words.specs.Quad.{word_at}
use Rattle.geometry.specs.Lent.{most_sram, lengths_fit_of, lent_decline_up_to}
use Rattle.common_declines.specs.CommonDecline.{common_decline_of}
use Rattle.device.specs.declared.record.Device.{Device}
use Rattle.device.specs.Registers.{UBWPULOCK}
use Rattle.device.specs.Record.{running, bfswap, pfswap, op_of}
use Rattle.device.specs.Numbers.{both_erase}
use Rattle.protection.specs.Protection.{pwp_of}
use Rattle.device.specs.State.{State, bank_of}
use Rattle.flash.specs.Effect.{step_location_of, effect_of}
use Rattle.flash.specs.Effect.{Effect}
use Rattle.flash.proofs.EffectLaws.{effect_second}
use Rattle.flash.specs.Step.{step_effect_of, stepped_of, step_answer_of, step_of}
use Rattle.flash.proofs.AcceptedLaws.{step_ready}
use Rattle.controller.proofs.WriteLaws.{by_step}
use Rattle.controller.proofs.ReadLaws.{by_steps, by_flash_read}
use Rattle.controller.proofs.WaitLaws.{one_less, last_ends, step-accepted}
use Rattle.controller.proofs.WaitLaws.{step_boot, step_program, step_bwp, step_pwp, read_same, read_ends, idle_free, waits_runs}
use Rattle.update.specs.declared.actions.Action.{Action}
use Rattle.update.specs.declared.actions.Action.TheVariants.{Step}
use Rattle.update.specs.Actions.{action_at_of, total_of}
use Rattle.update.specs.Start.{lower_word_of, start_of}
use Rattle.update.specs.Turn.{Turning, next_action_of, perform_of, turn_decline_of, turn_of}
use Rattle.update.specs.PowerFail.{Position, at, turned_of, turns_of, Cut, restarted, Restarts, Runs, Words, Update}
use Rattle.reads.specs.Read.{second_at_of, same, free_of, stepped, steps_of, remaining_of, read_answer_of, waits_of}
use Rattle.map.specs.Windows.{locate_of}
use Rattle.update.specs.Moves.{Move, moved_of, moves_of, waits_in, turns_among}
use Rattle.update.specs.Moves.Move.{turn, read}
use Rattle.update.proofs.TurnLaws.{performs, answers_so, every_turn}
use Rattle.update.proofs.PlacedLaws.{placed, lower_placed, bank_new, new_long, both_placed, not_both}
use Rattle.update.proofs.Blocks.{Fixed, Finished, Stepping, Phase, Stands, Losing, Block, DeviceIn, Within, op_in, steps_in, run_in, new_bank}
use Rattle.update.proofs.Blocks.Block.{prologue, page, quad}
use Rattle.update.proofs.Blocks.Phase.{storing, stepping, ending, finished}
use Rattle.update.proofs.BlockActions.{step_action}
use Rattle.update.proofs.BlockStores.{block_rests}
use Rattle.update.proofs.BlockSteps.{block_codes, block_writes, loaded_free}
use Rattle.update.proofs.PhaseLaws.{action_at, phase_place}
use Rattle.update.proofs.StandsLaws.{stands_turns, stands_answers, stands_action}
use Rattle.update.proofs.CutLaws.{Outcome, whole_or_losing}
use Rattle.update.proofs.StartLaws.{CanStart, accepted_again, declined_whole}
use Rattle.update.proofs.RestedLaws.{new_wins}
use Rattle.update.proofs.PowerFail.{kept, rested_runs}
use Rattle.update.proofs.WordLaws.{chosen_of}

pub turns_append : (g : Geometry) (image : List ℕ) (p : Position) (first other : List (List ℕ))
    → turns_of g image p (first ++ other) ≡ turns_of g image (turns_of g image p first) other
turns_append g image p [] other = refl
turns_append g image p (sram ∷ first) other = turns_append g image (turned_of g image p sram) first other

module _ (u : Fixed) where
  open u use {g, image, b, old, listed, image_long, image_words, old_words}

  -- ---- while an operation runs
  -- what a start asks of the device beside rest, and what no step changes
  pub record Ready (d : Device) : Type 0 where
    pub boot : bfswap d ≡ b
    pub program : pfswap d ≡ b
    pub lock : has_of d.nvmbwp.0 UBWPULOCK ≡ true
    pub reach : pwp_of d < program_bytes_of g

  -- the place is one of its steps
  pub record Steps (p : Position) : Type 0 where
    pub below : p.place < total_of g
    pub action : action_at u p.place ≡ Step
    pub ready : Ready p.state.device
    -- it lies in the new bank, and the operation does not erase both
    pub target : second_at_of p.state.device (step_location_of g p.state.device) ≡ not b
    pub one_bank : eqb (op_of p.state.device) both_erase ≡ false
    -- and it does not abort
    pub goes : (sram : List ℕ) → (effect_of g p.state sram).aborts ≡ false

  block_ready : (k : Block) (first : Device) (n : ℕ) → DeviceIn u k first → 0 < steps_in u k → Ready (run_in u k first n)
  block_ready k first n begins some =
      let (free, lock, reach, four) = loaded_free u k first begins some in
      record { boot = (block_codes u k).boot; program = (block_codes u k).program; lock = lock; reach = reach }

  erases_one : (k : Block) → eqb (op_in u k) both_erase ≡ false
  erases_one prologue = refl
  erases_one (page i) = refl
  erases_one (quad i) = refl

  block_target : (k : Block) (first : Device) (n : ℕ) (new : List ℕ) → Within u k first n new → n < steps_in u k
      → let d = run_in u k first n in second_at_of d (step_location_of g d) ≡ not b
  block_target k first n new within few =
      let s = placed b (run_in u k first n) old new in
      sym (effect_second g s []) ∙ ap (λ (e : Effect). e.write.second) (block_writes u k first n new within few [])

  -- where an operation runs the update is in the steps of a block
  pub stepping_of : (d : Device) (new : List ℕ) (place : ℕ) → Phase u d new place → running d ≡ true → Stepping u d new place
  stepping_of d new place (storing c) on =
      let rest = block_rests u c.block c.within.has c.first c.within.begins c.count c.few in
      true_not_false (sym on ∙ ap running c.device ∙ rest.idle)
  stepping_of d new place (stepping c) on = c
  stepping_of d new place (ending c) on = true_not_false (sym on ∙ ap running c.device ∙ (block_codes u c.block).end_idle)
  stepping_of d new place (finished c) on = true_not_false (sym on ∙ c.rest.idle)

  pub running_steps : (p : Position) → Stands u p → running p.state.device ≡ true → Steps p
  running_steps p stands on = go (stepping_of d stands.new p.place stands.phase (ap (λ (s : State). running s.device) (sym stands.state) ∙ on))
    where
      d : Device
      d = stands.device

      go : Stepping u d stands.new p.place → Steps p
      go c =
          record {
            below = few (phase_place u d stands.new p.place (stepping c));
            action = ap (action_at u) c.here ∙ step_action u c.block c.within.has c.count c.few;
            ready = rw same (block_ready c.block c.first c.count c.within.begins (omega (arith, c.few)));
            target = rw same (block_target c.block c.first c.count stands.new c.within c.few);
            goes = λ sram. goes sram;
            one_bank = rw (same, (block_codes u c.block).op_code) (erases_one c.block);
          }
        where
          same : p.state.device ≡ run_in u c.block c.first c.count
          same = ap (λ (s : State). s.device) stands.state ∙ c.device

          goes : (sram : List ℕ) → (effect_of g p.state sram).aborts ≡ false
          goes sram =
              ap (λ (s : State). (effect_of g s sram).aborts) (stands.state ∙ ap (λ (d : Device). placed b d old stands.new) c.device)
              ∙ ap (λ (e : Effect). e.aborts) (block_writes u c.block c.first c.count stands.new c.within c.few sram)

          few : (p.place < total_of g) ⊎ Finished u d stands.new p.place → p.place < total_of g
          few (inl l) = l
          few (inr f) = true_not_false (sym on ∙ ap (λ (s : State). running s.device) stands.state ∙ f.rest.idle)

  -- so of the accepted reads those of the new bank wait, and while no operation runs none does
  abbrev Which : State → Bool → List ℕ → ℕ → Type 0
  Which t on sram address =
      waits_of g t sram address
      ≡ (accepted_of (read_answer_of g t sram address) && (on && same (second_at_of t.device (locate_of g address)) (not b)))

  idle_which : (t : State) (sram : List ℕ) (address : ℕ) → running t.device ≡ false → Which t false sram address
  unfolding free_of
  idle_which t sram address off = rw off

  steps_which : (p : Position) (sram : List ℕ) (address : ℕ) → running p.state.device ≡ true → Steps p → Which p.state true sram address
  unfolding free_of
  steps_which p sram address on steps =
      rw (on, steps.one_bank, steps.target)
      (ap (λ (t : Bool). accepted_of (read_answer_of g p.state sram address) && t) (go (not b) (second_at_of p.state.device (locate_of g address))))
    where
      go : (x y : Bool) → not (not (same x y)) ≡ same y x
      go true true = refl
      go true false = refl
      go false true = refl
      go false false = refl

  -- the turn of such a place with an SRAM that is not too long is the step
  pub step_turn : (p : Position) → Stands u p → Steps p → (sram : List ℕ) → length sram ≤ 16384
      → turned_of g image p sram ≡ at (step_of g p.state sram).state (p.place + 1)
  step_turn p stands steps sram short =
      let accepts = ap accepted_of (sym (answers_so g p.state image sram p.place)) ∙ stands_answers u p stands sram short in
      let action = stands_action u p stands steps.below ∙ steps.action in
      ap (λ (t : Turning). at t.state t.place) (performs g p.state image sram p.place steps.below accepts)
      ∙ ap (λ (a : Action). at (perform_of g p.state sram a).state (p.place + 1)) action

  -- so as many of its steps are as many turns
  pub steps_turns : (sram : List ℕ) → length sram ≤ 16384 → (n : ℕ) (p : Position) → Stands u p → running p.state.device ≡ true
      → n ≤ remaining_of g p.state.device → turns_of g image p (replicate n sram) ≡ at (steps_of g sram n p.state).state (p.place + n)
  unfolding steps_of
  steps_turns sram short zero p stands on few = ap (at p.state) (omega arith)
  steps_turns sram short (suc n) p stands on few =
      ap (λ (r : Position). turns_of g image r (replicate n sram)) (step_turn p stands steps sram short)
      ∙ go (running q.state.device) refl (λ runs. steps_turns sram short n q stands_next runs (one_less g p.state sram n few runs))
    where
      steps : Steps p
      steps = running_steps p stands on

      q : Position
      q = at (step_of g p.state sram).state (p.place + 1)

      stands_next : Stands u q
      stands_next = rw (step_turn p stands steps sram short) at (stands_turns u p stands (sram ∷ []))

      go : (t : Bool) → running q.state.device ≡ t
          → (running q.state.device ≡ true → turns_of g image q (replicate n sram) ≡ at (steps_of g sram n q.state).state (q.place + n))
          → turns_of g image q (replicate n sram)
          ≡ at (pick t (steps_of g sram n q.state) (stepped q.state (step_of g p.state sram).event)).state (p.place + suc n)
      go true runs rest = rest runs ∙ ap (at (steps_of g sram n q.state).state) (omega arith)
      go false off rest =
          let accepted = step-accepted g p.state sram listed stands.sound short on in
          let last = last_ends g p.state sram accepted on (steps.goes sram) off in
          let none : n ≡ 0 = omega (arith, few, last) in
          rw none (ap (at q.state) (omega arith))

  -- ---- from a position: what a list of turns reaches
  module _ (start : Position) (begins : Stands u start) where
    pub record Reached (least : ℕ) (t : State) : Type 0 where
      pub srams : List (List ℕ)
      pub place : ℕ
      pub later : least ≤ place
      pub same : turns_of g image start srams ≡ at t place

    stands_there : {n : ℕ} (t : State) (h : Reached n t) → Stands u (at t h.place)
    stands_there t h = rw h.same at (stands_turns u start begins h.srams)

    -- a step leads from what turns reach to what turns reach
    step_reaches : {n : ℕ} (sram : List ℕ) (t : State) → Reached n t → Reached n (step_of g t sram).state
    step_reaches {n} sram t h =
        by_step g t sram (λ a. (step_of g t sram).state ≡ a.state → Reached n a.state) carried (λ off e. h) refl
      where
        carried : accepted_of (step_answer_of g t sram) ≡ true → (e : (step_of g t sram).state ≡ (stepped_of t (step_effect_of g t sram)).state)
            → Reached n (stepped_of t (step_effect_of g t sram)).state
        carried ok e =
            let (ready, run, on) = step_ready g t.device _ _ _ ok in
            let stands = stands_there t h in
            let steps = running_steps (at t h.place) stands on in
            rw (← e)
            (record {
              srams = h.srams ++ (sram ∷ []);
              place = h.place + 1;
              later = omega (arith, h.later);
              same =
                  turns_append g image start h.srams (sram ∷ [])
                  ∙ ap (λ (p : Position). turned_of g image p sram) h.same
                  ∙ step_turn (at t h.place) stands steps sram ready.lent.room;
            })

    -- what turns reach, with a device that a start allows but for rest
    abbrev Kept : ℕ → State → Type 0
    Kept n t = Reached n t × Ready t.device

    step_kept : {n : ℕ} (sram : List ℕ) (t : State) → Kept n t → Kept n (step_of g t sram).state
    step_kept sram t (h, ready) = (
      step_reaches sram t h,
      record {
        boot = step_boot g t sram ∙ ready.boot;
        program = step_program g t sram ∙ ready.program;
        lock = ap (λ (w : ℕ). has_of w UBWPULOCK) (step_bwp g t sram) ∙ ready.lock;
        reach = rw (step_pwp g t sram) ready.reach;
      },
    )

    -- ---- where a list of moves stands: where turns stand, or past a read that waited
    pub record Past (p : Position) : Type 0 where
      pub kept : Kept p.place p.state
      pub idle : running p.state.device ≡ false
      pub below : p.place < total_of g
      pub action : action_at u p.place ≡ Step

    pub data Where (p : Position) : Type 0 where
      here : (srams : List (List ℕ)) → turns_of g image start srams ≡ p → Where p
      past : Past p → Where p

    module _ (p : Position) (at_past : Past p) where
      stands : Stands u (at p.state at_past.kept.0.place)
      stands = stands_there p.state at_past.kept.0

      -- the action of the place is a step that is done
      is-step : next_action_of g p.state image p.place ≡ Step
      is-step =
          ap (λ (w : ℕ). action_at_of g image w p.place)
          (ap (lower_word_of g) stands.state
          ∙ lower_placed b stands.device old stands.new g (ap (λ (s : State). bfswap s.device) (sym stands.state) ∙ at_past.kept.1.boot))
          ∙ at_past.action

      -- so a turn is declined
      pub declines : (sram : List ℕ)
          → (turn_of g p.state image sram p.place).decline ≡ pick (leb (length sram) most_sram) (Err Decline.Idle) (Err Decline.Length)
      unfolding turn_decline_of common_decline_of lent_decline_up_to lengths_fit_of
      declines sram =
          let sound = stands.sound in
          answers_so g p.state image sram p.place
          ∙ rw (
            listed,
            eq-eqb _ _ sound.first,
            eq-eqb _ _ sound.other,
            eq-eqb _ _ image_long,
            sound.possible,
            lt-ltb p.place (total_of g) at_past.below,
            is-step,
            at_past.idle,
          ) (go (leb (length sram) most_sram))
        where
          go : (t : Bool) → let lent = pick t (Ok tt) (Err Decline.Length) in
              first_of (first_of lent (Ok tt)) (Err Decline.Idle) ≡ pick t (Err Decline.Idle) (Err Decline.Length)
          go true = refl
          go false = refl

      turn_stays : (sram : List ℕ) → turned_of g image p sram ≡ p
      turn_stays sram =
          let off = ap accepted_of (declines sram) ∙ go (leb (length sram) most_sram) in
          let (state, place) = (every_turn g p.state image sram p.place).declined off in
          ap (λ (s : State). at s (turned_of g image p sram).place) state ∙ ap (at p.state) place
        where
          go : (t : Bool) → accepted_of (pick t (Err Decline.Idle) (Err Decline.Length)) ≡ false
          go true = refl
          go false = refl

      read_stays : (sram : List ℕ) (address : ℕ) → moved_of g image p (read sram address) ≡ p
      read_stays sram address = ap (λ (s : State). at s p.place) (read_same g p.state sram address (idle_free g p.state sram address at_past.idle))

    pub past_stays : (p : Position) → Past p → (l : List Move) → moves_of g image p l ≡ p
    past_stays p h [] = refl
    past_stays p h (turn sram ∷ l) = ap (λ (q : Position). moves_of g image q l) (turn_stays p h sram) ∙ past_stays p h l
    past_stays p h (read sram address ∷ l) = ap (λ (q : Position). moves_of g image q l) (read_stays p h sram address) ∙ past_stays p h l

    -- where turns stand
    turned : (srams : List (List ℕ)) (p : Position) → turns_of g image start srams ≡ p → Reached p.place p.state
    turned srams p e = record { srams = srams; place = p.place; later = omega arith; same = e }

    -- a read that waits leads past
    pub waits_past : (srams : List (List ℕ)) (p : Position) → turns_of g image start srams ≡ p → (sram : List ℕ) (address : ℕ)
        → waits_of g p.state sram address ≡ true → Past (moved_of g image p (read sram address))
    waits_past srams p e sram address waits =
        record {
          kept = by_flash_read g sram (Kept p.place) (step_kept sram) p.state address (turned srams p e, steps.ready);
          idle = read_ends g p.state sram address waits;
          below = steps.below;
          action = steps.action;
        }
      where
        steps : Steps p
        steps = running_steps p (rw e at (stands_turns u start begins srams)) (waits_runs g p.state sram address waits)

    -- each move keeps to one of the two
    move_where : (p : Position) → Where p → (m : Move) → Where (moved_of g image p m)
    move_where p (here srams e) (turn sram) =
        here (srams ++ (sram ∷ [])) (turns_append g image start srams (sram ∷ []) ∙ ap (λ (q : Position). turned_of g image q sram) e)
    move_where p (here srams e) (read sram address) = go (waits_of g p.state sram address) refl
      where
        go : (t : Bool) → waits_of g p.state sram address ≡ t → Where (moved_of g image p (read sram address))
        go true w = past (waits_past srams p e sram address w)
        go false w = here srams (e ∙ sym (ap (λ (s : State). at s p.place) (read_same g p.state sram address w)))
    move_where p (past h) m = past (rw (past_stays p h (m ∷ [])) h)

    pub moves_where : (p : Position) → Where p → (l : List Move) → Where (moves_of g image p l)
    moves_where p w [] = w
    moves_where p w (m ∷ l) = moves_where (moved_of g image p m) (move_where p w m) l

    -- what turns reach, whole or inside a read
    pub where_reached : (p : Position) → Where p → Reached p.place p.state
    where_reached p (here srams e) = turned srams p e
    where_reached p (past h) = h.kept.0

    pub steps_reach : {least : ℕ} (sram : List ℕ) (n : ℕ) (t : State) → Reached least t → Reached least (steps_of g sram n t).state
    steps_reach {least} sram n t h = by_steps g sram (Reached least) (step_reaches sram) n t h

    -- which reads wait where a list of moves stands
    pub which : (p : Position) → Where p → (sram : List ℕ) (address : ℕ) → Which p.state (running p.state.device) sram address
    which p w sram address = go (running p.state.device) refl w
      where
        go : (t : Bool) → running p.state.device ≡ t → Where p → Which p.state t sram address
        go false off w = idle_which p.state sram address off
        go true on (here srams e) = steps_which p sram address on (running_steps p (rw e at (stands_turns u start begins srams)) on)
        go true on (past h) = true_not_false (sym on ∙ h.idle)

    -- a list with a read that waits ends past it
    pub waits_in_past : (p : Position) → Where p → (l : List Move) → waits_in g image p l ≡ true → Past (moves_of g image p l)
    waits_in_past p w [] h = true_not_false (sym h)
    waits_in_past p (past there) (m ∷ l) h = rw (past_stays p there (m ∷ l)) there
    waits_in_past p (here srams e) (turn sram ∷ l) h = waits_in_past (turned_of g image p sram) (move_where p (here srams e) (turn sram)) l h
    waits_in_past p (here srams e) (read sram address ∷ l) h =
        go (waits_of g p.state sram address) refl h (waits_in_past q (move_where p (here srams e) (read sram address)) l)
      where
        q : Position
        q = moved_of g image p (read sram address)

        go : (t : Bool) → waits_of g p.state sram address ≡ t → pick t true (waits_in g image q l) ≡ true
            → (waits_in g image q l ≡ true → Past (moves_of g image q l)) → Past (moves_of g image q l)
        go true w h rest = let there = waits_past srams p e sram address w in rw (past_stays q there l) there
        go false w h rest = rest h

    -- a list of moves that reaches the total is never past
    pub moves_total : (p : Position) → (srams : List (List ℕ)) → turns_of g image start srams ≡ p → (l : List Move)
        → (moves_of g image p l).place ≡ total_of g → moves_of g image p l ≡ turns_of g image p (turns_among l)
    moves_total p srams e [] done = refl
    moves_total p srams e (turn sram ∷ l) done =
        moves_total (turned_of g image p sram) (srams ++ (sram ∷ []))
        (turns_append g image start srams (sram ∷ []) ∙ ap (λ (q : Position). turned_of g image q sram) e) l done
    moves_total p srams e (read sram address ∷ l) done = go (waits_of g p.state sram address) refl (moves_total p srams e l)
      where
        q : Position
        q = moved_of g image p (read sram address)

        go : (t : Bool) → waits_of g p.state sram address ≡ t
            → ((moves_of g image p l).place ≡ total_of g → moves_of g image p l ≡ turns_of g image p (turns_among l))
            → moves_of g image q l ≡ turns_of g image p (turns_among l)
        go true w rest =
            let h = waits_past srams p e sram address w in
            absurd (omega (arith, h.below, sym (ap (λ (r : Position). r.place) (past_stays q h l)) ∙ done))
        go false w rest =
            let same : q ≡ p = ap (λ (s : State). at s p.place) (read_same g p.state sram address w) in
            ap (λ (r : Position). moves_of g image r l) same
            ∙ rest (ap (λ (r : Position). (moves_of g image r l).place) (sym same) ∙ done)

    -- the old bank is as it was
    pub past_kept : (p : Position) → Past p → bank_of p.state b ≡ old
    past_kept p h = kept u (at p.state h.kept.0.place) (stands p h)

    -- ---- the way out of it: the same start is an update again, or declined 10 where the new bank is whole
    abbrev Whole : State → Type 0
    Whole t = bank_of t (not b) ≡ new_bank u

    -- which then runs after every reset and completed start-up
    abbrev NewRuns : State → Type 0
    NewRuns t = (c : Cut) → Restarts g t c → Runs (restarted g t c) (not b) (new_bank u)

    abbrev pub Again : State → Type 0
    Again t = (Update g t image × (Whole t → ⊥)) ⊎ (((start_of g t image).decline ≡ Err Decline.Sequence) × (Whole t × NewRuns t))

    pub past_starts : (p : Position) → Past p → Again p.state
    past_starts p h = go (outcome there.phase (ap (λ (s : State). running s.device) (sym there.state) ∙ h.idle))
      where
        there : Stands u (at p.state h.kept.0.place)
        there = stands p h

        d : Device
        d = there.device

        new : List ℕ
        new = there.new

        long : length new ≡ bank_words_of g
        long = new_long b d old new g (rw there.state at there.sound)

        outcome : Phase u d new h.kept.0.place → running d ≡ false → Outcome u new
        outcome (storing c) idle = whole_or_losing u c.block c.within.has 0 new long (omega arith) c.within.bank
        outcome (stepping c) idle = true_not_false (sym (ap running c.device ∙ (block_codes u c.block).on) ∙ idle)
        outcome (ending c) idle = whole_or_losing u c.block c.within.has (steps_in u c.block) new long (omega arith) c.within.bank
        outcome (finished c) idle = inr c.whole

        can : CanStart g b d
        can =
            let same : p.state.device ≡ d = ap (λ (s : State). s.device) there.state in
            let ready = rw same at h.kept.1 in
            record {
              rest =
                  record {
                    listed = listed;
                    range = in-range g listed;
                    possible = rw same at there.sound.possible;
                    idle = rw same at h.idle;
                  };
              boot = ready.boot;
              program = ready.program;
              lock = ready.lock;
              reach = ready.reach;
            }

        wins : new ≡ new_bank u → chosen_of b (word_at old (sequence_index_of g)) (word_at new (sequence_index_of g)) ≡ not b
        wins whole = ap (λ (l : List ℕ). chosen_of b (word_at old (sequence_index_of g)) (word_at l (sequence_index_of g))) whole ∙ new_wins u

        new_there : bank_of p.state (not b) ≡ new
        new_there = ap (λ (s : State). bank_of s (not b)) there.state ∙ bank_new b d old new

        again : Losing u new → Update g p.state image
        again losing =
            let (one, two) = both_placed Words b old new old_words losing.words in
            rw there.state
            (record {
              accepted = accepted_again u d new long losing can;
              one_words = one;
              two_words = two;
              new_words_lem = image_words;
              quad = there.quad;
            })

        go : Outcome u new → Again p.state
        go (inl losing) = inl (again losing, λ whole. not_both b (sym losing.loses.chosen ∙ wins (sym new_there ∙ whole)))
        go (inr whole) =
            let whole_there = new_there ∙ whole in
            let runs : NewRuns p.state = λ c restart. rested_runs u (at p.state h.kept.0.place) there c h.idle whole_there restart.reset in
            inr (rw there.state (declined_whole u d new long (wins whole) can), (whole_there, runs))
