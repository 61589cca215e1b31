-- The same moves of both updates, and the same part of a read: what they leave is what the same list of turns leaves of both.
-- Assumes nothing.
use mathlib.Core.Path.{◌≡◌, refl, sym, ap, ◌∙◌}
use mathlib.Core.Bool.{Bool, true, false}
use mathlib.Core.List.{List, [], ◌∷◌, ◌++◌}
use Prim.Native.Nat.{ℕ, zero, suc, ◌+◌, ◌%◌, ◌≤◌}
use native.Mathlib.Omega.{arith}
use lib.ListN.{length, replicate}
use Rattle.words.specs.Quad.{word_at}
use Rattle.words.specs.Decline.{accepted_of}
use Rattle.words.proofs.BitLaws.{true_not_false}
use Rattle.geometry.specs.declared.banks.Geometry.{Geometry}
use Rattle.map.specs.Windows.{locate_of}
use Rattle.device.specs.declared.record.Device.{Device}
use Rattle.device.specs.Record.{running}
use Rattle.device.specs.State.{State}
use Rattle.common_declines.specs.CommonDecline.{common_decline_of}
use Rattle.flash.specs.Step.{step_answer_of, step_of}
use Rattle.flash.proofs.AcceptedLaws.{step_ready}
use Rattle.reads.specs.Read.{second_at_of, free_of, flash_read_decline_of, read_answer_of, remaining_of, waits_of, steps_of, flash_read_of}
use Rattle.controller.specs.Controller.{run_of, Sound}
use Rattle.controller.specs.Controller.Operation.{step}
use Rattle.controller.proofs.WaitLaws.{read_same, step-accepted, steps_run, read_steps}
use Rattle.update.specs.PowerFail.{Position, at, turned_of, turns_of, old, Update}
use Rattle.update.specs.Moves.{Move, moved_of, moves_of, End, end_state_of, after_moves}
use Rattle.update.specs.Moves.Move.{turn, read}
use Rattle.update.specs.Moves.End.{whole, inside}
use Rattle.update.proofs.Blocks.{Stands}
use Rattle.update.proofs.PhaseLaws.{action_at}
use Rattle.update.proofs.StartLaws.{start_stands}
use Rattle.update.proofs.MoveLaws.{turns_append, running_steps, step_turn, Past, past_stays, waits_past}
use Rattle.reach_update.specs.Near.{NearState}
use Rattle.reach_update.proofs.SameButLaws.{same_self}
use Rattle.reach_update.proofs.DeviceLaws.{near_self, by_near, running_near}
use Rattle.reach_update.proofs.PairLaws.{listed, few}
use Rattle.reach_update.proofs.TurnLaws.{first, second, Pair, turn_pair}
use Rattle.reach_update.proofs.LiveLaws.{step_or_store, Differs, Live, turn_live}

near_same : (b : Bool) (i : ℕ) (t : State) → NearState b i t t
near_same b i t = record { device = near_self (i % 4) t.device; old_bank = refl; new_bank_lem = same_self i _ }

module _ (g : Geometry) (s : State) (image other : List ℕ) (i : ℕ) (update : Update g s image) (also : Update g s other)
    (same : (j : ℕ) → (j ≡ i → ⊥) → word_at image j ≡ word_at other j) (k : ℕ)
    (differs : Differs g (i % 4) (action_at (first g s image other i update also same)) (action_at (second g s image other i update also same)) k) where
  abbrev Both : Position → Position → Type 0
  Both = Pair g s image other i update also same

  abbrev Lives : Position → Position → Type 0
  Lives = Live g s image other i update also same k differs

  begins_p : Stands (first g s image other i update also same) (at s 0)
  begins_p = start_stands g s image update (old s) refl

  begins_q : Stands (second g s image other i update also same) (at s 0)
  begins_q = start_stands g s other also (old s) refl

  -- ---- the same turns
  both_moved : (a b c d : Position) → a ≡ c → b ≡ d → Both a b × Lives a b → Both c d × Lives c d
  both_moved a b c d e f h = rw (e, f) at h

  turns_both : (l : List (List ℕ)) (p q : Position) → Both p q × Lives p q
      → let c = turns_of g image p l in let d = turns_of g other q l in Both c d × Lives c d
  turns_both [] p q h = h
  turns_both (sram ∷ l) p q (pair, live) =
      turns_both l (turned_of g image p sram) (turned_of g other q sram)
      (turn_pair g s image other i update also same p q pair sram, turn_live g s image other i update also same k differs p q pair live sram)

  from_start : (l : List (List ℕ)) → let c = turns_of g image (at s 0) l in let d = turns_of g other (at s 0) l in Both c d × Lives c d
  from_start l =
      turns_both l (at s 0) (at s 0)
      (record { at_p = begins_p; at_q = begins_q; place = refl; near = near_same (old s) i s }, record { early = λ h. refl; late = λ h. refl })

  -- ---- states that the same turns leave, at a place or a later one
  pub record Together (least : ℕ) (t r : State) : Type 0 where
    pub srams : List (List ℕ)
    pub place : ℕ
    pub later : least ≤ place
    pub early : least ≤ k → place ≤ k
    pub to_p : turns_of g image (at s 0) srams ≡ at t place
    pub to_q : turns_of g other (at s 0) srams ≡ at r place

  pub together : {least : ℕ} {t r : State} (h : Together least t r) → Both (at t h.place) (at r h.place) × Lives (at t h.place) (at r h.place)
  together {least} {t} {r} h = both_moved _ _ _ _ h.to_p h.to_q (from_start h.srams)

  pub running_same : {least : ℕ} {t r : State} → Together least t r → running t.device ≡ running r.device
  running_same h =
      running_near g (listed g s image other i update also same) (i % 4) (few g s image other i update also same) _ _ (together h).0.near.device

  -- ---- a step of both
  module _ {least : ℕ} (sram : List ℕ) (t r : State) (h : Together least t r) where
    abbrev p : Position
    p = at t h.place

    abbrev q : Position
    q = at r h.place

    stays : (u : State) → accepted_of (step_answer_of g u sram) ≡ false → (step_of g u sram).state ≡ u
    unfolding step_of
    stays u off = rw off

    moves : accepted_of (step_answer_of g t sram) ≡ true → Together least (step_of g t sram).state (step_of g r sram).state
    moves ok =
        let (ready, run, on) = step_ready g t.device _ _ _ ok in
        let pair = (together h).0 in
        let steps = running_steps (first g s image other i update also same) p pair.at_p on in
        let steps_q = running_steps (second g s image other i update also same) q pair.at_q (sym (running_same h) ∙ on) in
        let apart : h.place ≡ k → ⊥ =
        λ e. step_or_store _ (3 + i % 4) 0 differs.value steps.action (ap (action_at (first g s image other i update also same)) e ∙ differs.store) in
        record {
          srams = h.srams ++ (sram ∷ []);
          place = h.place + 1;
          later = omega (arith, h.later);
          early = λ l. let below = h.early l in omega (arith, below, apart);
          to_p =
              turns_append g image (at s 0) h.srams (sram ∷ [])
              ∙ ap (λ (c : Position). turned_of g image c sram) h.to_p
              ∙ step_turn (first g s image other i update also same) p pair.at_p steps sram ready.lent.room;
          to_q =
              turns_append g other (at s 0) h.srams (sram ∷ [])
              ∙ ap (λ (c : Position). turned_of g other c sram) h.to_q
              ∙ step_turn (second g s image other i update also same) q pair.at_q steps_q sram ready.lent.room;
        }

    step_together : Together least (step_of g t sram).state (step_of g r sram).state
    step_together = go (accepted_of (step_answer_of g t sram)) refl (accepted_of (step_answer_of g r sram)) refl
      where
        go : (a : Bool) → accepted_of (step_answer_of g t sram) ≡ a → (b : Bool) → accepted_of (step_answer_of g r sram) ≡ b
            → Together least (step_of g t sram).state (step_of g r sram).state
        go true ok b other_ok = moves ok
        go false off true ok =
            let (ready, run, on) = step_ready g r.device _ _ _ ok in
            let sound = (together h).0.at_p.sound in
            true_not_false
            (sym (step-accepted g t sram (listed g s image other i update also same) sound ready.lent.room (running_same h ∙ on)) ∙ off)
        go false off false off_q = rw (stays t off, stays r off_q) h

  run_together : {least : ℕ} (sram : List ℕ) (n : ℕ) (t r : State) → Together least t r
      → Together least (run_of g t (replicate n (step sram))) (run_of g r (replicate n (step sram)))
  run_together sram zero t r h = h
  run_together sram (suc n) t r h = run_together sram n (step_of g t sram).state (step_of g r sram).state (step_together sram t r h)

  steps_together : {least : ℕ} (sram : List ℕ) (n : ℕ) (t r : State) → Together least t r
      → Together least (steps_of g sram n t).state (steps_of g sram n r).state
  steps_together sram n t r h = rw (steps_run g sram n t, steps_run g sram n r) (run_together sram n t r h)

  -- ---- reads: the same ones wait, for as many steps
  pub common_same : (t r : State) (sram : ℕ) → Sound g t → Sound g r
      → common_decline_of g t.device (length t.one ∷ length t.two ∷ []) sram
      ≡ common_decline_of g r.device (length r.one ∷ length r.two ∷ []) sram
  unfolding common_decline_of
  common_same t r sram sound sound' =
      rw (sound.first, sound.other, sound'.first, sound'.other, sound.possible, sound'.possible)

  module _ {least : ℕ} (t r : State) (h : Together least t r) (sram : List ℕ) (address : ℕ) where
    pub read_answer : read_answer_of g t sram address ≡ read_answer_of g r sram address
    unfolding flash_read_decline_of
    read_answer = rw (common_same t r (length sram) (together h).0.at_p.sound (together h).0.at_q.sound)

    free_same : free_of g t.device (second_at_of t.device (locate_of g address)) ≡ free_of g r.device (second_at_of r.device (locate_of g address))
    unfolding free_of
    free_same =
        by_near (i % 4) t.device r.device
        (λ (e : Device). free_of g t.device (second_at_of t.device (locate_of g address)) ≡ free_of g e (second_at_of e (locate_of g address)))
        (together h).0.near.device (λ p q hp hq. refl)

    pub waits_same : waits_of g t sram address ≡ waits_of g r sram address
    waits_same = rw (read_answer, free_same)

    remaining_same : remaining_of g t.device ≡ remaining_of g r.device
    remaining_same =
        by_near (i % 4) t.device r.device (λ (e : Device). remaining_of g t.device ≡ remaining_of g e) (together h).0.near.device
        (λ p q hp hq. refl)

    read_together : waits_of g t sram address ≡ true
        → Together least (flash_read_of g t sram address).after.state (flash_read_of g r sram address).after.state
    read_together waits =
        rw (read_steps g t sram address waits, read_steps g r sram address (sym waits_same ∙ waits), ← remaining_same)
        (steps_together sram (remaining_of g t.device) t r h)

  -- ---- lists of moves: where the same turns stand, or both past a read that waited
  abbrev PastP : Position → Type 0
  PastP = Past (first g s image other i update also same) (at s 0) begins_p

  abbrev PastQ : Position → Type 0
  PastQ = Past (second g s image other i update also same) (at s 0) begins_q

  data Where (p q : Position) : Type 0 where
    here : (srams : List (List ℕ)) → turns_of g image (at s 0) srams ≡ p → turns_of g other (at s 0) srams ≡ q → Where p q
    past : PastP p → PastQ q → p.place ≡ q.place → Together p.place p.state q.state → Where p q

  where_moved : (a b c d : Position) → a ≡ c → b ≡ d → Where c d → Where a b
  where_moved a b c d e f h = rw (e, f) h

  -- what the same turns leave
  where_together : (p q : Position) → Where p q → (p.place ≡ q.place) × Together p.place p.state q.state
  where_together p q (here srams e f) =
      let pair = (both_moved _ _ p q e f (from_start srams)).0 in (
        pair.place,
        record {
          srams = srams;
          place = p.place;
          later = omega arith;
          early = λ l. l;
          to_p = e;
          to_q = f ∙ ap (at q.state) (sym pair.place);
        },
      )
  where_together p q (past there there' place h) = (place, h)

  move_where : (p q : Position) → Where p q → (m : Move) → Where (moved_of g image p m) (moved_of g other q m)
  move_where p q (past there there' place h) m =
      where_moved _ _ p q (past_stays (first g s image other i update also same) (at s 0) begins_p p there (m ∷ []))
      (past_stays (second g s image other i update also same) (at s 0) begins_q q there' (m ∷ [])) (past there there' place h)
  move_where p q (here srams e f) (turn sram) =
      here (srams ++ (sram ∷ [])) (turns_append g image (at s 0) srams (sram ∷ []) ∙ ap (λ (c : Position). turned_of g image c sram) e)
      (turns_append g other (at s 0) srams (sram ∷ []) ∙ ap (λ (c : Position). turned_of g other c sram) f)
  move_where p q (here srams e f) (read sram address) = go (waits_of g p.state sram address) refl
    where
      near : (p.place ≡ q.place) × Together p.place p.state q.state
      near = where_together p q (here srams e f)

      go : (t : Bool) → waits_of g p.state sram address ≡ t → Where (moved_of g image p (read sram address)) (moved_of g other q (read sram address))
      go true w =
          past (waits_past (first g s image other i update also same) (at s 0) begins_p srams p e sram address w)
          (waits_past (second g s image other i update also same) (at s 0) begins_q srams q f sram address
          (sym (waits_same p.state q.state near.1 sram address) ∙ w))
          near.0
          (read_together p.state q.state near.1 sram address w)
      go false w =
          let off = sym (waits_same p.state q.state near.1 sram address) ∙ w in
          here srams (e ∙ sym (ap (λ (t : State). at t p.place) (read_same g p.state sram address w)))
          (f ∙ sym (ap (λ (t : State). at t q.place) (read_same g q.state sram address off)))

  moves_where : (p q : Position) → Where p q → (l : List Move) → Where (moves_of g image p l) (moves_of g other q l)
  moves_where p q w [] = w
  moves_where p q w (m ∷ l) = moves_where (moved_of g image p m) (moved_of g other q m) (move_where p q w m) l

  -- "after the same list of moves .. both runs are at the same place"
  pub moves_together : (B : List Move) → let p = moves_of g image (at s 0) B in let q = moves_of g other (at s 0) B in
      (p.place ≡ q.place) × Together p.place p.state q.state
  moves_together B = where_together _ _ (moves_where (at s 0) (at s 0) (here [] refl refl) B)

  pub after_together : (B : List Move) (end : End) → Together (moves_of g image (at s 0) B).place (after_moves g s image B end) (after_moves g s other B end)
  after_together B whole = (moves_together B).1
  after_together B (inside sram address n) = go (waits_of g p.state sram address) refl
    where
      p : Position
      p = moves_of g image (at s 0) B

      q : Position
      q = moves_of g other (at s 0) B

      h : Together p.place p.state q.state
      h = (moves_together B).1

      go : (t : Bool) → waits_of g p.state sram address ≡ t
          → Together p.place (end_state_of g p.state (inside sram address n)) (end_state_of g q.state (inside sram address n))
      go true w = rw (w, sym (waits_same p.state q.state h sram address) ∙ w) (steps_together sram n p.state q.state h)
      go false w = rw (w, sym (waits_same p.state q.state h sram address) ∙ w) h
