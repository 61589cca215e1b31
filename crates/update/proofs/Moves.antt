-- Moves leave what turns leave, so what power-fail safety says of turns holds of them. Assumes nothing.
use mathlib.Core.Path.{◌≡◌, refl, sym, ap, ◌∙◌}
use Rattle.std.specs.Prelude.{Err}
use mathlib.Core.Bool.{Bool, true, false, not, ◌&&◌}
use mathlib.Core.Logic.{◌⊎◌, inl, inr}
use mathlib.Core.List.{List, [], ◌∷◌}
use lib.Dec.{leb}
use lib.ListN.{length, replicate}
use Prim.Native.Nat.{ℕ, ◌+◌, ◌≤◌}
use Rattle.words.specs.Word.{pick}
use Rattle.words.proofs.PickLaws.{pick_both}
use Rattle.geometry.specs.declared.banks.Geometry.{Geometry}
use Rattle.geometry.specs.Lent.{most_sram}
use Rattle.words.specs.declared.decline.Decline.{Decline}
use Rattle.words.specs.Decline.{number_of, accepted_of}
use Rattle.device.specs.State.{State, bank_of}
use Rattle.map.specs.Windows.{locate_of}
use Rattle.device.specs.Record.{running}
use Rattle.reads.specs.Read.{second_at_of, same, remaining_of, read_answer_of, waits_of, flash_read_of}
use Rattle.controller.specs.Controller.{run_of, Keeps}
use Rattle.controller.specs.Controller.Operation.{step, flash_read}
use Rattle.controller.proofs.Controller.{controller}
use Rattle.controller.proofs.KeepLaws.{same_keeps, steps_keep}
use Rattle.update.specs.Actions.{total_of}
use Rattle.update.specs.PowerFail.{Position, at, turned_of, turns_of, after_turns, place_after, old, new_bank_of, Update, Claims}
use Rattle.update.specs.Start.{start_of}
use Rattle.update.specs.Moves.{Move, End, moved_of, moves_of, waits_in, turns_among, turn_moves, end_state_of, after_moves, ByTurns, Declined, MovesFail}
use Rattle.update.specs.Moves.{StartsAgain, NewWhole}
use Rattle.update.specs.Moves.Move.{turn, read}
use Rattle.update.specs.Moves.End.{whole, inside}
use Rattle.words.proofs.BitLaws.{true_not_false}
use Rattle.controller.proofs.WaitLaws.{read_same, waits_runs, waits_short, steps_run, read_steps}
use Rattle.update.proofs.Blocks.{Fixed, Stands}
use Rattle.update.proofs.StartLaws.{start_fixed, start_stands}
use Rattle.update.proofs.PowerFail.{same_end, power_fail}
use Rattle.update.proofs.MoveLaws.{Reached, Where, Past, moves_where, where_reached, steps_reach, past_stays, declines, moves_total, waits_past}
use Rattle.update.proofs.MoveLaws.{Again, past_starts, past_kept, waits_in_past, which, steps_turns}
use Rattle.update.proofs.StandsLaws.{stands_turns}
use Rattle.update.proofs.TurnLaws.{turn_keeps}
use Rattle.update.proofs.MoveLaws.Where.{here, past}

module _ (g : Geometry) (image : List ℕ) (s : State) (update : Update g s image) where
  abbrev u : Fixed
  u = start_fixed g s image update (old s) refl

  begins : Stands u (at s 0)
  begins = start_stands g s image update (old s) refl

  stood : (B : List Move) → Where u (at s 0) begins (moves_of g image (at s 0) B)
  stood B = moves_where u (at s 0) begins (at s 0) (here [] refl) B

  by_turns : {least : ℕ} (t : State) → Reached u (at s 0) begins least t → ByTurns g s image t least
  by_turns t h =
      record {
        srams = h.srams;
        same = ap (λ (p : Position). p.state) h.same;
        later = rw (place_after, h.same) h.later;
      }

  left : (B : List Move) (end : End) → ByTurns g s image (after_moves g s image B end) (moves_of g image (at s 0) B).place
  left B whole = by_turns _ (where_reached u (at s 0) begins _ (stood B))
  left B (inside sram address n) =
      let t = (moves_of g image (at s 0) B).state in
      let reached = where_reached u (at s 0) begins _ (stood B) in
      let inside_reached = steps_reach u (at s 0) begins sram n t reached in
      by_turns _ (pick_both (Reached u (at s 0) begins (moves_of g image (at s 0) B).place) (waits_of g t sram address) inside_reached reached)

  claims : (A : List (List ℕ)) (B : List Move) (end : End) → place_after g s image A ≡ total_of g
      → Claims g s image (after_turns g s image A) (after_moves g s image B end)
  claims A B end done = let l = left B end in rw (← l.same) ((power_fail g image).claims s update A l.srams done)

  total : (B : List Move) → (moves_of g image (at s 0) B).place ≡ total_of g → moves_of g image (at s 0) B ≡ turns_of g image (at s 0) (turns_among B)
  total B done = moves_total u (at s 0) begins (at s 0) [] refl B done

  -- a read that waits is met where turns stand, and leads past
  leads_past : (B : List Move) (sram : List ℕ) (address : ℕ) → let p = moves_of g image (at s 0) B in
      waits_of g p.state sram address ≡ true → Past u (at s 0) begins (moved_of g image p (read sram address))
  leads_past B sram address waits = go (stood B)
    where
      p : Position
      p = moves_of g image (at s 0) B

      go : Where u (at s 0) begins p → Past u (at s 0) begins (moved_of g image p (read sram address))
      go (here srams e) = waits_past u (at s 0) begins srams p e sram address waits
      go (past h) = true_not_false (sym (waits_runs g p.state sram address waits) ∙ h.idle)

  numbered : (t : Bool) → number_of (pick t (Err Decline.Idle) (Err Decline.Length)) ≡ pick t 6 2
  numbered true = refl
  numbered false = refl

  declined : (p : Position) → Past u (at s 0) begins p → Declined g image p
  declined p h =
      record {
        below = h.below;
        turns = λ sram. ap number_of (declines u (at s 0) begins p h sram) ∙ numbered (leb (length sram) most_sram);
        stays = past_stays u (at s 0) begins p h;
      }

  stuck : (B : List Move) → waits_in g image (at s 0) B ≡ true → Declined g image (moves_of g image (at s 0) B)
  stuck B waits = declined _ (waits_in_past u (at s 0) begins (at s 0) (here [] refl) B waits)

  waited : (B : List Move) (sram : List ℕ) (address : ℕ) → let p = moves_of g image (at s 0) B in
      waits_of g p.state sram address ≡ true → Declined g image (moved_of g image p (read sram address))
  waited B sram address waits = declined _ (leads_past B sram address waits)

  which_wait : (B : List Move) (sram : List ℕ) (address : ℕ) → let t = (moves_of g image (at s 0) B).state in
      waits_of g t sram address
      ≡ (accepted_of (read_answer_of g t sram address) && (running t.device && same (second_at_of t.device (locate_of g address)) (not (old s))))
  which_wait B sram address = which u (at s 0) begins _ (stood B) sram address

  start_again : (B : List Move) (sram : List ℕ) (address : ℕ) → let p = moves_of g image (at s 0) B in
      waits_of g p.state sram address ≡ true
      → let t = (moved_of g image p (read sram address)).state in
      (StartsAgain g s image t × (bank_of t (not (old s)) ≡ new_bank_of g s image → ⊥))
      ⊎ ((number_of (start_of g t image).decline ≡ 10) × NewWhole g s image t)
  start_again B sram address waits = go (past_starts u (at s 0) begins q there)
    where
      q : Position
      q = moved_of g image (moves_of g image (at s 0) B) (read sram address)

      there : Past u (at s 0) begins q
      there = leads_past B sram address waits

      go : Again u (at s 0) begins q.state
          → (StartsAgain g s image q.state × (bank_of q.state (not (old s)) ≡ new_bank_of g s image → ⊥))
          ⊎ ((number_of (start_of g q.state image).decline ≡ 10) × NewWhole g s image q.state)
      go (inl (again, part)) =
          let boot = there.kept.1.boot in
          let kept_old = past_kept u (at s 0) begins q there in
          inl (
            record {
              update = again;
              same_old = (boot, kept_old);
              same_end = λ A C done end. same_end g s image update A done q.state again boot kept_old C end;
            },
            part,
          )
      go (inr (ten, (left-whole, runs))) = inr (ap number_of ten, record { left = left-whole; runs = runs })

  -- a read that waits is met where turns stand
  met : (B : List Move) (sram : List ℕ) (address : ℕ) → let p = moves_of g image (at s 0) B in waits_of g p.state sram address ≡ true → Stands u p
  met B sram address waits = go (stood B)
    where
      p : Position
      p = moves_of g image (at s 0) B

      go : Where u (at s 0) begins p → Stands u p
      go (here srams e) = rw e at (stands_turns u (at s 0) begins srams)
      go (past h) = true_not_false (sym (waits_runs g p.state sram address waits) ∙ h.idle)

  inside_turns : (B : List Move) (sram : List ℕ) (address n : ℕ) → let p = moves_of g image (at s 0) B in
      waits_of g p.state sram address ≡ true → n ≤ remaining_of g p.state.device
      → turns_of g image p (replicate n sram) ≡ at (end_state_of g p.state (inside sram address n)) (p.place + n)
  inside_turns B sram address n waits few =
      let p = moves_of g image (at s 0) B in
      let on = waits_runs g p.state sram address waits in
      rw waits (steps_turns u sram (waits_short g p.state sram address waits) n p (met B sram address waits) on few)

unwaited : (g : Geometry) (image : List ℕ) (p : Position) (B : List Move) → waits_in g image p B ≡ false
    → moves_of g image p B ≡ turns_of g image p (turns_among B)
unwaited g image p [] h = refl
unwaited g image p (turn sram ∷ l) h = unwaited g image (turned_of g image p sram) l h
unwaited g image p (read sram address ∷ l) h = go (waits_of g p.state sram address) refl h (unwaited g image q l)
  where
    q : Position
    q = moved_of g image p (read sram address)

    go : (t : Bool) → waits_of g p.state sram address ≡ t → pick t true (waits_in g image q l) ≡ false
        → (waits_in g image q l ≡ false → moves_of g image q l ≡ turns_of g image q (turns_among l))
        → moves_of g image q l ≡ turns_of g image p (turns_among l)
    go true w h rest = true_not_false h
    go false w h rest =
        rest h ∙ ap (λ (s : State). turns_of g image (at s p.place) (turns_among l)) (read_same g p.state sram address w)

inside_steps : (g : Geometry) (s : State) (sram : List ℕ) (address n : ℕ) → waits_of g s sram address ≡ true
    → end_state_of g s (inside sram address n) ≡ run_of g s (replicate n (step sram))
inside_steps g s sram address n waits = rw waits (steps_run g sram n s)

inside_all : (g : Geometry) (s : State) (sram : List ℕ) (address : ℕ) → waits_of g s sram address ≡ true
    → end_state_of g s (inside sram address (remaining_of g s.device)) ≡ (flash_read_of g s sram address).after.state
inside_all g s sram address waits = rw waits (sym (read_steps g s sram address waits))

turns_alone : (g : Geometry) (image : List ℕ) (p : Position) (srams : List (List ℕ)) → moves_of g image p (turn_moves srams) ≡ turns_of g image p srams
turns_alone g image p [] = refl
turns_alone g image p (sram ∷ srams) = turns_alone g image (turned_of g image p sram) srams

end_keeps : (g : Geometry) (s : State) (end : End) → Keeps g s (end_state_of g s end)
end_keeps g s whole = same_keeps g s
end_keeps g s (inside sram address n) = pick_both (Keeps g s) (waits_of g s sram address) (steps_keep g sram n s) (same_keeps g s)

move_keeps : (g : Geometry) (image : List ℕ) (p : Position) (m : Move) → Keeps g p.state (moved_of g image p m).state
move_keeps g image p (turn sram) = turn_keeps g image p sram
move_keeps g image p (read sram address) = controller.keeps g p.state (flash_read sram address)

pub moves_fail : (g : Geometry) (image : List ℕ) → MovesFail g image
moves_fail g image =
    record {
      left = left g image;
      claims = claims g image;
      total = total g image;
      unwaited = unwaited g image;
      stuck = stuck g image;
      waited = waited g image;
      which = which_wait g image;
      start_again = start_again g image;
      inside_steps = inside_steps g;
      inside_all = inside_all g;
      inside_turns = inside_turns g image;
      turns_alone = turns_alone g image;
      move_keeps = move_keeps g image;
      end_keeps = end_keeps g;
    }
