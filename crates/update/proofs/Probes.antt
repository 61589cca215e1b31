-- Turns with a probe's reads between them stand where the turns alone stand, so power-fail safety is theirs. Assumes nothing.
use mathlib.Core.Path.{◌≡◌, refl, ap, ◌∙◌}
use mathlib.Core.Bool.{true}
use mathlib.Core.List.{List, [], ◌∷◌}
use Prim.Native.Nat.{ℕ}
use native.Mathlib.Omega.{arith}
use Rattle.geometry.specs.declared.banks.Geometry.{Geometry}
use Rattle.device.specs.State.{State}
use Rattle.words.specs.Decline.{accepted_of}
use Rattle.common_declines.specs.CommonDecline.{common_decline_of}
use Rattle.common_declines.proofs.CommonDeclineLaws.{opens}
use Rattle.controller.proofs.ProbeLaws.{read_same, probes}
use Rattle.update.specs.Actions.{total_of}
use Rattle.update.specs.PowerFail.{Position, at, turned_of, turns_of, after_turns, restarted, old, Update, Claims, PowerFail}
use Rattle.update.specs.Probes.{Beside, read_of, beside_of, turns_alone_of, Polled, ProbedRun, after_run, Probed}
use Rattle.update.specs.Probes.Beside.{turn, read}
use Rattle.update.proofs.KeyLaws.{met_low}
use Rattle.update.proofs.StandsLaws.{stands_turns}
use Rattle.update.proofs.StartLaws.{start_fixed, start_stands}
use Rattle.update.proofs.PowerFail.{power_fail}

module _ (g : Geometry) (image : List ℕ) where
  beside_turns : (p : Position) (l : List Beside) → Polled g image p l → beside_of g image p l ≡ turns_of g image p (turns_alone_of l)
  beside_turns p [] h = refl
  beside_turns p (turn sram ∷ rest) h = beside_turns (turned_of g image p sram) rest h
  beside_turns p (read r ∷ rest) (low, h) =
      beside_turns (read_of g p r) rest h
      ∙ ap (λ (s : State). turns_of g image (at s p.place) (turns_alone_of rest)) (read_same g p.state r low)

  -- what a run with such reads leaves is what its turns leave
  run-turns : (s : State) (run : ProbedRun g s image) → after_run g s image run ≡ turns_of g image (at s 0) (turns_alone_of run.moves)
  run-turns s run = beside_turns (at s 0) run.moves run.polled

  safe : PowerFail g image
  safe = power_fail g image

  claimed : (s : State) → Update g s image → (A B : ProbedRun g s image) → (after_run g s image A).place ≡ total_of g
      → Claims g s image (after_run g s image A).state (after_run g s image B).state
  claimed s u A B e =
      rw (run-turns s A, run-turns s B) (safe.claims s u (turns_alone_of A.moves) (turns_alone_of B.moves) (rw (run-turns s A) at e))

  -- declines 1 and 3 do not apply to the device that the turns of an update leave
  device_opens : (s : State) → Update g s image → (srams : List (List ℕ))
      → accepted_of (common_decline_of g (after_turns g s image srams).device [] 0) ≡ true
  device_opens s update srams =
      let u = start_fixed g s image update (old s) refl in
      let stands = stands_turns u (at s 0) (start_stands g s image update (old s) refl) srams in
      ap accepted_of (opens g _ [] 0 u.listed tt (omega arith) stands.sound.possible)

  pub probed : Probed g image
  probed =
      record {
        stands = beside_turns;
        met_low = met_low g image;
        read_answers =
            λ s u B r low.
            rw (run-turns s B)
            (probes.answered g _ r (device_opens s u (turns_alone_of B.moves)) low).0;
        claims = claimed;
        again =
            λ s u A B e c on low C done.
            let t = restarted g (after_run g s image B).state c in
            rw (run-turns t C) (((claimed s u A B e).again c on low).1 (turns_alone_of C.moves) (rw (run-turns t C) at done));
        answers = λ s u B sram short. rw (run-turns s B) (safe.answers s u (turns_alone_of B.moves) sram short);
        within = λ s u B. rw (run-turns s B) (safe.within s u (turns_alone_of B.moves));
        reaches = λ s u B short long. rw (run-turns s B) (safe.reaches s u (turns_alone_of B.moves) short long);
      }
