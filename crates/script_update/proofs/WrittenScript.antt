-- What is written is a script whose play is the update: the records of the list of actions, which depends on t and not on the rest of the
-- sequence word. Assumes nothing.
use mathlib.Core.Path.{◌≡◌, refl, sym, ap, ◌∙◌}
use mathlib.Core.Bool.{true}
use mathlib.Core.List.{List}
use Prim.Native.Nat.{ℕ, zero, suc, ◌≤◌, ◌<◌}
use native.Mathlib.Omega.{arith}
use lib.ListN.{length}
use Rattle.words.specs.Decline.{accepted_of}
use Rattle.geometry.specs.declared.banks.Geometry.{Geometry}
use Rattle.geometry.specs.Banks.{in_range_of}
use Rattle.geometry.proofs.SizeLaws.{in-range}
use Rattle.sequence.specs.Sequence.{tseq_of, next_sequence_of}
use Rattle.device.specs.State.{State}
use Rattle.update.specs.Actions.{blocks, quad_block, programmed_quad_of, new_quad_of, bank_quads_of, actions_of, total_of}
use Rattle.update.specs.Start.{lower_word_of, start_of}
use Rattle.update.specs.PowerFail.{Words, Update}
use Rattle.update.specs.Turn.{Turning}
use Rattle.update.proofs.ActionLaws.{actions_total, action_listed}
use Rattle.update.proofs.RunLaws.{turns_place}
use Rattle.update.proofs.LargerTotals.{action_fits}
use Rattle.script_write.specs.Script.{script_of, write_script_decline_of, write_script_of}
use Rattle.script_write.proofs.ScriptLaws.{script_length}
use Rattle.script_update.specs.WrittenScript.{t, script_for, IsScript, Plays, WrittenScript}
use Rattle.script_update.proofs.AnswerLaws.{is_written, answers, one_answer}
use Rattle.script_update.proofs.ReadLaws.{AllFit, all_bytes, record_read, records_counted, records_script}
use Rattle.script_update.proofs.PlayLaws.{record_action, under_way, record_accepted, record_turn, play_ends}
use Rattle.script_update.proofs.PlayLaws.{play_first, play_claims, same_word, play_again}

-- ---- by t alone
same_blocks : {A : Type 0} (n : ℕ) (f h : ℕ → List A) → ((i : ℕ) → f i ≡ h i) → blocks n f ≡ blocks n h
same_blocks zero f h e = refl
same_blocks (suc n) f h e = rw (same_blocks n f h e, e n)

module _ (g : Geometry) (image : List ℕ) (v w : ℕ) (e : tseq_of v ≡ tseq_of w) where
  same_quad : (j : ℕ) → new_quad_of g image v j ≡ new_quad_of g image w j
  unfolding new_quad_of next_sequence_of
  same_quad j = rw e

  by_t : script_of g image v ≡ script_of g image w
  unfolding script_of actions_of
  by_t =
      rw
      (same_blocks (bank_quads_of g) (λ i. quad_block g (programmed_quad_of g i) (new_quad_of g image v (programmed_quad_of g i)))
      (λ i. quad_block g (programmed_quad_of g i) (new_quad_of g image w (programmed_quad_of g i)))
      (λ i. ap (quad_block g (programmed_quad_of g i)) (same_quad (programmed_quad_of g i))))

-- ---- what is written
module _ (g : Geometry) (listed : in_range_of g ≡ true) (image : List ℕ) (words : Words image) (w : ℕ) where
  fits : AllFit (actions_of g image w)
  fits i m =
      let l : i < total_of g = omega (arith, actions_total g image w) in
      rw (sym (action_listed g image w i l)) (action_fits g (in-range g listed) image words w i l)

  is-script : IsScript g image w
  unfolding script_of
  is-script =
      let all = actions_of g image w in
      record {
        long = script_length g image w;
        bytes = all_bytes all;
        script = records_script all fits;
        records = (records_counted all ∙ actions_total g image w, actions_total g image w);
        actions = λ i l. record_read all fits i (rw (actions_total g image w) l);
      }

-- ---- its play
module _ (g : Geometry) (s : State) (image : List ℕ) (update : Update g s image) (sram : List ℕ) (short : length sram ≤ 16384) where
  plays_own : Plays g s image sram (script_for g s image)
  unfolding script_of
  plays_own =
      record {
        actions = record_action sram short g s image update;
        under_way = under_way sram short g s image update;
        places = turns_place g s image update;
        answers =
            λ i l. let turn = record_turn sram short g s image update i l in
            let ok = record_accepted sram short g s image update i l in
            (ap (λ (r : Turning). accepted_of r.decline) (sym turn) ∙ ok, ok, ap (λ (r : Turning). r.event) (sym turn));
        ends =
            λ buffer A reached. let (ok, end) = play_ends sram short g s image update buffer in
            (ok, end ∙ rw reached at (under_way sram short g s image update A));
        first = λ buffer i l. play_first sram short g s image update i l buffer;
        claims = play_claims sram short g s image update;
        again =
            λ i l c restarts lower. (
              ap tseq_of (same_word sram short g s image update i l c lower),
              play_again g s image update sram short i l c restarts lower,
            );
      }

-- two signs with one t
serves : (g : Geometry) (s u : State) (image buffer : List ℕ) → accepted_of (start_of g s image).decline ≡ true
    → accepted_of (start_of g u image).decline ≡ true → t g s ≡ t g u → write_script_of g s image buffer ≡ write_script_of g u image buffer
unfolding write_script_of write_script_decline_of
serves g s u image buffer ok also same = rw (ok, also, by_t g image (lower_word_of g s) (lower_word_of g u) same)

pub written_script : WrittenScript
written_script =
    record {
      meets = answers;
      fixes = one_answer;
      is_written = is_written;
      is-script = is-script;
      by_t = by_t;
      serves = serves;
      plays = λ g s image update sram short w same. rw (by_t g image w (lower_word_of g s) same) (plays_own g s image update sram short);
    }
