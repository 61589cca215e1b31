-- One word of the example's image is another, the call's answer is computed, and one turn of each update does one action, since before it
-- no operation runs for which a read could wait.
-- Assumes nothing.
use mathlib.Core.Path.{◌≡◌, refl, sym, ap, ◌∙◌}
use mathlib.Core.Bool.{false}
use mathlib.Core.List.{List, [], ◌∷◌}
use Prim.Native.Nat.{ℕ}
use native.Mathlib.Omega.{arith}
use lib.Dec.{lit<}
use lib.ListN.{length-set}
use lib.Seq.{get_or-set_other}
use Rattle.geometry.specs.Banks.{in_range_up_to, listed_of}
use Rattle.geometry.specs.Lent.{lengths_fit_of, lent_decline_up_to}
use Rattle.controller.proofs.WaitLaws.{idle_free}
use Rattle.update.specs.PowerFail.{turned_of, Position, at, place_after, Words, Update}
use Rattle.update.specs.Bench.{smallest}
use Rattle.reads.specs.Read.{waits_of}
use Rattle.update.specs.Example.{example_state, example_image, empty_srams}
use Rattle.update.specs.Moves.{Move, moved_of, moves_of, waits_in, turn_moves}
use Rattle.update.specs.Moves.Move.{read}
use Rattle.update.proofs.Example.{example_update, words_set, total_is, empty_short}
use Rattle.update.proofs.Moves.{moves_fail}
use Rattle.update.proofs.RunLaws.{turns_place}
use Rattle.reach.specs.Reach.{ReachAnswer, programmed_at_of, data_place_of, answer_of, reach_of}
use Rattle.reach.specs.Differing.{OneWord}
use Rattle.reach_update.specs.WordApart.{other_image, WordApart}
use Rattle.reach_update.proofs.SameRuns.{one_word_reaches}

one : OneWord example_image other_image 40
one = record { differs = λ same. omega (arith, same); same = λ j ne. sym (get_or-set_other example_image 40 j 0 0 ne) }

words : Words other_image
words = words_set example_image 40 0 (lit< tt) example_update.new_words_lem

place : (reach_of smallest example_image other_image).answer ≡ ReachAnswer.Action 71
unfolding reach_of lent_decline_up_to in_range_up_to listed_of lengths_fit_of answer_of data_place_of programmed_at_of
place = refl

-- ---- the turn of each update
also : Update smallest example_state other_image
also = (one_word_reaches.runs smallest example_image other_image 40 (sym (length-set example_image 40 0)) words one).update example_state example_update

-- eighty turns stand at place 80
turned : (image : List ℕ) → Update smallest example_state image → place_after smallest example_state image (empty_srams 80) ≡ 80
turned image update = turns_place smallest example_state image update (empty_srams 80) (empty_short 80) (omega (arith, total_is))

moved : (image : List ℕ) → Update smallest example_state image → (moves_of smallest image (at example_state 0) (turn_moves (empty_srams 80))).place ≡ 80
moved image update =
    ap (λ (p : Position). p.place) ((moves_fail smallest image).turns_alone (at example_state 0) (empty_srams 80)) ∙ turned image update

-- turns do not wait
none_wait : (image : List ℕ) (p : Position) (srams : List (List ℕ)) → waits_in smallest image p (turn_moves srams) ≡ false
none_wait image p [] = refl
none_wait image p (sram ∷ rest) = none_wait image (turned_of smallest image p sram) rest

abbrev reading : Move
reading = read [] 0x1D00_0000

not_waiting : waits_of smallest example_state [] 0x1D00_0000 ≡ false
not_waiting = idle_free smallest example_state [] 0x1D00_0000 refl

-- the read leaves the sign as it is
after_read : (image : List ℕ) → moved_of smallest image (at example_state 0) reading ≡ at example_state 0
after_read image =
    (moves_fail smallest image).unwaited (at example_state 0) (reading ∷ []) (rw not_waiting)

pub word_apart : WordApart
word_apart =
    record {
      one = one;
      long = sym (length-set example_image 40 0);
      words = words;
      update = example_update;
      outside = λ e. omega (arith, e);
      place = place;
      one_place =
          record {
            first = none_wait example_image (at example_state 0) (empty_srams 80);
            second = rw not_waiting (none_wait other_image (moved_of smallest other_image (at example_state 0) reading) (empty_srams 80));
            place =
                moved example_image example_update
                ∙ sym (moved other_image also)
                ∙ sym (ap (λ (p : Position). (moves_of smallest other_image p (turn_moves (empty_srams 80))).place) (after_read other_image));
          };
      past = moved example_image example_update;
    }
