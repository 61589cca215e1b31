-- A supply that fails again and again: each try from a sign that runs the old bank leaves one that runs it again, where the same start is an
-- update, or one that runs the new bank. The old bank is the same throughout, so t and the new bank are.
-- Assumes nothing.
use mathlib.Core.Path.{◌≡◌, refl, sym, ap, ◌∙◌}
use mathlib.Core.Bool.{Bool, true, not}
use mathlib.Core.List.{List, [], ◌∷◌, ◌++◌, append-nil}
use mathlib.Core.Logic.{◌⊎◌, inl, inr}
use Prim.Native.Nat.{ℕ, zero, suc, ◌≤◌}
use lib.ListN.{length, take}
use lib.Seq.{take_all}
use Rattle.words.specs.Quad.{word_at, put_quad}
use Rattle.words.specs.Decline.{accepted_of}
use Rattle.geometry.specs.declared.banks.Geometry.{Geometry}
use Rattle.sequence.specs.Sequence.{sequence_quad_of, sequence_index_of, next_sequence_of}
use Rattle.device.specs.State.{State, bank_of}
use Rattle.start_up.specs.StartUp.{Access, start_up_stores, start_up_of}
use Rattle.controller.specs.Controller.{Operation, store, transition_of, store_operations, AllAccepted, Keeps}
use Rattle.controller.proofs.StartUpLaws.{cut_stores_run}
use Rattle.controller.proofs.Controller.{controller}
use Rattle.update.specs.Actions.{total_of}
use Rattle.update.specs.Start.{lower_word_of}
use Rattle.update.specs.PowerFail.{after_turns, place_after, reset_by, started_up, old, Lower, Runs, new_bank_of, SameBanks, OldKept, Update}
use Rattle.update.specs.Tries.{Interruption, interrupted_of, Try, fails_at, tried_of, tries_of, Tried, AfterTries, EachTry, Tries}
use Rattle.update.specs.Tries.Interruption.{reset, begun_start_up}
use Rattle.update.proofs.PlacedLaws.{same_placed, not_both}
use Rattle.update.proofs.StartLaws.{starts}
use Rattle.update.proofs.RestedLaws.{starts_up, old_bank, one_runs, update_again}
use Rattle.update.proofs.PowerFail.{reset_answers, power_fail}
use Rattle.update.proofs.Moves.{moves_fail}
use Rattle.update.proofs.TryLaws.{rested_sound, try_fixed, fails_sound, fails_kept, tried_rests, early_runs, reaches_runs}

-- ---- the stores of a start-up
-- the first of operations that are all carried out
prefix_accepted : (g : Geometry) (l : List Access) (n : ℕ) (s : State) → AllAccepted g s (store_operations l) → AllAccepted g s (store_operations (take n l))
prefix_accepted g [] zero s all = tt
prefix_accepted g [] (suc n) s all = tt
prefix_accepted g (a ∷ l) zero s all = tt
prefix_accepted g (a ∷ l) (suc n) s all =
    (all.0, prefix_accepted g l n (transition_of g s (store a.register a.form a.value)) all.1)

-- ---- the very first start, and a state whose old bank is the same
module _ (g : Geometry) (image : List ℕ) (s : State) (update : Update g s image) where
  -- what each try is begun from: an update of the same old bank
  record Begins (t : State) : Type 0 where
    again : Update g t image
    same_old : old t ≡ old s
    same_bank_old : bank_of t (old s) ≡ bank_of s (old s)

  first_begins : Begins s
  first_begins = record { again = update; same_old = refl; same_bank_old = refl }

  runs_old : Runs s (old s) (bank_of s (old s))
  runs_old = ((refl, (starts g s image update.accepted).agree), refl)

  module _ (t : State) (begins : Begins t) where
    -- what was old and would be new in t is what was and would be in s
    same_word : lower_word_of g t ≡ lower_word_of g s
    same_word =
        ap (λ (second : Bool). word_at (bank_of t second) (sequence_index_of g)) begins.same_old
        ∙ ap (λ (bank : List ℕ). word_at bank (sequence_index_of g)) begins.same_bank_old

    same_new : new_bank_of g t image ≡ new_bank_of g s image
    same_new = ap (λ (w : ℕ). put_quad image (sequence_quad_of g) (next_sequence_of w)) same_word

    old_as : (c : State) → OldKept t c → OldKept s c
    old_as c kept =
        ap (bank_of c) (sym begins.same_old) ∙ kept ∙ ap (bank_of t) begins.same_old ∙ begins.same_bank_old

    new_runs : (c : State) → Runs c (not (old t)) (new_bank_of g t image) → Runs c (not (old s)) (new_bank_of g s image)
    new_runs c ((boot, program), bank) =
        let second = ap not begins.same_old in
        ((boot ∙ second, program ∙ second), ap (bank_of c) (sym second) ∙ bank ∙ same_new)

    -- ---- one try
    module _ (y : Try) (ok : accepted_of (reset_by g (fails_at g image t y) y.cut).decline ≡ true) where
      abbrev after : State
      after = started_up g (tried_of g image t y)

      kept_after : OldKept s after
      kept_after = old_as after (old_bank (try_fixed g image t begins.again y) _ (tried_rests g image t begins.again y ok))

      one-of : Runs after (old s) (bank_of s (old s)) ⊎ Runs after (not (old s)) (new_bank_of g s image)
      one-of = go (one_runs (try_fixed g image t begins.again y) _ (tried_rests g image t begins.again y ok))
        where
          go : Runs after (old t) (bank_of t (old t)) ⊎ Runs after (not (old t)) (new_bank_of g t image)
              → Runs after (old s) (bank_of s (old s)) ⊎ Runs after (not (old s)) (new_bank_of g s image)
          go (inl ((boot, program), bank)) = inl ((boot ∙ begins.same_old, program ∙ begins.same_old), kept_after)
          go (inr runs) = inr (new_runs after runs)

      next_begins : Lower after (old s) → Begins after
      next_begins (boot, program) =
          record {
            again =
                update_again (try_fixed g image t begins.again y) _ (tried_rests g image t begins.again y ok)
                (boot ∙ sym begins.same_old, program ∙ sym begins.same_old);
            same_old = boot;
            same_bank_old = kept_after;
          }

    each_try : (y : Try) → EachTry g s image t y
    each_try y =
        let again = begins.again in
        record {
          fails_kept = old_as (fails_at g image t y) (fails_kept g image t again y);
          cuts = λ c short kind. reset_answers g _ c (starts g t image again.accepted).listed (fails_sound g image t again y) short kind;
          tried_kept = λ ok. kept_after y ok;
          resets =
              λ ok c short kind.
              reset_answers g _ c (starts g t image again.accepted).listed
              (rested_sound (try_fixed g image t again y) _ (tried_rests g image t again y ok)) short kind;
          start_up = λ ok. starts_up (try_fixed g image t again y) _ (tried_rests g image t again y ok);
          stores =
              λ ok n.
              prefix_accepted g (start_up_stores (tried_of g image t y).device) n _
              (controller.start_up_accepted g _ (starts_up (try_fixed g image t again y) _ (tried_rests g image t again y ok)));
          early =
              λ unwaited end early ok. let (boot, program) = early_runs g image t again y ok unwaited end early in
              (boot ∙ begins.same_old, program ∙ begins.same_old);
          reaches = λ done ok. new_runs (started_up g (tried_of g image t y)) (reaches_runs g image t again y ok done);
        }

  -- ---- lists of tries
  -- each leaves a sign that runs one of the two, and from one that runs the old the next begins
  record Left (c : State) : Type 0 where
    one-of : Runs c (old s) (bank_of s (old s)) ⊎ Runs c (not (old s)) (new_bank_of g s image)
    kept : OldKept s c
    next : Lower c (old s) → Begins c

  left_first : (t : State) → Begins t → Left t
  left_first t begins =
      record {
        one-of = inl ((begins.same_old, (starts g t image begins.again.accepted).agree ∙ begins.same_old), begins.same_bank_old);
        kept = begins.same_bank_old;
        next = λ lower. begins;
      }

  left_tries : (t : State) → Left t → (l rest : List Try) → Tried g image (old s) t (l ++ rest) → Left (tries_of g image t l)
  left_tries t left [] rest tried = left
  left_tries t left (y ∷ l) rest (lower, ok, tried) =
      let begins = left.next lower in
      left_tries (started_up g (tried_of g image t y))
      (record { one-of = one-of t begins y ok; kept = kept_after t begins y ok; next = next_begins t begins y ok }) l rest tried

  -- from the very first start
  left_by : (l rest : List Try) → Tried g image (old s) s (l ++ rest) → Left (tries_of g image s l)
  left_by l rest tried = left_tries s (left_first s first_begins) l rest tried

  after_tries : (c : State) → Left c → AfterTries g s image c
  after_tries c left =
      record {
        old_or_new = left.one-of;
        old_kept = left.kept;
        next = λ lower. (left.next lower).again;
        as_uncut = λ lower A done. as_uncut lower A done left.one-of;
      }
    where
      as_uncut : Lower c (not (old s)) → (A : List (List ℕ)) → place_after g s image A ≡ total_of g
          → Runs c (old s) (bank_of s (old s)) ⊎ Runs c (not (old s)) (new_bank_of g s image) → SameBanks (after_turns g s image A) c
      as_uncut lower A done (inl runs) = not_both (old s) (sym runs.0.0 ∙ lower.0)
      as_uncut lower A done (inr runs) =
          let claims = (power_fail g image).claims s update A [] done in
          same_placed (old s) (after_turns g s image A) c (left.kept ∙ sym claims.old_kept.0) (runs.1 ∙ sym claims.new_left)

-- all stores of a start-up are a completed one
all_stores : (g : Geometry) (s : State) (n : ℕ) → length (start_up_stores s.device) ≤ n → interrupted_of g s (begun_start_up n) ≡ started_up g s
unfolding start_up_of
all_stores g s n l = rw (take_all n (start_up_stores s.device) l)

interruption_keeps : (g : Geometry) (s : State) (i : Interruption) → Keeps g s (interrupted_of g s i)
interruption_keeps g s (reset c) = controller.keeps g s (Operation.reset c.sram c.kind c.mask)
interruption_keeps g s (begun_start_up n) = record { long = λ second. refl; page = λ second n h. refl }

pub tries : (g : Geometry) (image : List ℕ) → Tries g image
tries g image =
    record {
      none = runs_old g image;
      after =
          λ s update l rest tried.
          after_tries g image s update _ (left_by g image s update l rest tried);
      each = λ s update l tried lower t. each_try g image s update _ ((left_by g image s update l [] (rw (append-nil l) tried)).next lower) t;
      cut_start_up = cut_stores_run g;
      all_stores = all_stores g;
      declined = λ s c off. controller.declined_same g s (Operation.reset c.sram c.kind c.mask) off;
      move_keeps = (moves_fail g image).move_keeps;
      end_keeps = (moves_fail g image).end_keeps;
      interruption_keeps = interruption_keeps g;
      start_up_keeps = (power_fail g image).start_up_keeps;
    }
