-- What is promised of a row that is cut. Assumes nothing.
use Prim.Native.Nat.{ℕ, ◌<◌}
use mathlib.Core.Path.{◌≡◌, sym, ap, subst, ◌∙◌}
use mathlib.Core.Bool.{true}
use mathlib.Core.List.{List, [], ◌∷◌}
use lib.ListN.{length}
use Rattle.words.specs.Decline.{accepted_of}
use Rattle.geometry.specs.declared.banks.Geometry.{Geometry}
use Rattle.device.specs.State.{State}
use Rattle.update.specs.Actions.{total_of}
use Rattle.update.specs.PowerFail.{after_turns, place_after, Cut, reset_by, restarted, Update, Claims}
use Rattle.update.specs.Tries.{Try, AfterTries}
use Rattle.update.proofs.Moves.{moves_fail}
use Rattle.update.proofs.Tries.{tries}
use Rattle.row_signs.specs.Signs.{sign_at}
use Rattle.row.specs.Row.{RowState, Call, answer_of}
use Rattle.row.specs.RowCut.{state_at, RowMove, RowEnd, row_moves_of, row_end_of, own_moves_of, own_end_of, restarted_row_of, Placed, RowCut}
use Rattle.row.proofs.DeclineLaws.{accepted_only}
use Rattle.row.proofs.KeptLaws.{kept_then, still_listed, still_placed}
use Rattle.row.proofs.OwnLaws.{own_moves}
use Rattle.row.proofs.CutLaws.{own_end, own_reset, own_restart, reset_kept, restart_kept, left_kept, left_first}
use Rattle.row.proofs.RowTries.{tried_place, own_tried, tries_kept, own_tries, after_tries}

module _ (g : Geometry) (image : List ℕ) where
  stands_so : (r : RowState) (c : Call) → (answer_of g r c).decline ≡ 0 → Placed g r
  stands_so r c e =
      let j = accepted_only g r c e in
      record { lies = λ n l. record { first = j.one_lies n l; other = j.two_lies n l; apart = j.own_apart n l }; apart = j.signs_apart }

  -- the cut statement of a sign at place 0
  module _ (r : RowState) (placed : Placed g r) (j : ℕ) (l : j < length r.signs) (place : (sign_at r.signs j).place ≡ 0)
      (update : Update g (state_at g r j) image) (ms : List RowMove) (e : RowEnd) where
    abbrev left : RowState
    left = row_end_of g (row_moves_of g image r ms) e

    claims : (A : List (List ℕ)) → place_after g (state_at g r j) image A ≡ total_of g
        → Claims g (state_at g r j) image (after_turns g (state_at g r j) image A) (state_at g left j)
    claims A total =
        subst (λ (b : State). Claims g (state_at g r j) image (after_turns g (state_at g r j) image A) b) (sym (left_first g image r placed j l place ms e))
        ((moves_fail g image).claims (state_at g r j) update A (own_moves_of g image r ms j) (own_end_of e j) total)

    -- with its reset it is one try, and nothing after it but the start-up
    abbrev try_by : Cut → Try
    try_by c = record { moves = own_moves_of g image r ms j; end = own_end_of e j; cut = c; later = [] }

    cut : (cuts : ℕ → Cut) → accepted_of (reset_by g (state_at g left j) (cuts j)).decline ≡ true
        → AfterTries g (state_at g r j) image (state_at g (restarted_row_of g left cuts) j)
    cut cuts ok =
        let kept = left_kept g image r placed ms e in
        let own = left_first g image r placed j l place ms e in
        let accepted = ap (λ (s : State). accepted_of (reset_by g s (cuts j)).decline) (sym own) ∙ ok in
        subst (λ (u : State). AfterTries g (state_at g r j) image u)
        (sym (own_restart g image left (still_placed kept placed) j (still_listed kept l) cuts ∙ ap (λ (s : State). restarted g s (cuts j)) own))
        ((tries g image).after (state_at g r j) update (try_by (cuts j) ∷ []) [] (((tries g image).none (state_at g r j) update).0, accepted, tt))

  pub row_cut : RowCut g image
  row_cut =
      record {
        stands = stands_so;
        stays =
            λ r placed ms e cuts. let lie = still_placed (left_kept g image r placed ms e) placed in
            (lie, still_placed (restart_kept g image _ lie cuts) lie);
        own = λ r placed j l ms. own_moves g image r placed ms j l;
        own_end = own_end g image;
        own_reset = own_reset g image;
        own_restart = own_restart g image;
        outside =
            λ r placed ms e cuts v out.
            let kept = left_kept g image r placed ms e in
            let lie = still_placed kept placed in (
              kept.words v out,
              ((kept_then kept (reset_kept g image _ lie cuts)).words v out, (kept_then kept (restart_kept g image _ lie cuts)).words v out),
            );
        claims = claims;
        cut = cut;
        own_try = λ r placed j l t. (tried_place g image r placed t j l, own_tried g image r placed t j l);
        own_tries = own_tries g image;
        tries = after_tries g image;
        tries_stay = λ r placed l. still_placed (tries_kept g image r placed l) placed;
        tries_outside = λ r placed l. (tries_kept g image r placed l).words;
      }
