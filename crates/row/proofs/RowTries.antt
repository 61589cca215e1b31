-- Tries of a whole row: each sign's part of a list of them is a list of tries of its own. Assumes nothing.
use Prim.Native.Nat.{ℕ, zero, suc, ◌<◌, ◌≤◌}
use mathlib.Core.Path.{◌≡◌, refl, ap, subst, sym, ◌∙◌}
use mathlib.Core.Bool.{Bool, true, false}
use mathlib.Core.List.{List, [], ◌∷◌, append-nil}
use native.Mathlib.Omega.{arith}
use lib.Dec.{eqb}
use lib.ListN.{length, set, length-set}
use lib.Seq.{get_or-set_same, get_or-set_other}
use borrow.Author.Tests.{eqb-true, eqb-false}
use Rattle.geometry.specs.declared.banks.Geometry.{Geometry}
use Rattle.device.specs.State.{State}
use Rattle.update.specs.PowerFail.{reset_by, started_up, old, Update}
use Rattle.update.specs.Moves.{moves_of, end_state_of}
use Rattle.update.specs.Tries.{Interruption, interrupted_of, interruptions_of, tried_of, tries_of, Tried, AfterTries}
use Rattle.update.proofs.Tries.{tries}
use Rattle.row_signs.specs.declared.sign.Sign.{Sign}
use Rattle.row_signs.specs.Signs.{past_end, sign_at}
use Rattle.row.specs.Row.{RowState}
use Rattle.row.specs.RowCut.{state_at, position_at, Placed, row_moves_of, row_end_of, own_moves_of, own_end_of, each_of, reset_row_of, start_row_of}
use Rattle.row.specs.RowCut.{interrupt_row, places_to, own_later_of, RowTry, row_tried_of, row_tries_of, own_tries_of, FromPlace0}
use Rattle.row.proofs.KeptLaws.{Kept, kept_same, kept_then, still_listed, still_placed}
use Rattle.row.proofs.CutLaws.{interrupted_kept, own_interrupted, reset_kept, own_reset, start_kept, own_start, left_kept, left_own, left_first}

-- ---- other places change nothing else

record Replaced (places : ℕ → ℕ) (n : ℕ) (signs after : List Sign) : Type 0 where
  listed : length after ≡ length signs
  kept : (j : ℕ) → ((sign_at after j).device ≡ (sign_at signs j).device)
      × (((sign_at after j).one ≡ (sign_at signs j).one) × ((sign_at after j).two ≡ (sign_at signs j).two))
  placed : (j : ℕ) → j < n → j < length signs → (sign_at after j).place ≡ places j

replaced : (signs : List Sign) (places : ℕ → ℕ) (n : ℕ) → n ≤ length signs → Replaced places n signs (places_to signs places n)
replaced signs places zero h = record { listed = refl; kept = λ j. (refl, (refl, refl)); placed = λ j l m. absurd (omega (arith, l)) }
replaced signs places (suc n) h = step (places_to signs places n) (replaced signs places n (omega (arith, h)))
  where
    step : (before : List Sign) → Replaced places n signs before
        → let s = sign_at before n in
        Replaced places (suc n) signs (set before n (record { device = s.device; place = places n; one = s.one; two = s.two }))
    step before e =
        record {
          listed = length-set before n _ ∙ e.listed;
          kept = λ j. kept_at j (eqb j n) refl;
          placed = λ j l m. placed_at j l m (eqb j n) refl;
        }
      where
        new : Sign
        new = record { device = (sign_at before n).device; place = places n; one = (sign_at before n).one; two = (sign_at before n).two }

        inside : n < length before
        inside = omega (arith, h, e.listed)

        same : sign_at (set before n new) n ≡ new
        same = get_or-set_same before n new past_end inside

        other : (j : ℕ) → eqb j n ≡ false → sign_at (set before n new) j ≡ sign_at before j
        other j differs = get_or-set_other before n j new past_end (eqb-false j n differs)

        kept_at : (j : ℕ) (b : Bool) → eqb j n ≡ b → ((sign_at (set before n new) j).device ≡ (sign_at signs j).device)
            × (((sign_at (set before n new) j).one ≡ (sign_at signs j).one) × ((sign_at (set before n new) j).two ≡ (sign_at signs j).two))
        kept_at j true b = rw (eqb-true j n b, same) (e.kept n)
        kept_at j false b = rw (other j b) (e.kept j)

        placed_at : (j : ℕ) → j < suc n → j < length signs → (b : Bool) → eqb j n ≡ b → (sign_at (set before n new) j).place ≡ places j
        placed_at j l m true b = rw (eqb-true j n b, same)
        placed_at j l m false b = rw (other j b) (e.placed j (omega (arith, l, eqb-false j n b)) m)

module _ (g : Geometry) (image : List ℕ) where
  -- ---- each sign interrupted by its own, again and again

  interruptions_kept : (r : RowState) → Placed g r → (later : List (ℕ → Interruption)) → Kept g r (interrupt_row g r later)
  interruptions_kept r placed [] = kept_same
  interruptions_kept r placed (each ∷ rest) =
      let now = interrupted_kept g image r placed each in
      kept_then now (interruptions_kept (each_of g (λ j s. interrupted_of g s (each j)) r) (still_placed now placed) rest)

  own_interruptions : (r : RowState) → Placed g r → (later : List (ℕ → Interruption)) (j : ℕ) → j < length r.signs
      → state_at g (interrupt_row g r later) j ≡ interruptions_of g (state_at g r j) (own_later_of later j)
  own_interruptions r placed [] j l = refl
  own_interruptions r placed (each ∷ rest) j l =
      let now = interrupted_kept g image r placed each in
      own_interruptions (each_of g (λ j s. interrupted_of g s (each j)) r) (still_placed now placed) rest j (still_listed now l)
      ∙ ap (λ (s : State). interruptions_of g s (own_later_of rest j)) (own_interrupted g image r placed each j l)

  -- ---- one try of the row

  module _ (r : RowState) (placed : Placed g r) (t : RowTry) where
    -- where the supply fails, after the reset, after what interrupts the signs then, and after the start-ups
    abbrev failed : RowState
    failed = row_end_of g (row_moves_of g image r t.moves) t.end

    abbrev down : RowState
    down = reset_row_of g failed t.cuts

    abbrev woken : RowState
    woken = interrupt_row g down t.later

    abbrev up : RowState
    up = start_row_of g woken

    failed_kept : Kept g r failed
    failed_kept = left_kept g image r placed t.moves t.end

    down_kept : Kept g r down
    down_kept = kept_then failed_kept (reset_kept g image failed (still_placed failed_kept placed) t.cuts)

    woken_kept : Kept g r woken
    woken_kept = kept_then down_kept (interruptions_kept down (still_placed down_kept placed) t.later)

    up_kept : Kept g r up
    up_kept = kept_then woken_kept (start_kept g image woken (still_placed woken_kept placed))

    -- with the places of the try
    again : Replaced t.places (length up.signs) up.signs (row_tried_of g image r t).signs
    again = replaced up.signs t.places (length up.signs) (omega arith)

    tried_kept : Kept g r (row_tried_of g image r t)
    tried_kept = kept_then up_kept (record { listed = again.listed; long = refl; starts = λ j. (again.kept j).1; words = λ v out. refl })

    pub tried_place : (j : ℕ) → j < length r.signs → (sign_at (row_tried_of g image r t).signs j).place ≡ t.places j
    tried_place j l = let there = still_listed up_kept l in again.placed j there there

    -- what becomes of a sign from where the supply fails
    tried_from : (j : ℕ) → j < length r.signs → (s : State) → state_at g failed j ≡ s
        → state_at g (row_tried_of g image r t) j ≡ started_up g (interruptions_of g (reset_by g s (t.cuts j)).state (own_later_of t.later j))
    tried_from j l s fails =
        rw ((again.kept j).0, (again.kept j).1.0, (again.kept j).1.1) refl
        ∙ own_start g image woken (still_placed woken_kept placed) j (still_listed woken_kept l)
        ∙ ap (λ (s : State). started_up g s)
        (own_interruptions down (still_placed down_kept placed) t.later j (still_listed down_kept l)
        ∙ ap (λ (s : State). interruptions_of g s (own_later_of t.later j))
        (own_reset g image failed (still_placed failed_kept placed) j (still_listed failed_kept l) t.cuts
        ∙ ap (λ (s : State). (reset_by g s (t.cuts j)).state) fails))

    -- at whatever place it was
    pub own_tried : (j : ℕ) → j < length r.signs → state_at g (row_tried_of g image r t) j ≡ started_up g (interruptions_of g
        (reset_by g (end_state_of g (moves_of g image (position_at g r j) (own_moves_of g image r t.moves j)).state (own_end_of t.end j)) (t.cuts j)).state
        (own_later_of t.later j))
    own_tried j l = tried_from j l _ (left_own g image r placed j l t.moves t.end)

    -- at place 0 it is a try of the sign's own
    tried_first : (j : ℕ) → j < length r.signs → (sign_at r.signs j).place ≡ 0
        → state_at g (row_tried_of g image r t) j
        ≡ started_up g (tried_of g image (state_at g r j)
        (record { moves = own_moves_of g image r t.moves j; end = own_end_of t.end j; cut = t.cuts j; later = own_later_of t.later j }))
    tried_first j l place = tried_from j l _ (left_first g image r placed j l place t.moves t.end)

  -- ---- a list of tries

  pub tries_kept : (r : RowState) → Placed g r → (l : List RowTry) → Kept g r (row_tries_of g image r l)
  tries_kept r placed [] = kept_same
  tries_kept r placed (t ∷ rest) =
      let now = tried_kept r placed t in
      kept_then now (tries_kept (row_tried_of g image r t) (still_placed now placed) rest)

  pub own_tries : (r : RowState) → Placed g r → (j : ℕ) → j < length r.signs → (sign_at r.signs j).place ≡ 0 → (l : List RowTry) → FromPlace0 l j
      → state_at g (row_tries_of g image r l) j ≡ tries_of g image (state_at g r j) (own_tries_of g image r l j)
  own_tries r placed j l place [] from = refl
  own_tries r placed j l place (t ∷ []) from = tried_first r placed t j l place
  own_tries r placed j l place (t ∷ u ∷ rest) (first, from) =
      let now = tried_kept r placed t in
      own_tries (row_tried_of g image r t) (still_placed now placed) j (still_listed now l) (tried_place r placed t j l ∙ first) (u ∷ rest) from
      ∙ ap (λ (s : State). tries_of g image s (own_tries_of g image (row_tried_of g image r t) (u ∷ rest) j)) (tried_first r placed t j l place)

  -- so all that W-212 claims holds of each sign
  pub after_tries : (r : RowState) → Placed g r → (j : ℕ) → j < length r.signs → (sign_at r.signs j).place ≡ 0 → Update g (state_at g r j) image
      → (l : List RowTry) → FromPlace0 l j → Tried g image (old (state_at g r j)) (state_at g r j) (own_tries_of g image r l j)
      → AfterTries g (state_at g r j) image (state_at g (row_tries_of g image r l) j)
  after_tries r placed j l place update ts from tried =
      let own = own_tries_of g image r ts j in
      subst (λ (u : State). AfterTries g (state_at g r j) image u) (sym (own_tries r placed j l place ts from))
      ((tries g image).after (state_at g r j) update own [] (rw (append-nil own) tried))
