-- Where a list of calls and reads ends, and all signs reset together and started up: each sign's part is its own. Assumes nothing.
use Prim.Native.Nat.{ℕ, ◌<◌}
use mathlib.Core.Path.{◌≡◌, refl, sym, ap, subst, ◌∙◌}
use mathlib.Core.Bool.{Bool, true, false}
use mathlib.Core.List.{List}
use lib.Dec.{eqb, ltb}
use lib.ListN.{length}
use borrow.Author.Tests.{eqb-true, eq-eqb}
use Rattle.words.specs.Word.{pick}
use Rattle.words.proofs.BitLaws.{true_not_false}
use Rattle.geometry.specs.declared.banks.Geometry.{Geometry}
use Rattle.device.specs.State.{State}
use Rattle.update.specs.PowerFail.{Position, at, Cut, reset_by, started_up, restarted}
use Rattle.update.specs.Moves.{moves_of, End, end_state_of, after_moves}
use Rattle.update.specs.Tries.{Interruption, interrupted_of}
use Rattle.update.proofs.Tries.{tries}
use Rattle.row_signs.specs.Signs.{sign_at}
use Rattle.row.specs.Row.{RowState}
use Rattle.row.specs.RowCut.{state_at, position_at, Placed, RowMove, RowEnd, row_moves_of, row_end_of, own_moves_of, own_end_of}
use Rattle.row.specs.RowCut.{each_of, reset_row_of, start_row_of, restarted_row_of}
use Rattle.row.specs.RowCut.RowEnd.{whole, inside}
use Rattle.row.proofs.KeptLaws.{Kept, kept_same, kept_then, still_listed, still_placed}
use Rattle.row.proofs.OwnLaws.{put_kept, put_own, put_other, moves_kept, own_moves}
use Rattle.row.proofs.JointLaws.{KeepsLengths, each_kept, each_own}

module _ (g : Geometry) (image : List ℕ) where
  -- ---- what keeps the lengths of the banks

  end_lengths : (s : State) (e : End) → (length (end_state_of g s e).one ≡ length s.one) × (length (end_state_of g s e).two ≡ length s.two)
  end_lengths s e = let keeps = (tries g image).end_keeps s e in (keeps.long false, keeps.long true)

  interrupted_lengths : (each : ℕ → Interruption) → KeepsLengths (λ j s. interrupted_of g s (each j))
  interrupted_lengths each j s = let keeps = (tries g image).interruption_keeps s (each j) in (keeps.long false, keeps.long true)

  start_lengths : KeepsLengths (λ j s. started_up g s)
  start_lengths j s = let keeps = (tries g image).start_up_keeps s in (keeps.long false, keeps.long true)

  module _ (r : RowState) (placed : Placed g r) where
    -- ---- where a list ends

    end_kept : (e : RowEnd) → Kept g r (row_end_of g r e)
    end_kept whole = kept_same
    end_kept (inside i end) =
        put_kept g image r placed i (end_state_of g (state_at g r i) end) (λ l. end_lengths (state_at g r i) end) (ltb i (length r.signs)) refl

    pub own_end : (j : ℕ) → j < length r.signs → (e : RowEnd) → state_at g (row_end_of g r e) j ≡ end_state_of g (state_at g r j) (own_end_of e j)
    own_end j l whole = refl
    own_end j l (inside i end) = go (eqb i j) refl
      where
        go : (b : Bool) → eqb i j ≡ b → state_at g (row_end_of g r (inside i end)) j ≡ end_state_of g (state_at g r j) (pick b end End.whole)
        go true e =
            subst (λ (n : ℕ). state_at g (row_end_of g r (inside n end)) j ≡ end_state_of g (state_at g r j) end) (sym (eqb-true i j e))
            (ap (λ (p : Position). p.state)
            (put_own g image r placed j (end_state_of g (state_at g r j) end) (λ l. end_lengths (state_at g r j) end) (ltb j (length r.signs)) refl l))
        go false e =
            ap (λ (p : Position). p.state)
            (put_other g image r placed i (end_state_of g (state_at g r i) end) (λ l. end_lengths (state_at g r i) end)
            (ltb i (length r.signs)) refl j l
            (λ same. true_not_false (sym (eq-eqb i j (sym same)) ∙ e)))

    -- ---- all interrupted, reset or started up together

    pub interrupted_kept : (each : ℕ → Interruption) → Kept g r (each_of g (λ j s. interrupted_of g s (each j)) r)
    interrupted_kept each = each_kept g (λ j s. interrupted_of g s (each j)) (interrupted_lengths each) r placed

    pub own_interrupted : (each : ℕ → Interruption) (j : ℕ) → j < length r.signs
        → state_at g (each_of g (λ j s. interrupted_of g s (each j)) r) j ≡ interrupted_of g (state_at g r j) (each j)
    own_interrupted each = each_own g (λ j s. interrupted_of g s (each j)) (interrupted_lengths each) r placed

    pub reset_kept : (cuts : ℕ → Cut) → Kept g r (reset_row_of g r cuts)
    reset_kept cuts = interrupted_kept (λ j. Interruption.reset (cuts j))

    pub own_reset : (j : ℕ) → j < length r.signs → (cuts : ℕ → Cut) → state_at g (reset_row_of g r cuts) j ≡ (reset_by g (state_at g r j) (cuts j)).state
    own_reset j l cuts = own_interrupted (λ j. Interruption.reset (cuts j)) j l

    pub start_kept : Kept g r (start_row_of g r)
    start_kept = each_kept g (λ j s. started_up g s) start_lengths r placed

    pub own_start : (j : ℕ) → j < length r.signs → state_at g (start_row_of g r) j ≡ started_up g (state_at g r j)
    own_start = each_own g (λ j s. started_up g s) start_lengths r placed

  module _ (r : RowState) (placed : Placed g r) where
    pub restart_kept : (cuts : ℕ → Cut) → Kept g r (restarted_row_of g r cuts)
    restart_kept cuts =
        let down = reset_kept r placed cuts in
        kept_then down (start_kept (reset_row_of g r cuts) (still_placed down placed))

    pub own_restart : (j : ℕ) → j < length r.signs → (cuts : ℕ → Cut) → state_at g (restarted_row_of g r cuts) j ≡ restarted g (state_at g r j) (cuts j)
    own_restart j l cuts =
        let down = reset_kept r placed cuts in
        own_start (reset_row_of g r cuts) (still_placed down placed) j (still_listed down l)
        ∙ ap (λ (s : State). started_up g s) (own_reset r placed j l cuts)

    -- ---- what a list leaves

    pub left_kept : (ms : List RowMove) (e : RowEnd) → Kept g r (row_end_of g (row_moves_of g image r ms) e)
    left_kept ms e =
        let moved = moves_kept g image r placed ms in
        kept_then moved (end_kept (row_moves_of g image r ms) (still_placed moved placed) e)

    -- of a sign: what its own moves leave
    pub left_own : (j : ℕ) → j < length r.signs → (ms : List RowMove) (e : RowEnd)
        → state_at g (row_end_of g (row_moves_of g image r ms) e) j
        ≡ end_state_of g (moves_of g image (position_at g r j) (own_moves_of g image r ms j)).state (own_end_of e j)
    left_own j l ms e =
        let moved = moves_kept g image r placed ms in
        own_end (row_moves_of g image r ms) (still_placed moved placed) j (still_listed moved l) e
        ∙ ap (λ (p : Position). end_state_of g p.state (own_end_of e j)) (own_moves g image r placed ms j l)

    -- at place 0 they are moves of its update
    pub left_first : (j : ℕ) → j < length r.signs → (sign_at r.signs j).place ≡ 0 → (ms : List RowMove) (e : RowEnd)
        → state_at g (row_end_of g (row_moves_of g image r ms) e) j ≡ after_moves g (state_at g r j) image (own_moves_of g image r ms j) (own_end_of e j)
    left_first j l place ms e =
        left_own j l ms e ∙ ap (λ (n : ℕ). end_state_of g (moves_of g image (at (state_at g r j) n) (own_moves_of g image r ms j)).state (own_end_of e j)) place
