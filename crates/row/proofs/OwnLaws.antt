-- Each sign's part of a list of calls and reads is a list of moves of its own. Assumes nothing.
use Prim.Native.Nat.{ℕ, ◌<◌}
use mathlib.Core.Path.{◌≡◌, refl, sym, ap, subst, ◌∙◌}
use mathlib.Core.Bool.{Bool, true, false, not, ◌&&◌}
use mathlib.Core.List.{List, [], ◌∷◌, ◌++◌}
use lib.Dec.{eqb, ltb}
use lib.ListN.{length, get_or}
use borrow.Author.Tests.{eqb-true, eq-eqb, ltb-true, lt-ltb}
use Rattle.words.specs.Word.{pick}
use Rattle.words.proofs.BitLaws.{true_not_false}
use Rattle.geometry.specs.declared.banks.Geometry.{Geometry}
use Rattle.geometry.specs.Banks.{bank_words_of}
use Rattle.device.specs.State.{State}
use Rattle.controller.specs.Controller.Operation.{flash_read}
use Rattle.controller.proofs.Controller.{controller}
use Rattle.reads.specs.Read.{flash_read_of}
use Rattle.update.specs.PowerFail.{Position, at}
use Rattle.update.specs.Moves.{moved_of, Move, moves_of}
use Rattle.row_signs.specs.declared.sign.Sign.{Sign}
use Rattle.row_signs.specs.Signs.{sign_at}
use Rattle.row.specs.Row.{RowState, Call, answer_of, after_of}
use Rattle.row.specs.Supply.{OneCall}
use Rattle.row.specs.RowCut.{with_state, state_at, RowMove, call_of, row_moved_of, row_moves_of, own_move_of, own_moves_of, Placed, position_at}
use Rattle.row.specs.RowCut.RowMove.{call, read}
use Rattle.row.proofs.KeptLaws.{OutsideRow, Kept, kept_same, kept_then, still_listed, still_placed}
use Rattle.row.proofs.PlacedLaws.{other_sign, place_same, state_same, state_other, state_lengths, with_kept}
use Rattle.row.proofs.CallLaws.{by_cases}
use Rattle.row.proofs.Supply.{supply}

-- lists of moves one after another
moves_append : (g : Geometry) (image : List ℕ) (p : Position) (a b : List Move) → moves_of g image p (a ++ b) ≡ moves_of g image (moves_of g image p a) b
moves_append g image p [] b = refl
moves_append g image p (m ∷ a) b = moves_append g image (moved_of g image p m) a b

-- ---- one move of the row

module _ (g : Geometry) (image : List ℕ) where
  one_call : (r : RowState) (c : Call) → OneCall g r c (answer_of g r c) (after_of g r c)
  one_call r c = (supply.meets g r c).one_call

  -- a flash read keeps the lengths of the banks
  read_lengths : (s : State) (sram : List ℕ) (address : ℕ) → let t = (flash_read_of g s sram address).after.state in
      (length t.one ≡ length s.one) × (length t.two ≡ length s.two)
  read_lengths s sram address = let keeps = controller.keeps g s (flash_read sram address) in (keeps.long false, keeps.long true)

  module _ (r : RowState) (placed : Placed g r) where
    -- a listed sign with the state that keeps its banks' lengths; else nothing
    module _ (i : ℕ) (t : State)
        (kept : i < length r.signs → (length t.one ≡ length (state_at g r i).one) × (length t.two ≡ length (state_at g r i).two)) where
      abbrev put : Bool → RowState
      put b = pick b (with_state r i t) r

      first_long : i < length r.signs → length t.one ≡ bank_words_of g
      first_long l = (kept l).0 ∙ (state_lengths g r placed i l).0

      other_long : i < length r.signs → length t.two ≡ bank_words_of g
      other_long l = (kept l).1 ∙ (state_lengths g r placed i l).1

      pub put_kept : (b : Bool) → ltb i (length r.signs) ≡ b → Kept g r (put b)
      put_kept true e = let l = ltb-true i (length r.signs) e in with_kept g r placed i l t (first_long l) (other_long l)
      put_kept false e = kept_same

      -- its own position, and another's
      pub put_own : (b : Bool) → ltb i (length r.signs) ≡ b → i < length r.signs → position_at g (put b) i ≡ at t (sign_at r.signs i).place
      put_own true e l =
          rw (state_same g r placed i l t (first_long l) (other_long l), place_same g r placed i l t (first_long l) (other_long l)) refl
      put_own false e l = absurd (true_not_false (sym (lt-ltb i (length r.signs) l) ∙ e))

      pub put_other : (b : Bool) → ltb i (length r.signs) ≡ b → (j : ℕ) → j < length r.signs → (j ≡ i → ⊥) → position_at g (put b) j ≡ position_at g r j
      put_other true e j inside differs =
          let l = ltb-true i (length r.signs) e in
          rw (
            state_other g r placed i l t (first_long l) (other_long l) j inside differs,
            ap (λ (s : Sign). s.place) (other_sign g r placed i l t (first_long l) (other_long l) j differs),
          ) refl
      put_other false e j inside differs = refl

    moved_kept : (m : RowMove) → Kept g r (row_moved_of g image r m)
    moved_kept (call k sram) =
        let o = one_call r (call_of image k sram) in
        record { listed = o.lengths.0; long = o.lengths.1; starts = o.starts; words = words }
      where
        words : (v : ℕ) → OutsideRow g r v → get_or (after_of g r (call_of image k sram)).store v 0 ≡ get_or r.store v 0
        words v out =
            by_cases g r (call_of image k sram)
            (λ d. ap (λ (t : RowState). get_or t.store v 0) d.after)
            (λ i. ap (λ (l : List ℕ). get_or l v 0) i.store)
            (λ x s. (one_call r (call_of image k sram)).outside v (rw s.served (out x s.inside)))
    moved_kept (read i sram address) =
        put_kept i (flash_read_of g (state_at g r i) sram address).after.state (λ l. read_lengths (state_at g r i) sram address)
        (ltb i (length r.signs)) refl

    -- the sign's own move, or none
    own_read : (i : ℕ) (sram : List ℕ) (address j : ℕ) → j < length r.signs
        → position_at g (row_moved_of g image r (read i sram address)) j ≡ moves_of g image (position_at g r j) (own_move_of g image r (read i sram address) j)
    own_read i sram address j l = go (eqb i j) refl
      where
        go : (b : Bool) → eqb i j ≡ b
            → position_at g (row_moved_of g image r (read i sram address)) j ≡ moves_of g image (position_at g r j) (pick b (Move.read sram address ∷ []) [])
        go true e =
            subst (λ (n : ℕ). position_at g (row_moved_of g image r (read n sram address)) j ≡ moves_of g image (position_at g r j)
            (Move.read sram address ∷ []))
            (sym (eqb-true i j e))
            (put_own j (flash_read_of g (state_at g r j) sram address).after.state (λ l. read_lengths (state_at g r j) sram address) (ltb j (length r.signs))
            refl l)
        go false e =
            put_other i (flash_read_of g (state_at g r i) sram address).after.state (λ l. read_lengths (state_at g r i) sram address) (ltb i (length r.signs))
            refl j l (λ same. true_not_false (sym (eq-eqb i j (sym same)) ∙ e))

    own_call : (k : ℕ) (sram : List ℕ) (j : ℕ) → j < length r.signs
        → position_at g (row_moved_of g image r (call k sram)) j ≡ moves_of g image (position_at g r j) (own_move_of g image r (call k sram) j)
    own_call k sram j l = go (eqb (answer_of g r c).decline 0) refl (answer_of g r c).idle refl (eqb (answer_of g r c).served j) refl
      where
        c : Call
        c = call_of image k sram

        o : OneCall g r (call_of image k sram) (answer_of g r (call_of image k sram)) (after_of g r (call_of image k sram))
        o = one_call r (call_of image k sram)

        go : (a : Bool) → eqb (answer_of g r (call_of image k sram)).decline 0 ≡ a → (b : Bool) → (answer_of g r (call_of image k sram)).idle ≡ b
            → (d : Bool) → eqb (answer_of g r (call_of image k sram)).served j ≡ d
            → position_at g (after_of g r (call_of image k sram)) j ≡ moves_of g image (position_at g r j) (pick (a && (not b && d)) (Move.turn sram ∷ []) [])
        go false ea b eb d ed =
            ap (λ (t : RowState). position_at g t j)
            (o.declined (λ zero. true_not_false (sym (eq-eqb (answer_of g r (call_of image k sram)).decline 0 zero) ∙ ea)))
        go true ea true eb d ed = let (signs, (store, last)) = o.idle eb in rw (signs, store) refl
        go true ea false eb false ed =
            let differs : j ≡ (answer_of g r (call_of image k sram)).served → ⊥ = λ same. true_not_false (sym (eq-eqb _ j (sym same)) ∙ ed) in
            rw (o.other_banks (eqb-true _ 0 ea) j l differs, o.others j differs) refl
        go true ea false eb true ed =
            let (listed, (can, (sign, (last, turned)))) = o.served (eqb-true _ 0 ea) eb in
            subst (λ (x : ℕ). position_at g (after_of g r (call_of image k sram)) x ≡ moves_of g image (position_at g r x) (Move.turn sram ∷ []))
            (eqb-true _ j ed)
            (rw (turned, ap (λ (s : Sign). s.place) sign) refl)

    own_move : (m : RowMove) (j : ℕ) → j < length r.signs
        → position_at g (row_moved_of g image r m) j ≡ moves_of g image (position_at g r j) (own_move_of g image r m j)
    own_move (call k sram) j l = own_call k sram j l
    own_move (read i sram address) j l = own_read i sram address j l

  -- ---- a list of moves

  pub moves_kept : (r : RowState) → Placed g r → (ms : List RowMove) → Kept g r (row_moves_of g image r ms)
  moves_kept r placed [] = kept_same
  moves_kept r placed (m ∷ ms) =
      let kept = moved_kept r placed m in
      kept_then kept (moves_kept (row_moved_of g image r m) (still_placed kept placed) ms)

  pub own_moves : (r : RowState) → Placed g r → (ms : List RowMove) (j : ℕ) → j < length r.signs
      → position_at g (row_moves_of g image r ms) j ≡ moves_of g image (position_at g r j) (own_moves_of g image r ms j)
  own_moves r placed [] j l = refl
  own_moves r placed (m ∷ ms) j l =
      let kept = moved_kept r placed m in
      own_moves (row_moved_of g image r m) (still_placed kept placed) ms j (still_listed kept l)
      ∙ ap (λ (p : Position). moves_of g image p (own_moves_of g image (row_moved_of g image r m) ms j)) (own_move r placed m j l)
      ∙ sym (moves_append g image (position_at g r j) (own_move_of g image r m j) (own_moves_of g image (row_moved_of g image r m) ms j))
