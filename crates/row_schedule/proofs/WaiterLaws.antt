-- Those that begin to wait join the queue, in record order. Assumes nothing.
use Prim.Native.Nat.{ℕ, suc, ◌+◌, ◌<◌, ◌≤◌}
use mathlib.Core.Path.{◌≡◌, refl, sym, ap, ◌∙◌}
use mathlib.Core.Bool.{Bool, true, false, not, ◌&&◌}
use mathlib.Core.List.{List, [], ◌∷◌, ◌++◌, append_assoc, append-nil}
use native.Mathlib.Omega.{arith}
use lib.Dec.{ltb}
use lib.ListN.{length, length-append, drop_of_length-le}
use lib.Seq.{take_all}
use borrow.Author.Tests.{not-true}
use Rattle.words.proofs.PickLaws.{and_both}
use Rattle.geometry.specs.declared.banks.Geometry.{Geometry}
use Rattle.row_signs.specs.declared.sign.Sign.{Sign}
use Rattle.row_signs.specs.declared.queue.Queue.{Queue}
use Rattle.row_signs.specs.Signs.{left_of, sign_at, waiting_of, queue_of, waits_of}
use Rattle.row_queue.specs.Waiting.{joined, without_of}
use Rattle.row_queue.proofs.QueueLaws.{entries_length, joined_is, queue_length}
use Rattle.row_choice.specs.Choice.{records_of, before_of}
use Rattle.row_choice.proofs.RecordsLaws.{records_count, count_rises}
use Rattle.row_choice.proofs.SoundLaws.{Sound, begin_room}
use Rattle.row_turn.specs.SignTurn.{look_of}
use Rattle.row_schedule.specs.Round.{EntriesIn, EntriesApart, stand_of, stands_of, searched_of, joins_of}
use Rattle.row_schedule.proofs.ChoiceLaws.{counted, entry_is}

-- the entries of a queue that was judged
pub judged_sound : (queue : Queue) (n : ℕ) → EntriesIn queue n → EntriesApart queue → Sound (waiting_of queue) n
judged_sound queue n inside apart =
    let long = entries_length queue.numbers queue.count in
    record {
      below =
          λ p l.
          let at : p < queue.count = omega (arith, l, long) in
          rw (entry_is queue.numbers queue.count p at) (inside p at);
      apart =
          λ p q l m same.
          let here : q < queue.count = omega (arith, m, long) in
          apart p q l here
          (sym (entry_is queue.numbers queue.count p (omega (arith, l, here))) ∙ same ∙ entry_is queue.numbers queue.count q here);
    }

-- a copy of a queue has its entries
pub copy_is : (queue copy : Queue) → copy ≡ without_of queue queue.count → copy ≡ queue_of (waiting_of queue)
unfolding without_of
copy_is queue copy e = e ∙ ap queue_of whole
  where
    long : length (waiting_of queue) ≡ queue.count
    long = entries_length queue.numbers queue.count

    whole : left_of (waiting_of queue) queue.count ≡ waiting_of queue
    whole =
        rw (
          take_all queue.count (waiting_of queue) (omega (arith, long)),
          drop_of_length-le (waiting_of queue) {i = queue.count + 1} (omega (arith, long)),
        ) (append-nil (waiting_of queue))

-- after the first j records, by the entries of the queue at the start
pub record Joining (start : Queue) (begins : ℕ → Bool) (waiting : Queue) (j : ℕ) : Type 0 where
  pub is : (l : List ℕ) → start ≡ queue_of l → waiting ≡ queue_of (l ++ records_of begins j)

module _ (start : Queue) (begins : ℕ → Bool) where
  pub joining_starts : Joining start begins start 0
  joining_starts = record { is = λ l e. e ∙ ap queue_of (sym (append-nil l)) }

  module _ (waiting : Queue) (j : ℕ) (joining : Joining start begins waiting j) where
    -- there is room for one that begins to wait and did not wait
    pub joining_room : (l : List ℕ) → start ≡ queue_of l → (n : ℕ) → n ≤ 32 → Sound l n → ((i : ℕ) → i < n → begins i ≡ true → waits_of l i ≡ false)
        → j < n → begins j ≡ true → waiting.count < 32
    joining_room l e n few sound new below here =
        omega (
          arith,
          queue_length (l ++ records_of begins j) waiting (joining.is l e),
          length-append l (records_of begins j),
          records_count begins j,
          counted begins j here,
          few,
          count_rises begins (suc j) n below,
          begin_room l begins n sound new,
        )

    -- it joins
    pub joining_next : waiting.count < 32 → begins j ≡ true → (next : Queue) → next ≡ joined waiting j → Joining start begins next (suc j)
    joining_next room here next e =
        record {
          is =
              λ l from.
              let now = joining.is l from in
              e ∙ ap (λ (q : Queue). joined q j) now
              ∙ joined_is (l ++ records_of begins j) j (omega (arith, room, queue_length (l ++ records_of begins j) waiting now))
              ∙ ap queue_of (append_assoc l (records_of begins j) (j ∷ []) ∙ ap (λ (r : List ℕ). l ++ r) more);
        }
      where
        more : records_of begins j ++ (j ∷ []) ≡ records_of begins (suc j)
        more = rw here refl

    -- another does not
    pub joining_passed : begins j ≡ false → Joining start begins waiting (suc j)
    joining_passed other = record { is = λ l from. joining.is l from ∙ ap (λ (r : List ℕ). queue_of (l ++ r)) none }
      where
        none : records_of begins j ≡ records_of begins (suc j)
        none = rw other (sym (append-nil (records_of begins j)))

-- a record that begins to wait does not wait yet
pub joins_new : (g : Geometry) (signs : List Sign) (queue : Queue) (full : Bool) (store image sram : List ℕ) (n last j : ℕ)
    → joins_of n last (stands_of g signs queue full store image sram) j ≡ true → waits_of (waiting_of queue) j ≡ false
unfolding stand_of
joins_new g signs queue full store image sram n last j h =
    let stand = stands_of g signs queue full store image sram in
    let l = look_of g store image sram (sign_at signs j) in
    let held = (and_both (ltb (before_of n last j) (searched_of n last stand)) ((stand j).free && (stand j).held) h).1 in
    let free = (and_both (stand j).free (stand j).held held).0 in
    not-true (waits_of (waiting_of queue) j) (and_both l.can (not (waits_of (waiting_of queue) j)) free).1
