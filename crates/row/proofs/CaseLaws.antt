-- Whom a call serves: the tests of the choice, and the facts that they stand for. Assumes nothing.
use Prim.Native.Nat.{ℕ, ◌≤◌, ◌<◌}
use mathlib.Core.Path.{◌≡◌, refl, sym, ap, ◌∙◌}
use mathlib.Core.Bool.{Bool, true, false, not, not-eq-not}
use native.Mathlib.Omega.{arith}
use lib.ListN.{length, get_or}
use borrow.Author.Tests.{leb-true, le-leb, not-true}
use Rattle.words.proofs.BitLaws.{true_not_false}
use Rattle.words.proofs.PickLaws.{and_both}
use Rattle.words.proofs.FirstLaws.{first_is}
use Rattle.geometry.specs.declared.banks.Geometry.{Geometry}
use Rattle.row_signs.specs.Signs.{waiting_of, waits_of}
use Rattle.row_queue.proofs.QueueLaws.{entries_length}
use Rattle.row_choice.specs.Choice.{Known, before_of, full_of, ready_of, from_queue_of, open_of, held_of, found_of}
use Rattle.row_choice.proofs.RoundLaws.{met_below, before_below, met_before}
use Rattle.row_choice.proofs.ServedLaws.{from_queue, ready_first, queue_ready, takes_of, taken, found_first}
use Rattle.row_schedule.proofs.ChoiceLaws.{entry_is, first_entry}
use Rattle.row.specs.Row.{RowState, Call, set_of, Can}
use Rattle.row.specs.Choosing.{waiter_at, FirstWaiting, NoneWaiting, met_at, Open, Held, FirstMet, Nobody}
use Rattle.row.proofs.CallLaws.{known_at}
use Rattle.row.proofs.KnownLaws.{known_can, can_known, known_sets, sets_known, known_set}

module _ (g : Geometry) (r : RowState) (c : Call) where
  abbrev known : Known
  known = known_at g r c

  -- ---- the queue

  waiting_count : length (waiting_of r.queue) ≡ r.queue.count
  waiting_count = entries_length r.queue.numbers r.queue.count

  -- the record at position p, in what is known
  can_waiter : (p : ℕ) → p < r.queue.count → known.can (get_or (waiting_of r.queue) p 0) ≡ known.can (waiter_at r p)
  can_waiter p inside = ap known.can (entry_is r.queue.numbers r.queue.count p inside)

  -- the one that the queue gives is the first there that can be served
  pub queue_first : from_queue_of known ≡ true → FirstWaiting g r c (ready_of known)
  queue_first h =
      let q = from_queue known h in
      let within : ready_of known < r.queue.count = omega (arith, q.ready, waiting_count) in
      record {
        room = rw (← known_set g r c) q.room;
        inside = within;
        can = known_can g r c (waiter_at r (ready_of known)) (sym (can_waiter (ready_of known) within) ∙ (ready_first known).found q.ready);
        first = λ p before can.
            true_not_false (sym (can_known g r c (waiter_at r p) can) ∙ sym (can_waiter p (omega (arith, before, within)))
            ∙ (ready_first known).before p before);
      }

  -- where one can be served the queue gives one
  some_ready : set_of r < c.k → (p : ℕ) → p < r.queue.count → Can g r c (waiter_at r p) → from_queue_of known ≡ true
  some_ready room p inside can =
      queue_ready known p (rw (known_set g r c) room) (omega (arith, inside, waiting_count)) (can_waiter p inside ∙ can_known g r c (waiter_at r p) can)

  -- and where one is the first, the queue gives it
  pub first_queue : (p : ℕ) → FirstWaiting g r c p → from_queue_of known ≡ true
  first_queue p f = some_ready f.room p f.inside f.can

  pub first-ready : (p : ℕ) → FirstWaiting g r c p → p ≡ ready_of known
  first-ready p f =
      first_entry r.queue known.can p (omega (arith, f.inside))
      (λ inside. can_known g r c (waiter_at r p) f.can)
      (λ q before. (not-eq-not {b = false}).0 (λ h. f.first q before (known_can g r c (waiter_at r q) h)))

  -- else it gives none
  queue_none : from_queue_of known ≡ false → NoneWaiting g r c
  queue_none h room p inside can = true_not_false (sym (some_ready room p inside can) ∙ h)

  pub none_queue : NoneWaiting g r c → from_queue_of known ≡ false
  none_queue none = (not-eq-not {b = false}).0 (λ h. let f = queue_first h in none f.room (ready_of known) f.inside f.can)

  -- ---- a record of the list: `test-` from a test to its fact, `-test` from a fact to its test

  module _ (j : ℕ) where
    test_open : open_of known j ≡ true → Open g r c j
    test_open h =
        let both = and_both (known.can j) (not (waits_of known.waiting j)) h in
        record { can = known_can g r c j both.0; free = λ waits. true_not_false (sym waits ∙ not-true (waits_of known.waiting j) both.1) }

    open_test : Open g r c j → open_of known j ≡ true
    open_test o = rw (can_known g r c j o.can, (not-eq-not {a = waits_of known.waiting j} {b = false}).0 o.free) refl

    pub test_held : open_of known j ≡ true → held_of known j ≡ true → Held g r c j
    test_held o h =
        let both = and_both (known.sets j) (full_of known) h in
        record { is_open = test_open o; sets = known_sets g r c j both.0; full = rw (← known_set g r c) (leb-true known.k known.set both.1) }

    pub held_tests : Held g r c j → (open_of known j ≡ true) × (held_of known j ≡ true)
    held_tests h = (open_test h.is_open, rw (sets_known g r c j h.sets, le-leb known.k known.set (rw (known_set g r c) h.full)) refl)

    -- the search serves it where it meets it
    taken_test : Open g r c j → (Held g r c j → ⊥) → takes_of known j ≡ true
    taken_test o free = rw (open_test o, (not-eq-not {a = held_of known j} {b = false}).0 (λ h. free (test_held (open_test o) h))) refl

    test_taken : takes_of known j ≡ true → Open g r c j × (Held g r c j → ⊥)
    test_taken h =
        let t = taken known j h in (
          record { can = known_can g r c j t.can; free = λ waits. true_not_false (sym waits ∙ t.free) },
          λ held. true_not_false (sym (held_tests held).1 ∙ t.held),
        )

    -- or passes it
    passed_test : (Open g r c j → Held g r c j) → takes_of known j ≡ false
    passed_test held = (not-eq-not {b = false}).0 (λ h. let t = test_taken h in t.1 (held t.0))

    test_passed : takes_of known j ≡ false → Open g r c j → Held g r c j
    test_passed h o = go (held_of known j) refl
      where
        go : (t : Bool) → held_of known j ≡ t → Held g r c j
        go true e = test_held (open_test o) e
        go false e = true_not_false (sym (taken_test o (λ held. true_not_false (sym (held_tests held).1 ∙ e))) ∙ h)

  -- ---- the search

  -- the record that it finds is the first that it may serve
  pub found_met : from_queue_of known ≡ false → found_of known < length r.signs → FirstMet g r c (found_of known)
  found_met h inside =
      let t = test_taken (met_at r (found_of known)) ((found_first known).found inside) in
      record {
        nobody = queue_none h;
        inside = inside;
        is_open = t.0;
        bears = t.1;
        first = λ e before. test_passed (met_at r e) ((found_first known).before e before);
      }

  pub met_found : (i : ℕ) → FirstMet g r c i → i ≡ found_of known
  met_found i f =
      first_is (λ i. takes_of known (met_at r i)) (length r.signs) i
      (record {
        within = omega (arith, f.inside);
        found = λ inside. taken_test (met_at r i) f.is_open f.bears;
        before = λ e before. passed_test (met_at r e) (f.first e before);
      })

  module _ (below : r.last < length r.signs) where
    -- it finds none
    pub found_nobody : from_queue_of known ≡ false → length r.signs ≤ found_of known → Nobody g r c
    found_nobody h none =
        record {
          nobody = queue_none h;
          held = λ j listed.
              let e = before_of (length r.signs) r.last j in
              let before : e < found_of known = omega (arith, before_below (length r.signs) r.last below j, none) in
              test_passed j (rw (met_before (length r.signs) r.last below j listed) at ((found_first known).before e before));
        }

    pub nobody_found : Nobody g r c → length r.signs ≡ found_of known
    nobody_found n =
        first_is (λ i. takes_of known (met_at r i)) (length r.signs) (length r.signs)
        (record {
          within = omega arith;
          found = λ inside. absurd (omega (arith, inside));
          before = λ e before. passed_test (met_at r e) (n.held (met_at r e) (met_below (length r.signs) r.last below e));
        })
