-- What holds of a call that is not declined. Assumes nothing.
use Rattle.std.proofs.Common.{ℕ, ◌≤◌, ◌<◌, ◌≡◌, Bool, true, false, not, ◌&&◌, leb, nat_eq, List, length, get_or, Option, Some, None}
use Rattle.std.proofs.Common.{refl, sym, ap, ◌∙◌, le-leb, lt-ltb, le-ltb, arith}
use Rattle.std.specs.List.{list_any}
use Rattle.std.proofs.Math.Seq.{take_all}
use Rattle.row_signs.proofs.ListLaws.{any_taken}
use Rattle.row_signs.specs.Signs.{sign_at, waiting_of, waits_of}
use Rattle.row_turn.specs.SignTurn.{look_of}
use Rattle.row_turn.specs.declared.Look.{Look}
use Rattle.row_schedule.specs.declared.judged.Judged.{Judged}
use Rattle.row_schedule.specs.Round.{Choice, RowSound, QueueSound, stand_of, standing_of, round_of}
use Rattle.row_schedule.specs.Calls.{some_below, known_at, stands_at}
use Rattle.row_choice.specs.Choice.{count_of, full_of, ready_of, from_queue_of}
use Rattle.row_queue.proofs.QueueLaws.{entries_length}
use Rattle.row_schedule.proofs.ChoiceLaws.{entry_is, first_entry, below_some, below_none}
use Rattle.row_schedule.proofs.RoundLaws.{by_round, by_queue, full_none, ready_none, ready_some}
use Rattle.row_schedule.specs.Schedule.{choice_of}
use Rattle.device.specs.Record.{running}
use Rattle.row_signs.specs.declared.queue.Queue.{Queue}
use Rattle.row_queue.specs.Waiting.{without_of}
use borrow.Author.Tests.{lt-leb}
use Rattle.row_schedule.proofs.ServeLaws.{row-sound, queue-sound}

module _ (c : Judged) where
  pub sound : RowSound c.shared.layout.geometry c.shared.store.now c.row.now.signs c.row.now.count
  sound =
      row-sound c.shared.layout.geometry c.k c.row.now.signs c.row.now.count c.row.now.queue c.row.now.last
      c.shared.store.now c.shared.image.now c.shared.sram.now c.accepted

  queue_both : QueueSound c.row.now.queue c.row.now.count × (c.row.now.last < c.row.now.count)
  queue_both =
      queue-sound c.shared.layout.geometry c.k c.row.now.signs c.row.now.count c.row.now.queue c.row.now.last
      c.shared.store.now c.shared.image.now c.shared.sram.now
      c.accepted

  pub waiting : QueueSound c.row.now.queue c.row.now.count
  waiting = queue_both.0

  pub last_inside : c.row.now.last < c.row.now.count
  last_inside = queue_both.1

  -- how a record stands, by what a look at it tells and by whether it is one of those that wait
  pub standing_at : (full : Bool) (j : ℕ) (look : Look)
      → look ≡ look_of c.shared.layout.geometry c.shared.store.now c.shared.image.now c.shared.sram.now (sign_at c.row.now.signs j)
      → (numbers : List ℕ) → numbers ≡ waiting_of c.row.now.queue → (waits : Bool) → waits ≡ list_any (λ y. nat_eq y j) numbers
      → standing_of (record { free = look.can && not waits; held = look.sets && full }) ≡ standing_of (stands_at c full j)
  unfolding stand_of
  standing_at full j look el numbers en waits ew =
      rw (el, ew, en) (ap (λ (w : Bool). standing_of (record { free = (look_at j).can && not w; held = (look_at j).sets && full })) listed)
    where
      look_at : ℕ → Look
      look_at i = look_of c.shared.layout.geometry c.shared.store.now c.shared.image.now c.shared.sram.now (sign_at c.row.now.signs i)

      listed : list_any (λ y. nat_eq y j) (waiting_of c.row.now.queue) ≡ waits_of (waiting_of c.row.now.queue) j
      listed =
          rw (take_all (length (waiting_of c.row.now.queue)) (waiting_of c.row.now.queue) (omega arith))
          at (any_taken (λ y. nat_eq y j) (waiting_of c.row.now.queue) 0 (length (waiting_of c.row.now.queue)) (omega arith))

  -- the numbers that wait, as the queue has them
  module _ (numbers : List ℕ) (en : numbers ≡ waiting_of c.row.now.queue) where
    numbers_length : length numbers ≡ c.row.now.queue.count
    numbers_length = ap length en ∙ entries_length c.row.now.queue.numbers c.row.now.queue.count

    pub number_is : (p : ℕ) → p < length numbers → get_or numbers p 0 ≡ get_or c.row.now.queue.numbers p 0
    number_is p l = rw en (entry_is c.row.now.queue.numbers c.row.now.queue.count p (omega (arith, l, numbers_length)))

    pub number_inside : (p : ℕ) → p < length numbers → get_or numbers p 0 < c.row.now.count
    number_inside p l = rw (number_is p l) (waiting.inside p (omega (arith, l, numbers_length)))

    -- the first of them that can be served, or that there is none
    pub first_some : (p : ℕ) → p < length numbers → (known_at c).can (get_or numbers p 0) ≡ true
        → ((q : ℕ) → q < p → (known_at c).can (get_or c.row.now.queue.numbers q 0) ≡ false)
        → Some p ≡ some_below (ready_of (known_at c)) (length (waiting_of c.row.now.queue))
    first_some p l can none =
        let first : p ≡ ready_of (known_at c) =
        first_entry c.row.now.queue (known_at c).can p (omega (arith, l, numbers_length)) (λ below. rw (← number_is p l) can) none in
        rw (← first, lt-ltb p (length (waiting_of c.row.now.queue)) (rw (← en) l)) refl

    pub first_none : (p : ℕ) → p ≡ length numbers → ((q : ℕ) → q < p → (known_at c).can (get_or c.row.now.queue.numbers q 0) ≡ false)
        → ◌≡◌ {A = Option ℕ} None (some_below (ready_of (known_at c)) (length (waiting_of c.row.now.queue)))
    first_none p e none =
        let first : p ≡ ready_of (known_at c) =
        first_entry c.row.now.queue (known_at c).can p (omega (arith, e, numbers_length)) (λ below. absurd (omega (arith, e, below, numbers_length))) none in
        rw (← first, e, en, le-ltb (length (waiting_of c.row.now.queue)) (length (waiting_of c.row.now.queue)) (omega arith)) refl

  -- ---- the choice as a whole

  abbrev full : Bool
  full = full_of (known_at c)

  module _ (count : ℕ) (ec : count ≡ count_of (λ j. running (sign_at c.row.now.signs j).device) c.row.now.count) where
    -- whether K or more are set, by their count
    full_is : full ≡ leb c.k count
    full_is = ap (λ (m : ℕ). leb c.k m) (sym ec)

    -- nobody is served from the queue: as the search round the list has it
    by_search : from_queue_of (known_at c) ≡ false → (choice : Choice)
        → choice ≡ round_of c.row.now.count c.row.now.queue c.row.now.last (stands_at c (leb c.k count)) → choice ≡ choice_of (known_at c)
    by_search none choice e =
        by_round c.shared.layout.geometry c.k c.row.now.signs c.row.now.count c.row.now.queue c.row.now.last
        c.shared.store.now c.shared.image.now c.shared.sram.now
        (leb c.k count) full_is none choice e

    -- with K or more set
    pub full_search : c.k ≤ count → (choice : Choice)
        → choice ≡ round_of c.row.now.count c.row.now.queue c.row.now.last (stands_at c (leb c.k count)) → choice ≡ choice_of (known_at c)
    full_search many choice e =
        by_search
        (full_none c.shared.layout.geometry c.k c.row.now.signs c.row.now.count c.row.now.queue c.row.now.last
        c.shared.store.now c.shared.image.now c.shared.sram.now
        (full_is ∙ le-leb c.k count many)) choice e

    -- with fewer, where none of those that wait can be served
    pub none_search : ◌≡◌ {A = Option ℕ} None (some_below (ready_of (known_at c)) (length (waiting_of c.row.now.queue))) → (choice : Choice)
        → choice ≡ round_of c.row.now.count c.row.now.queue c.row.now.last (stands_at c (leb c.k count)) → choice ≡ choice_of (known_at c)
    none_search none choice e =
        let past = below_none _ _ none in
        by_search
        (ready_none c.shared.layout.geometry c.k c.row.now.signs c.row.now.count c.row.now.queue c.row.now.last
        c.shared.store.now c.shared.image.now c.shared.sram.now
        _ refl (omega (arith, past, entries_length c.row.now.queue.numbers c.row.now.queue.count))) choice e

    -- with fewer, the first of those that can
    pub from_queue : count < c.k → (p : ℕ) → ◌≡◌ {A = Option ℕ} (Some p) (some_below (ready_of (known_at c)) (length (waiting_of c.row.now.queue)))
        → (left : Queue) → left ≡ without_of c.row.now.queue p → record { served = get_or c.row.now.queue.numbers p 0; queue = left } ≡ choice_of (known_at c)
    from_queue few p some left e =
        let b = below_some _ _ p some in
        let inside : p < c.row.now.queue.count = omega (arith, b.0, b.1, entries_length c.row.now.queue.numbers c.row.now.queue.count) in
        ap (λ (q : Queue). record { served = get_or c.row.now.queue.numbers p 0; queue = q }) e
        ∙ by_queue c.shared.layout.geometry c.k c.row.now.signs c.row.now.count c.row.now.queue c.row.now.last
        c.shared.store.now c.shared.image.now c.shared.sram.now
        (ready_some c.shared.layout.geometry c.k c.row.now.signs c.row.now.count c.row.now.queue c.row.now.last
        c.shared.store.now c.shared.image.now c.shared.sram.now
        (full_is ∙ lt-leb c.k count few) p b.0 inside) p b.0 inside

  -- and it is a record of the row
  pub entry_inside : (p : ℕ) → ◌≡◌ {A = Option ℕ} (Some p) (some_below (ready_of (known_at c)) (length (waiting_of c.row.now.queue)))
      → (p < c.row.now.queue.count) × (get_or c.row.now.queue.numbers p 0 < c.row.now.count)
  entry_inside p some =
      let b = below_some _ _ p some in
      let inside : p < c.row.now.queue.count = omega (arith, b.0, b.1, entries_length c.row.now.queue.numbers c.row.now.queue.count) in
      (inside, waiting.inside p inside)
