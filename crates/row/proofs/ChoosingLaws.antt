-- What a call answers that is not declined: whom it serves, and who waits then. Assumes nothing.
use Prim.Native.Nat.{ℕ, ◌+◌, ◌≤◌, ◌<◌}
use mathlib.Core.Path.{◌≡◌, refl, sym, ap, ◌∙◌}
use mathlib.Core.Bool.{Bool, true, false, ◌&&◌}
use mathlib.Core.List.{◌++◌}
use native.Mathlib.Decide.{dec_lt}
use native.Mathlib.Omega.{arith}
use lib.Dec.{ltb}
use lib.ListN.{length, get_or, take, drop}
use borrow.Author.Tests.{ltb-true, lt-ltb, le-ltb}
use Rattle.words.proofs.BitLaws.{true_not_false}
use Rattle.words.proofs.PickLaws.{and_both}
use Rattle.geometry.specs.declared.banks.Geometry.{Geometry}
use Rattle.row_signs.specs.Signs.{left_of, waiting_of, queue_of}
use Rattle.row_queue.proofs.QueueLaws.{queue_room, queue_zeros}
use Rattle.row_choice.specs.Choice.{Known, records_of, before_of, ready_of, from_queue_of, open_of, held_of, found_of, begins_of, served_of, waiters_of}
use Rattle.row_choice.proofs.RecordsLaws.{records_rising, records_all}
use Rattle.row_choice.proofs.RoundLaws.{met_below, met_before, before_met}
use Rattle.row_choice.proofs.ServedLaws.{from_queue, found_first, search_serves, nobody_leaves}
use Rattle.row_choice.proofs.SoundLaws.{sound_length, waiters_sound}
use Rattle.row_schedule.proofs.ChoiceLaws.{entry_is}
use Rattle.row_schedule.proofs.WaiterLaws.{judged_sound}
use Rattle.row.specs.Row.{RowState, Call, answer_of, after_of, turn_at}
use Rattle.row.specs.Choosing.{waiter_at, FirstWaiting, met_at, FirstMet, Nobody, Case, Begins, Joined, Choosing, JudgedCall}
use Rattle.row.proofs.CallLaws.{known_at, serving_call, idle_call, by_cases, not_declined, queue_after}
use Rattle.row.proofs.KnownLaws.{past_total}
use Rattle.row.proofs.DeclineLaws.{call_accepted, accepted_only}
use Rattle.row.proofs.CaseLaws.{queue_first, first_queue, first-ready, none_queue, test_held, held_tests}
use Rattle.row.proofs.CaseLaws.{found_met, met_found, found_nobody, nobody_found}

module _ (g : Geometry) (r : RowState) (c : Call) (judged : JudgedCall g r c) where
  abbrev known : Known
  known = known_at g r c

  abbrev n : ℕ
  n = length r.signs

  one-of : Case g r c
  one-of = go (from_queue_of known) refl (dec_lt (found_of known) n)
    where
      go : (t : Bool) → from_queue_of known ≡ t → Dec (found_of known < n) → Case g r c
      go true h either = Case.from_queue (ready_of known) (queue_first g r c h)
      go false h (yes inside) = Case.from_list (found_of known) (found_met g r c h inside)
      go false h (no none) = Case.idle (found_nobody g r c judged.last_below h (omega (arith, none)))

  -- ---- who begins to wait

  module _ (i : ℕ) (is : i ≡ found_of known) where
    -- the records that the search meets before the one that it finds, and that are held back: the test of the choice, and back
    begins_listed : (j : ℕ) → Begins g r c i j → j < n
    begins_listed j b = rw b.is at (met_below n r.last judged.last_below b.at)

    begins_test : (j : ℕ) → Begins g r c i j → begins_of known j ≡ true
    begins_test j b =
        let within : found_of known ≤ n = (found_first known).within in
        let at : before_of n r.last j ≡ b.at =
        rw b.is at (before_met n r.last judged.last_below b.at (omega (arith, b.before, is, within))) in
        let tests = held_tests g r c j b.held in
        rw (lt-ltb (before_of n r.last j) (found_of known) (omega (arith, at, b.before, is)), tests.0, tests.1) refl

    test_begins : (j : ℕ) → j < n → begins_of known j ≡ true → Begins g r c i j
    test_begins j listed h =
        let met = and_both (ltb (before_of n r.last j) (found_of known)) (open_of known j && held_of known j) h in
        let tests = and_both (open_of known j) (held_of known j) met.1 in
        let before : before_of n r.last j < found_of known = ltb-true _ _ met.0 in
        record {
          at = before_of n r.last j;
          before = omega (arith, before, is);
          is = met_before n r.last judged.last_below j listed;
          held = test_held g r c j tests.0 tests.1;
        }

    joined : from_queue_of known ≡ false → Joined g r c (after_of g r c) i
    joined h =
        let rising = records_rising (begins_of known) n in
        record {
          new = records_of (begins_of known) n;
          queue = queue_after g r c (call_accepted g r c judged) ∙ ap queue_of (nobody_leaves known h);
          only = λ j w. test_begins j (rw w.is at (rising.below w.at w.inside)) (rw w.is at (rising.holds w.at w.inside));
          all = λ j b. records_all (begins_of known) n j (begins_listed j b) (begins_test j b);
          rising = rising.rising;
        }

  -- ---- the three cases

  serves : (x : ℕ) → served_of known ≡ x → x < n → ((answer_of g r c).idle ≡ false) × ((answer_of g r c).served ≡ x)
  serves x is inside =
      let s = serving_call g r c (call_accepted g r c judged) (lt-ltb (served_of known) n (rw is inside)) in
      (s.idle, s.served ∙ is)

  queue_case : (p : ℕ) → FirstWaiting g r c p
      → ((answer_of g r c).idle ≡ false) × (((answer_of g r c).served ≡ waiter_at r p)
      × ((after_of g r c).queue ≡ queue_of (take p (waiting_of r.queue) ++ drop (p + 1) (waiting_of r.queue))))
  queue_case p f =
      let q = from_queue known (first_queue g r c p f) in
      let e : p ≡ ready_of known = first-ready g r c p f in
      let is : served_of known ≡ waiter_at r p =
      q.served ∙ ap (λ (p : ℕ). get_or (waiting_of r.queue) p 0) (sym e) ∙ entry_is r.queue.numbers r.queue.count p f.inside in
      let s = serves (waiter_at r p) is (judged.entry_below p f.inside) in
      (s.0, (s.1, queue_after g r c (call_accepted g r c judged) ∙ ap queue_of (q.left ∙ ap (left_of (waiting_of r.queue)) (sym e))))

  list_case : (i : ℕ) → FirstMet g r c i → ((answer_of g r c).idle ≡ false) × (((answer_of g r c).served ≡ met_at r i) × Joined g r c (after_of g r c) i)
  list_case i f =
      let h = none_queue g r c f.nobody in
      let e : i ≡ found_of known = met_found g r c i f in
      let found : found_of known < n = omega (arith, f.inside, e) in
      let is : served_of known ≡ met_at r (found_of known) = rw (lt-ltb (found_of known) n found) at (search_serves known h) in
      let s = serves (met_at r i) (is ∙ ap (met_at r) (sym e)) (met_below n r.last judged.last_below i) in
      (s.0, (s.1, joined i e h))

  idle_case : Nobody g r c
      → ((answer_of g r c).idle ≡ true) × (((answer_of g r c).served ≡ 0) × (((answer_of g r c).event ≡ false)
      × Joined g r c (after_of g r c) (length r.signs)))
  idle_case nobody =
      let h = none_queue g r c nobody.nobody in
      let e : n ≡ found_of known = nobody_found g r c judged.last_below nobody in
      let is : served_of known ≡ n = rw (le-ltb (found_of known) n (omega (arith, e))) at (search_serves known h) in
      let i = idle_call g r c (call_accepted g r c judged) (le-ltb (served_of known) n (omega (arith, is))) in
      (i.idle, (i.served, (i.event, joined n e h)))

  idle_nobody : (answer_of g r c).idle ≡ true → Nobody g r c
  idle_nobody idle = go one-of
    where
      go : Case g r c → Nobody g r c
      go (Case.from_queue p f) = true_not_false (sym idle ∙ (queue_case p f).0)
      go (Case.from_list i f) = true_not_false (sym idle ∙ (list_case i f).0)
      go (Case.idle nobody) = nobody

  -- ---- the entries of the queue

  -- as many wait as there are records, or fewer
  few : length (waiters_of known) ≤ n
  few = sound_length (waiters_of known) n (waiters_sound known (judged_sound r.queue n judged.entry_below judged.entries_differ))

  entries : (length (after_of g r c).queue.numbers ≡ 32) × ((after_of g r c).queue.count ≤ n)
  entries = rw (queue_after g r c (call_accepted g r c judged)) (queue_room (waiters_of known) (omega (arith, few, judged.n_high)), few)

  zeros : (p : ℕ) → (after_of g r c).queue.count ≤ p → get_or (after_of g r c).queue.numbers p 0 ≡ 0
  zeros = rw (queue_after g r c (call_accepted g r c judged)) (queue_zeros (waiters_of known))

module _ (g : Geometry) (r : RowState) (c : Call) where
  idle_accepted : (answer_of g r c).idle ≡ true → (answer_of g r c).decline ≡ 0
  idle_accepted idle = by_cases g r c (λ d. true_not_false (sym idle ∙ d.idle)) (λ i. i.decline) (λ x s. s.decline)

  event_of : (answer_of g r c).decline ≡ 0 → (answer_of g r c).idle ≡ false → (answer_of g r c).event ≡ (turn_at g r c (answer_of g r c).served).event
  event_of accepted busy =
      by_cases g r c
      (λ d. not_declined g r c d accepted)
      (λ i. true_not_false (sym i.idle ∙ busy))
      (λ x s. s.event ∙ ap (λ (x : ℕ). (turn_at g r c x).event) (sym s.served))

  pub chosen : Choosing g r c (answer_of g r c) (after_of g r c)
  chosen =
      record {
        one-of = λ h. one-of g r c (accepted_only g r c h);
        from_queue = λ h. queue_case g r c (accepted_only g r c h);
        from_list = λ h. list_case g r c (accepted_only g r c h);
        idle = λ h. idle_case g r c (accepted_only g r c h);
        idle_only = λ idle. let h = idle_accepted idle in (h, idle_nobody g r c (accepted_only g r c h) idle);
        event = event_of;
        past = past_total g r c;
        entries = λ h. entries g r c (accepted_only g r c h);
        zeros = λ h. zeros g r c (accepted_only g r c h);
      }
