-- The search round the list, and the choice as a whole. Assumes nothing.
use Prim.Native.Nat.{ℕ, ◌+◌, ◌≤◌, ◌<◌}
use mathlib.Core.Path.{◌≡◌, refl, sym, ap, subst, ◌∙◌}
use mathlib.Core.Bool.{Bool, true, false, not, ◌&&◌, and-false}
use mathlib.Core.List.{List, ◌++◌}
use native.Mathlib.Decide.{dec_lt}
use native.Mathlib.Omega.{arith}
use lib.Dec.{ltb}
use lib.ListN.{length, get_or, set, replicate, length-set, length-replicate, get_or-replicate}
use lib.Seq.{get_or-set_same, get_or-set_other, set-get_or}
use borrow.Author.Tests.{lt-ltb, le-ltb}
use Rattle.words.specs.Word.{pick}
use Rattle.words.proofs.FirstLaws.{first_is}
use Rattle.geometry.specs.declared.banks.Geometry.{Geometry}
use Rattle.row_signs.specs.declared.sign.Sign.{Sign}
use Rattle.row_signs.specs.declared.queue.Queue.{Queue}
use Rattle.row_signs.specs.Signs.{waiting_of, queue_of}
use Rattle.row_queue.specs.Waiting.{without_of}
use Rattle.row_queue.proofs.QueueLaws.{entries_length}
use Rattle.row_choice.specs.Choice.{records_of, met_of, before_of, Known, full_of, ready_of, from_queue_of, served_of, waiters_of}
use Rattle.row_choice.proofs.RecordsLaws.{records_same}
use Rattle.row_choice.proofs.RoundLaws.{met_below, met_before, before_met}
use Rattle.row_schedule.specs.declared.round.Stand.TheVariants.{Passed, Waits, Served}
use Rattle.row_schedule.specs.Round.{Stand, Search, Choice, standing_of, stand_of, stands_of, searched_of, joins_of, Searched, round_of}
use Rattle.row_schedule.specs.Schedule.{known_of, choice_of}
use Rattle.row_schedule.proofs.ChoiceLaws.{entry_is, none_more}

-- ---- the search

-- a record that is served where it is met
abbrev passes : Stand → Bool
passes s = s.free && not s.held

-- one that would begin to wait there
abbrev waits : Stand → Bool
waits s = s.free && s.held

-- how it stands, by both
pub standing_served : (s : Stand) → standing_of s ≡ Served → passes s ≡ true
standing_served s e = go s.free s.held e
  where
    go : (free held : Bool) → standing_of (record { free = free; held = held }) ≡ Served → (free && not held) ≡ true
    go true true e = cc
    go true false e = refl
    go false held e = cc

pub standing_waits : (s : Stand) → standing_of s ≡ Waits → (passes s ≡ false) × (waits s ≡ true)
standing_waits s e = go s.free s.held e
  where
    go : (free held : Bool) → standing_of (record { free = free; held = held }) ≡ Waits → ((free && not held) ≡ false) × ((free && held) ≡ true)
    go true true e = (refl, refl)
    go true false e = cc
    go false held e = cc

pub standing_passed : (s : Stand) → standing_of s ≡ Passed → (passes s ≡ false) × (waits s ≡ false)
standing_passed s e = go s.free s.held e
  where
    go : (free held : Bool) → standing_of (record { free = free; held = held }) ≡ Passed → ((free && not held) ≡ false) × ((free && held) ≡ false)
    go true true e = cc
    go true false e = cc
    go false held e = (refl, refl)

-- after the first i records that it meets: none of them is served, and those that begin to wait are marked
pub record Searching (n last : ℕ) (stand : ℕ → Stand) (begins : List Bool) (i : ℕ) : Type 0 where
  pub within : i ≤ n
  pub long : length begins ≡ 32
  pub none : (k : ℕ) → k < i → passes (stand (met_of n last k)) ≡ false
  pub marked : (j : ℕ) → j < n → get_or begins j false ≡ (ltb (before_of n last j) i && waits (stand j))

module _ (n last : ℕ) (few : n ≤ 32) (inside : last < n) (stand : ℕ → Stand) where
  pub search_starts : Searching n last stand (replicate 32 false) 0
  search_starts =
      record {
        within = omega arith;
        long = length-replicate 32 false;
        none = λ k l. absurd (omega arith);
        marked = λ j l. rw (get_or-replicate 32 j false false (omega arith), le-ltb (before_of n last j) 0 (omega arith));
      }

  module _ (begins : List Bool) (i : ℕ) (so_far : Searching n last stand begins i) where
    -- a record that is not served, marked if it begins to wait
    search_next : i < n → (s : Stand) → s ≡ stand (met_of n last i) → passes s ≡ false
        → Searching n last stand (set begins (met_of n last i) (waits s)) (i + 1)
    search_next l s e failed =
        record {
          within = omega arith;
          long = length-set begins (met_of n last i) (waits s) ∙ so_far.long;
          none = none_more (λ k. passes (stand (met_of n last k))) i so_far.none (sym (ap passes e) ∙ failed);
          marked = λ j below. go j below (dec_lt (before_of n last j) i) (dec_lt i (before_of n last j));
        }
      where
        -- the marks of the others stay
        other : (j : ℕ) → j < n → (before_of n last j ≡ i → ⊥)
            → get_or (set begins (met_of n last i) (waits s)) j false ≡ (ltb (before_of n last j) i && waits (stand j))
        other j below apart =
            get_or-set_other begins (met_of n last i) j (waits s) false (λ same. apart (ap (before_of n last) same ∙ before_met n last inside i l))
            ∙ so_far.marked j below

        go : (j : ℕ) → j < n → Dec (before_of n last j < i) → Dec (i < before_of n last j)
            → get_or (set begins (met_of n last i) (waits s)) j false ≡ (ltb (before_of n last j) (i + 1) && waits (stand j))
        go j below (yes less) more =
            other j below (λ same. omega arith) ∙ rw (lt-ltb (before_of n last j) i less, lt-ltb (before_of n last j) (i + 1) (omega arith))
        go j below (no less) (yes more) =
            other j below (λ same. omega arith)
            ∙ rw (le-ltb (before_of n last j) i (omega arith), le-ltb (before_of n last j) (i + 1) (omega arith))
        go j below (no less) (no more) =
            let same : before_of n last j ≡ i = omega arith in
            let here : j ≡ met_of n last i = sym (met_before n last inside j below) ∙ ap (met_of n last) same in
            ap (λ (k : ℕ). get_or (set begins (met_of n last i) (waits s)) k false) here
            ∙ get_or-set_same begins (met_of n last i) (waits s) false (omega (arith, met_below n last inside i, so_far.long))
            ∙ rw (same, lt-ltb i (i + 1) (omega arith), here) (ap waits e)

    -- a record that is passed over: nothing is marked
    pub search_passed : i < n → passes (stand (met_of n last i)) ≡ false → waits (stand (met_of n last i)) ≡ false → Searching n last stand begins (i + 1)
    search_passed l failed none =
        subst (λ (b : List Bool). Searching n last stand b (i + 1))
        (rw none (ap (set begins (met_of n last i)) (sym unmarked) ∙ set-get_or begins (met_of n last i) false))
        (search_next l (stand (met_of n last i)) refl failed)
      where
        unmarked : get_or begins (met_of n last i) false ≡ false
        unmarked = so_far.marked (met_of n last i) (met_below n last inside i) ∙ rw (before_met n last inside i l, le-ltb i i (omega arith)) refl

    -- one that begins to wait is marked
    pub search_waits : i < n → passes (stand (met_of n last i)) ≡ false → waits (stand (met_of n last i)) ≡ true
        → Searching n last stand (set begins (met_of n last i) true) (i + 1)
    search_waits l failed some = rw some at (search_next l (stand (met_of n last i)) refl failed)

    -- it serves the next, or has met all
    pub search_ends : (i < n → passes (stand (met_of n last i)) ≡ true) → (found : ℕ) → found ≡ pick (ltb i n) (met_of n last i) n
        → Searched n last stand (record { found = found; begins = begins })
    search_ends passed found e = record { found = rw (← first) e; begins = λ j l. rw (← first) (so_far.marked j l) }
      where
        first : i ≡ searched_of n last stand
        first = first_is (λ k. passes (stand (met_of n last k))) n i (record { within = so_far.within; found = passed; before = so_far.none })

-- those that begin to wait join
pub searched_round : (n : ℕ) (queue : Queue) (last : ℕ) (stand : ℕ → Stand) (s : Search) → Searched n last stand s → (waiting : Queue)
    → waiting ≡ queue_of (waiting_of queue ++ records_of (λ j. get_or s.begins j false) n)
    → record { served = s.found; queue = waiting } ≡ round_of n queue last stand
searched_round n queue last stand s told waiting joined =
    rw (told.found, joined, records_same (λ j. get_or s.begins j false) (joins_of n last stand) n told.begins)

-- ---- the choice as a whole

module _ (g : Geometry) (k : ℕ) (signs : List Sign) (n : ℕ) (queue : Queue) (last : ℕ) (store image sram : List ℕ) where
  abbrev known : Known
  known = known_of g k signs n queue last store image sram

  -- nobody is served from the queue: as the search round the list has it
  pub by_round : (full : Bool) → full_of known ≡ full → from_queue_of known ≡ false → (choice : Choice)
      → choice ≡ round_of n queue last (stands_of g signs queue full store image sram) → choice ≡ choice_of known
  unfolding served_of waiters_of stand_of
  by_round full ef none choice e = e ∙ rw (none, ← ef)

  -- the first in the queue that can be served, and the queue without it
  pub by_queue : from_queue_of known ≡ true → (p : ℕ) → p ≡ ready_of known → p < queue.count
      → record { served = get_or queue.numbers p 0; queue = without_of queue p } ≡ choice_of known
  unfolding served_of waiters_of without_of
  by_queue some p e l = rw (some, ← e, entry_is queue.numbers queue.count p l)

  pub full_none : full_of known ≡ true → from_queue_of known ≡ false
  full_none e = rw e

  pub ready_none : (p : ℕ) → p ≡ ready_of known → queue.count ≤ p → from_queue_of known ≡ false
  ready_none p e l =
      rw (← e, le-ltb p (length (waiting_of queue)) (omega (arith, l, entries_length queue.numbers queue.count))) (and-false (not (full_of known)))

  pub ready_some : full_of known ≡ false → (p : ℕ) → p ≡ ready_of known → p < queue.count → from_queue_of known ≡ true
  ready_some ef p e l = rw (ef, ← e, lt-ltb p (length (waiting_of queue)) (omega (arith, l, entries_length queue.numbers queue.count)))
