-- The sign that is served can be served, and sets WR only with fewer than K set. With fewer than K set and one in the queue that can be served it is the
-- first of these. Assumes nothing.
use mathlib.Core.Path.{◌≡◌, refl}
use mathlib.Core.Bool.{Bool, true, false, not, ◌&&◌}
use mathlib.Core.List.{◌++◌}
use Prim.Native.Nat.{ℕ, ◌≤◌, ◌<◌}
use native.Mathlib.Omega.{arith}
use native.Mathlib.Decide.{dec_le}
use lib.Dec.{ltb}
use lib.ListN.{length, get_or}
use borrow.Author.Tests.{ltb-true, lt-ltb, leb-false, lt-leb, not-true}
use Rattle.words.specs.Word.{pick}
use Rattle.words.proofs.BitLaws.{true_not_false}
use Rattle.words.proofs.PickLaws.{and_both}
use Rattle.words.proofs.FirstLaws.{First, first_below}
use Rattle.row_signs.specs.Signs.{left_of, waits_of}
use Rattle.row_choice.specs.Choice.{Known, met_of, full_of, ready_of, from_queue_of, open_of, held_of, found_of, begins_of, records_of, served_of, waiters_of}

-- ---- it comes from the queue

pub record FromQueue (r : Known) : Type 0 where
  pub room : r.set < r.k
  pub ready : ready_of r < length r.waiting
  pub served : served_of r ≡ get_or r.waiting (ready_of r) 0
  pub left : waiters_of r ≡ left_of r.waiting (ready_of r)

pub from_queue : (r : Known) → from_queue_of r ≡ true → FromQueue r
unfolding served_of waiters_of
from_queue r h =
    let both = and_both (not (full_of r)) (ltb (ready_of r) (length r.waiting)) h in
    record {
      room = leb-false r.k r.set (not-true (full_of r) both.0);
      ready = ltb-true (ready_of r) (length r.waiting) both.1;
      served = rw h refl;
      left = rw h refl;
    }

-- it is the first there that can be served
pub ready_first : (r : Known) → First (λ p. r.can (get_or r.waiting p 0)) (length r.waiting) (ready_of r)
ready_first r = first_below (λ p. r.can (get_or r.waiting p 0)) (length r.waiting)

-- none that can be served is before it
pub ready_before : (r : Known) (p : ℕ) → r.can (get_or r.waiting p 0) ≡ true → ready_of r ≤ p
ready_before r p h = go (dec_le (ready_of r) p)
  where
    go : Dec (ready_of r ≤ p) → ready_of r ≤ p
    go (yes l) = l
    go (no l) = true_not_false (rw h at ((ready_first r).before p (omega arith)))

-- where one there can be served
pub queue_ready : (r : Known) (p : ℕ) → r.set < r.k → p < length r.waiting → r.can (get_or r.waiting p 0) ≡ true → from_queue_of r ≡ true
queue_ready r p room inside h =
    rw (lt-leb r.k r.set room, lt-ltb (ready_of r) (length r.waiting) (omega (arith, ready_before r p h))) refl

pub queue_serves : (r : Known) (p : ℕ) → r.set < r.k → p < length r.waiting → r.can (get_or r.waiting p 0) ≡ true → FromQueue r
queue_serves r p room inside h = from_queue r (queue_ready r p room inside h)

-- ---- or from the list

-- the search serves record j where it meets it: one that is open and isn't held back
abbrev pub takes_of : Known → ℕ → Bool
takes_of r j = open_of r j && not (held_of r j)

pub record Taken (r : Known) (j : ℕ) : Type 0 where
  pub can : r.can j ≡ true
  pub free : waits_of r.waiting j ≡ false
  pub held : held_of r j ≡ false

pub taken : (r : Known) (j : ℕ) → takes_of r j ≡ true → Taken r j
taken r j h =
    let both = and_both (open_of r j) (not (held_of r j)) h in
    let ready = and_both (r.can j) (not (waits_of r.waiting j)) both.0 in
    record { can = ready.0; free = not-true (waits_of r.waiting j) ready.1; held = not-true (held_of r j) both.1 }

-- the one that it finds is the first of these
pub found_first : (r : Known) → First (λ i. takes_of r (met_of r.n r.last i)) r.n (found_of r)
found_first r = first_below (λ i. takes_of r (met_of r.n r.last i)) r.n

pub search_serves : (r : Known) → from_queue_of r ≡ false → served_of r ≡ pick (ltb (found_of r) r.n) (met_of r.n r.last (found_of r)) r.n
unfolding served_of
search_serves r h = rw h refl

pub from_list : (r : Known) → from_queue_of r ≡ false → served_of r < r.n → Taken r (served_of r)
from_list r h inside = go (ltb (found_of r) r.n) refl
  where
    go : (t : Bool) → ltb (found_of r) r.n ≡ t → Taken r (served_of r)
    go true e =
        let same : served_of r ≡ met_of r.n r.last (found_of r) = rw e at (search_serves r h) in
        rw same (taken r (met_of r.n r.last (found_of r)) ((found_first r).found (ltb-true (found_of r) r.n e)))
    go false e = let same : served_of r ≡ r.n = rw e at (search_serves r h) in absurd (omega (arith, same))

-- ---- in both cases

pub served_can : (r : Known) → served_of r < r.n → r.can (served_of r) ≡ true
served_can r inside = go (from_queue_of r) refl
  where
    go : (t : Bool) → from_queue_of r ≡ t → r.can (served_of r) ≡ true
    go true e = let q = from_queue r e in rw q.served ((ready_first r).found q.ready)
    go false e = (from_list r e inside).can

-- "whose turn would set WR while K or more are set"
pub served_sets_room : (r : Known) → served_of r < r.n → r.sets (served_of r) ≡ true → r.set < r.k
served_sets_room r inside sets = go (from_queue_of r) refl
  where
    go : (t : Bool) → from_queue_of r ≡ t → r.set < r.k
    go true e = (from_queue r e).room
    go false e = leb-false r.k r.set (rw sets at (from_list r e inside).held)

-- ---- else nobody leaves the queue

pub nobody_leaves : (r : Known) → from_queue_of r ≡ false → waiters_of r ≡ r.waiting ++ records_of (begins_of r) r.n
unfolding waiters_of
nobody_leaves r h = rw h refl
