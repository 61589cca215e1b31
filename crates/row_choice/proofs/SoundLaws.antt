-- A queue of different records below n: it has at most n entries, and after a call it is one again, without the one that is served. Assumes nothing.
use mathlib.Core.Path.{◌≡◌, refl, sym, ◌∙◌}
use mathlib.Core.Bool.{Bool, true, false, not, ◌&&◌}
use mathlib.Core.List.{List, ◌++◌}
use mathlib.Core.Logic.{◌⊎◌, inl, inr}
use Prim.Native.Nat.{ℕ, zero, suc, ◌+◌, ◌-◌, ◌≤◌, ◌<◌}
use native.Mathlib.Decide.{dec_le, dec_lt}
use native.Mathlib.Omega.{arith}
use lib.Dec.{ltb}
use lib.ListN.{length, get_or, length-append, get_or-append}
use borrow.Author.Tests.{not-true}
use Rattle.words.proofs.BitLaws.{true_not_false}
use Rattle.words.proofs.PickLaws.{and_both}
use Rattle.words.specs.Lists.{In}
use Rattle.row_signs.specs.Signs.{left_of, waits_of}
use Rattle.row_choice.specs.Choice.{Known, count_of, records_of, before_of, ready_of, from_queue_of, open_of, held_of}
use Rattle.row_choice.specs.Choice.{found_of, begins_of, served_of, waiters_of}
use Rattle.row_choice.proofs.PlaceLaws.{after_seam, place_of, left_one_fewer, left_at}
use Rattle.row_choice.proofs.RecordsLaws.{records_count, records_rising}
use Rattle.row_choice.proofs.WaitsLaws.{waits_in_lem, not_waits, in_either}
use Rattle.row_choice.proofs.ServedLaws.{FromQueue, Taken, from_queue, from_list, nobody_leaves}

-- each entry is one of the first n records, and none is there twice
pub record Sound (waiting : List ℕ) (n : ℕ) : Type 0 where
  pub below : (p : ℕ) → p < length waiting → get_or waiting p 0 < n
  pub apart : (p q : ℕ) → p < q → q < length waiting → get_or waiting p 0 ≡ get_or waiting q 0 → ⊥

-- a record is at one place only
one_place : (l : List ℕ) (n p q : ℕ) → Sound l n → p < length l → q < length l → get_or l p 0 ≡ get_or l q 0 → p ≡ q
one_place l n p q s a b e = go (dec_lt p q) (dec_lt q p)
  where
    go : Dec (p < q) → Dec (q < p) → p ≡ q
    go (yes less) other = absurd (s.apart p q less b e)
    go (no less) (yes more) = absurd (s.apart q p more a (sym e))
    go (no less) (no more) = omega arith

-- ---- one leaves

left_sound : (l : List ℕ) (n m i : ℕ) → Sound l n → i < length l → ((p : ℕ) → p < length l → (p ≡ i → ⊥) → get_or l p 0 < m) → Sound (left_of l i) m
left_sound l n m i s inside rest =
    record {
      below = λ p h. rw (left_at l i inside p) (rest (place_of i p) (omega (arith, left_one_fewer l i inside)) (omega arith));
      apart = λ p q less h e. s.apart (place_of i p) (place_of i q) (omega arith) (omega (arith, left_one_fewer l i inside))
          (sym (left_at l i inside p) ∙ e ∙ left_at l i inside q);
    }

-- ---- so there are at most n

-- where the last record doesn't wait
without_none : (l : List ℕ) (n : ℕ) → Sound l (suc n) → waits_of l n ≡ false → Sound l n
without_none l n s h =
    record {
      below = λ p inside. let other : get_or l p 0 ≡ n → ⊥ = not_waits l n p h inside in omega (arith, s.below p inside, other);
      apart = s.apart;
    }

-- and where it does, without it
without_it : (l : List ℕ) (n i : ℕ) → Sound l (suc n) → i < length l → get_or l i 0 ≡ n → Sound (left_of l i) n
without_it l n i s inside e = left_sound l (suc n) n i s inside rest
  where
    rest : (p : ℕ) → p < length l → (p ≡ i → ⊥) → get_or l p 0 < n
    rest p h other =
        let new : get_or l p 0 ≡ n → ⊥ = λ same. other (one_place l (suc n) p i s h inside (same ∙ sym e)) in
        omega (arith, s.below p h, new)

pub sound_length : (l : List ℕ) (n : ℕ) → Sound l n → length l ≤ n
sound_length l zero s = go (dec_le (length l) 0)
  where
    go : Dec (length l ≤ 0) → length l ≤ 0
    go (yes h) = h
    go (no h) = let none : get_or l 0 0 < 0 = s.below 0 (omega arith) in absurd (omega arith)
sound_length l (suc n) s = go (waits_of l n) refl (λ k t. sound_length k n t)
  where
    go : (t : Bool) → waits_of l n ≡ t → ((k : List ℕ) → Sound k n → length k ≤ n) → length l ≤ suc n
    go true e shorter =
        let w = waits_in_lem l n e in
        omega (arith, shorter (left_of l w.at) (without_it l n w.at s w.inside w.is), left_one_fewer l w.at w.inside)
    go false e shorter = omega (arith, shorter l (without_none l n s e))

-- ---- others join

module _ (l m : List ℕ) (n : ℕ) (s : Sound l n) (t : Sound m n)
    (others : (p q : ℕ) → p < length l → q < length m → get_or l p 0 ≡ get_or m q 0 → ⊥) where
  longer : length (l ++ m) ≡ length l + length m
  longer = length-append l m

  joined_below : (p : ℕ) → p < length (l ++ m) → get_or (l ++ m) p 0 < n
  joined_below p inside = go (dec_lt p (length l))
    where
      go : Dec (p < length l) → get_or (l ++ m) p 0 < n
      go (yes before) = rw (get_or-append l m 0 p before) (s.below p before)
      go (no after) = rw (after_seam l m p (omega arith)) (t.below (p - length l) (omega (arith, longer)))

  joined_apart : (p q : ℕ) → p < q → q < length (l ++ m) → get_or (l ++ m) p 0 ≡ get_or (l ++ m) q 0 → ⊥
  joined_apart p q less inside e = go (dec_lt p (length l)) (dec_lt q (length l))
    where
      go : Dec (p < length l) → Dec (q < length l) → ⊥
      go first (yes before) =
          s.apart p q less before (sym (get_or-append l m 0 p (omega arith)) ∙ e ∙ get_or-append l m 0 q before)
      go (yes before) (no after) =
          others p (q - length l) before (omega (arith, longer)) (sym (get_or-append l m 0 p before) ∙ e ∙ after_seam l m q (omega arith))
      go (no first) (no after) =
          t.apart (p - length l) (q - length l) (omega arith) (omega (arith, longer))
          (sym (after_seam l m p (omega arith)) ∙ e ∙ after_seam l m q (omega arith))

  joined_sound : Sound (l ++ m) n
  joined_sound = record { below = joined_below; apart = joined_apart }

records_sound : (p : ℕ → Bool) (n : ℕ) → Sound (records_of p n) n
records_sound p n =
    let r = records_rising p n in
    record { below = r.below; apart = λ i j less inside e. let up = r.rising i j less inside in omega (arith, up, e) }

-- those that don't wait join
begin_sound : (l : List ℕ) (p : ℕ → Bool) (n : ℕ) → Sound l n → ((j : ℕ) → j < n → p j ≡ true → waits_of l j ≡ false) → Sound (l ++ records_of p n) n
begin_sound l p n s new =
    joined_sound l (records_of p n) n s (records_sound p n)
    (λ i j inside h e.
    let r = records_rising p n in
    not_waits l (get_or (records_of p n) j 0) i (new (get_or (records_of p n) j 0) (r.below j h) (r.holds j h)) inside e)

-- and there is room for them
pub begin_room : (l : List ℕ) (p : ℕ → Bool) (n : ℕ) → Sound l n → ((j : ℕ) → j < n → p j ≡ true → waits_of l j ≡ false) → length l + count_of p n ≤ n
begin_room l p n s new =
    omega (arith, sound_length (l ++ records_of p n) n (begin_sound l p n s new), length-append l (records_of p n), records_count p n)

-- ---- a call

-- one that begins to wait did not wait, and its turn would set WR while K or more are set
module _ (r : Known) (j : ℕ) (h : begins_of r j ≡ true) where
  begins_both : (open_of r j ≡ true) × (held_of r j ≡ true)
  begins_both = and_both (open_of r j) (held_of r j) (and_both (ltb (before_of r.n r.last j) (found_of r)) (open_of r j && held_of r j) h).1

  pub begins_new : waits_of r.waiting j ≡ false
  begins_new = not-true (waits_of r.waiting j) (and_both (r.can j) (not (waits_of r.waiting j)) begins_both.0).1

  pub begins_held : held_of r j ≡ true
  begins_held = begins_both.1

-- one of those that join begins to wait
pub joins_begins : (r : Known) (j : ℕ) → In (records_of (begins_of r) r.n) j → begins_of r j ≡ true
joins_begins r j w = rw w.is at ((records_rising (begins_of r) r.n).holds w.at w.inside)

pub waiters_sound : (r : Known) → Sound r.waiting r.n → Sound (waiters_of r) r.n
waiters_sound r s = go (from_queue_of r) refl
  where
    go : (t : Bool) → from_queue_of r ≡ t → Sound (waiters_of r) r.n
    go true e =
        let q = from_queue r e in
        rw q.left (left_sound r.waiting r.n r.n (ready_of r) s q.ready (λ p inside other. s.below p inside))
    go false e = rw (nobody_leaves r e) (begin_sound r.waiting (begins_of r) r.n s (λ j l. begins_new r j))

-- ---- the one that is served does not wait then

-- it left the queue
left_gone : (r : Known) → Sound r.waiting r.n → FromQueue r → In (left_of r.waiting (ready_of r)) (served_of r) → ⊥
left_gone r s q w =
    let i = ready_of r in
    let inside : place_of i w.at < length r.waiting = omega (arith, left_one_fewer r.waiting i q.ready, w.inside) in
    let same : place_of i w.at ≡ i =
    one_place r.waiting r.n (place_of i w.at) i s inside q.ready
    (sym (left_at r.waiting i q.ready w.at) ∙ w.is ∙ q.served) in
    omega (arith, same)

-- or it did not wait, and is not held back
list_gone : (r : Known) → Taken r (served_of r) → (In r.waiting (served_of r)) ⊎ (In (records_of (begins_of r) r.n) (served_of r)) → ⊥
list_gone r f (inl w) = not_waits r.waiting (served_of r) w.at f.free w.inside w.is
list_gone r f (inr w) = true_not_false (sym (begins_held r (served_of r) (joins_begins r (served_of r) w)) ∙ f.held)

pub served_gone : (r : Known) → Sound r.waiting r.n → served_of r < r.n → waits_of (waiters_of r) (served_of r) ≡ true → ⊥
served_gone r s inside waits = go (from_queue_of r) refl
  where
    go : (t : Bool) → from_queue_of r ≡ t → ⊥
    go true e = let q = from_queue r e in left_gone r s q (waits_in_lem _ (served_of r) (rw q.left at waits))
    go false e =
        list_gone r (from_list r e inside)
        (in_either r.waiting (records_of (begins_of r) r.n) (served_of r) (waits_in_lem _ (served_of r) (rw (nobody_leaves r e) at waits)))
