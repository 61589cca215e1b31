-- Where somebody can be served the choice serves somebody; and who waits after it is not served and waited before or has WR clear. Assumes nothing.
use Prim.Native.Nat.{ℕ, ◌≤◌, ◌<◌}
use mathlib.Core.Path.{◌≡◌, refl, sym, ap, ◌∙◌}
use mathlib.Core.Bool.{Bool, true, false, and-false}
use mathlib.Core.Logic.{◌⊎◌, inl, inr}
use native.Mathlib.Decide.{dec_le}
use native.Mathlib.Omega.{arith}
use lib.Dec.{ltb}
use lib.ListN.{length}
use borrow.Author.Tests.{ltb-false, lt-ltb}
use Rattle.words.proofs.BitLaws.{true_not_false}
use Rattle.words.proofs.PickLaws.{and_both}
use Rattle.words.specs.Lists.{In}
use Rattle.row_signs.specs.Signs.{left_of, waits_of}
use Rattle.row_choice.specs.Choice.{Known, records_of, met_of, before_of, full_of, ready_of, from_queue_of, found_of, begins_of, served_of, waiters_of}
use Rattle.row_choice.proofs.PlaceLaws.{place_of, left_one_fewer, left_at}
use Rattle.row_choice.proofs.RoundLaws.{met_below, before_below, met_before}
use Rattle.row_choice.proofs.SoundLaws.{Sound, begins_held, joins_begins, served_gone}
use Rattle.row_choice.proofs.ServedLaws.{FromQueue, from_queue, nobody_leaves, ready_before, takes_of, found_first, search_serves}
use Rattle.row_choice.proofs.WaitsLaws.{waits_in_lem, in_waits, in_either}

-- one that runs can be served, does not wait, and its turn does not set WR
pub record Runs (r : Known) : Type 0 where
  pub number : ℕ
  pub below : number < r.n
  pub can : r.can number ≡ true
  pub free : waits_of r.waiting number ≡ false
  pub set : r.sets number ≡ false

module _ (r : Known) (inside : r.last < r.n) (sound : Sound r.waiting r.n) where
  -- ---- somebody is served

  search_finds : from_queue_of r ≡ false → (x : ℕ) → x < r.n → takes_of r x ≡ true → served_of r < r.n
  search_finds h x below holds = go (dec_le (found_of r) (before_of r.n r.last x))
    where
      go : Dec (found_of r ≤ before_of r.n r.last x) → served_of r < r.n
      go (yes l) =
          let early : found_of r < r.n = omega (arith, l, before_below r.n r.last inside x) in
          rw (search_serves r h, lt-ltb (found_of r) r.n early) (met_below r.n r.last inside (found_of r))
      go (no l) =
          let none : takes_of r (met_of r.n r.last (before_of r.n r.last x)) ≡ false =
          (found_first r).before (before_of r.n r.last x) (omega (arith, l)) in
          true_not_false (sym holds ∙ ap (takes_of r) (sym (met_before r.n r.last inside x below)) ∙ none)

  -- K or more are set, and one that runs goes on
  full_serves : full_of r ≡ true → Runs r → served_of r < r.n
  full_serves full x =
      let nobody : from_queue_of r ≡ false = rw full refl in
      let free : takes_of r x.number ≡ true = rw (x.can, x.free, x.set) refl in
      search_finds nobody x.number x.below free

  -- fewer are: the first in the queue that can be served, or one of the list
  room_serves : full_of r ≡ false → (j : ℕ) → j < r.n → r.can j ≡ true → served_of r < r.n
  room_serves room j below can = go (ltb (ready_of r) (length r.waiting)) refl
    where
      none : ltb (ready_of r) (length r.waiting) ≡ false → (t : Bool) → waits_of r.waiting j ≡ t → waits_of r.waiting j ≡ false
      none e false h = h
      none e true h =
          let w = waits_in_lem r.waiting j h in
          let first : ready_of r ≤ w.at = ready_before r w.at (ap (λ (x : ℕ). r.can x) w.is ∙ can) in
          let past : length r.waiting ≤ ready_of r = ltb-false (ready_of r) (length r.waiting) e in
          absurd (omega (arith, first, past, w.inside))

      go : (t : Bool) → ltb (ready_of r) (length r.waiting) ≡ t → served_of r < r.n
      go true e =
          let q = from_queue r (rw (room, e) refl) in
          rw q.served (sound.below (ready_of r) q.ready)
      go false e =
          let free : takes_of r j ≡ true = rw (can, none e (waits_of r.waiting j) refl, room, and-false (r.sets j)) refl in
          search_finds (rw (room, e) refl) j below free

  pub somebody_served : (j : ℕ) → j < r.n → r.can j ≡ true → (full_of r ≡ true → Runs r) → served_of r < r.n
  somebody_served j below can full = go (full_of r) refl
    where
      go : (t : Bool) → full_of r ≡ t → served_of r < r.n
      go true e = full_serves e (full e)
      go false e = room_serves e j below can

  -- ---- who waits then

  -- j is not served, and it waited before or its turn would set WR
  pub record Waiting (j : ℕ) : Type 0 where
    pub other : served_of r < r.n → j ≡ served_of r → ⊥
    pub either : (waits_of r.waiting j ≡ true) ⊎ (r.sets j ≡ true)

  left_waited : FromQueue r → (j : ℕ) → In (left_of r.waiting (ready_of r)) j → waits_of r.waiting j ≡ true
  left_waited q j w =
      let p = place_of (ready_of r) w.at in
      in_waits r.waiting j p (omega (arith, w.inside, left_one_fewer r.waiting (ready_of r) q.ready))
      (sym (left_at r.waiting (ready_of r) q.ready w.at) ∙ w.is)

  joined_either : (j : ℕ) → (In r.waiting j) ⊎ (In (records_of (begins_of r) r.n) j) → (waits_of r.waiting j ≡ true) ⊎ (r.sets j ≡ true)
  joined_either j (inl w) = inl (in_waits r.waiting j w.at w.inside w.is)
  joined_either j (inr w) = inr (and_both (r.sets j) (full_of r) (begins_held r j (joins_begins r j w))).0

  pub waiters_wait : (j : ℕ) → waits_of (waiters_of r) j ≡ true → Waiting j
  waiters_wait j h =
      record {
        other = λ inside same. served_gone r sound inside (rw same at h);
        either = go (from_queue_of r) refl;
      }
    where
      go : (t : Bool) → from_queue_of r ≡ t → (waits_of r.waiting j ≡ true) ⊎ (r.sets j ≡ true)
      go true e = let q = from_queue r e in inl (left_waited q j (waits_in_lem _ j (rw q.left at h)))
      go false e =
          joined_either j (in_either r.waiting (records_of (begins_of r) r.n) j (waits_in_lem _ j (rw (nobody_leaves r e) at h)))
