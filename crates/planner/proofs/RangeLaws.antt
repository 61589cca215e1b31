-- What decline 15 tells of the numbers of a plan.
-- Assumes nothing.
use mathlib.Core.Path.{◌≡◌}
use mathlib.Core.Bool.{true, ◌&&◌}
use mathlib.Core.List.{List}
use Prim.Native.Nat.{ℕ, ◌/◌, ◌%◌, ◌≤◌, ◌<◌}
use native.Mathlib.Omega.{arith}
use lib.Dec.{ltb, leb, eqb}
use lib.ListN.{length}
use borrow.Author.Tests.{ltb-true, leb-true, eqb-true, lt-ltb, le-leb, eq-eqb}
use Rattle.words.proofs.PickLaws.{and_both, all-below, all_hold}
use Rattle.planner.specs.Windows.{week, Window, window_count_of, window_at, window_in_range_of, windows_in_range_of, numbers_in_range_of, in_range_of}
use Rattle.planner.specs.PlanLaws.{InRange}

pub numbers_range : (minute duration numbers : ℕ) → numbers_in_range_of minute duration numbers ≡ true
    → (minute < week) × (1 ≤ duration) × (duration ≤ 1440)
unfolding numbers_in_range_of
numbers_range minute duration numbers h =
    let windows = eqb (numbers % 2) 0 && (leb 1 (numbers / 2) && leb (numbers / 2) 14) in
    let first = and_both (ltb minute week) (leb 1 duration && (leb duration 1440 && windows)) h in
    let second = and_both (leb 1 duration) (leb duration 1440 && windows) first.1 in
    let third = and_both (leb duration 1440) windows second.1 in
    (ltb-true _ _ first.0, leb-true _ _ second.0, leb-true _ _ third.0)

-- the windows: an even count of numbers, two for each of 1 to 14
counts_range : (minute duration numbers : ℕ) → numbers_in_range_of minute duration numbers ≡ true → (numbers % 2 ≡ 0) × (1 ≤ numbers / 2) × (numbers / 2 ≤ 14)
unfolding numbers_in_range_of
counts_range minute duration numbers h =
    let some = leb 1 (numbers / 2) && leb (numbers / 2) 14 in
    let first = and_both (ltb minute week) (leb 1 duration && (leb duration 1440 && (eqb (numbers % 2) 0 && some))) h in
    let second = and_both (leb 1 duration) (leb duration 1440 && (eqb (numbers % 2) 0 && some)) first.1 in
    let third = and_both (leb duration 1440) (eqb (numbers % 2) 0 && some) second.1 in
    let fourth = and_both (eqb (numbers % 2) 0) some third.1 in
    let fifth = and_both (leb 1 (numbers / 2)) (leb (numbers / 2) 14) fourth.1 in
    (eqb-true _ _ fourth.0, leb-true _ _ fifth.0, leb-true _ _ fifth.1)

window_some : (w : Window) → window_in_range_of w ≡ true → 1 ≤ w.length
unfolding window_in_range_of
window_some w h =
    let first = and_both (ltb w.start week) (leb 1 w.length && leb w.length week) h in
    leb-true _ _ (and_both (leb 1 w.length) (leb w.length week) first.1).0

pub window_range : (w : Window) → window_in_range_of w ≡ true → (w.start < week) × (w.length ≤ week)
unfolding window_in_range_of
window_range w h =
    let first = and_both (ltb w.start week) (leb 1 w.length && leb w.length week) h in
    let second = and_both (leb 1 w.length) (leb w.length week) first.1 in
    (ltb-true _ _ first.0, leb-true _ _ second.1)

module _ (minute duration : ℕ) (lent : List ℕ) where
  pub all_in : numbers_in_range_of minute duration (length lent) ≡ true → windows_in_range_of lent (window_count_of lent) ≡ true
      → in_range_of minute duration lent ≡ true
  unfolding in_range_of
  all_in numbers all = rw (numbers, all)

  pub inside : in_range_of minute duration lent ≡ true
      → (numbers_in_range_of minute duration (length lent) ≡ true) × (windows_in_range_of lent (window_count_of lent) ≡ true)
  unfolding in_range_of
  inside h = and_both (numbers_in_range_of minute duration (length lent)) (windows_in_range_of lent (window_count_of lent)) h

  -- ---- the same as facts
  pub facts : in_range_of minute duration lent ≡ true → InRange minute duration lent
  facts h =
      let (numbers, windows) = inside h in
      let (present, some, most) = numbers_range minute duration (length lent) numbers in
      let (even, low, high) = counts_range minute duration (length lent) numbers in
      let each = all-below (λ (i : ℕ). window_in_range_of (window_at lent i)) (window_count_of lent) windows in
      record {
        present = present;
        some = some;
        most = most;
        count = window_count_of lent;
        numbers = omega (arith, even);
        at_least = low;
        at_most = high;
        starts = λ i l. (window_range (window_at lent i) (each i l)).0;
        lengths = λ i l. (window_some (window_at lent i) (each i l), (window_range (window_at lent i) (each i l)).1);
      }

  pub tested : InRange minute duration lent → in_range_of minute duration lent ≡ true
  unfolding numbers_in_range_of window_in_range_of
  tested r =
      let half : window_count_of lent ≡ r.count = omega (arith, r.numbers) in
      let even : length lent % 2 ≡ 0 = omega (arith, r.numbers) in
      all_in
      (rw (
        lt-ltb minute week r.present,
        le-leb 1 duration r.some,
        le-leb duration 1440 r.most,
        eq-eqb (length lent % 2) 0 even,
        half,
        le-leb 1 r.count r.at_least,
        le-leb r.count 14 r.at_most,
      ))
      (all_hold _ (window_count_of lent)
      (λ i l.
      let below : i < r.count = omega (arith, l, half) in
      let (some, most) = r.lengths i below in
      rw (lt-ltb _ week (r.starts i below), le-leb 1 _ some, le-leb _ week most)))
