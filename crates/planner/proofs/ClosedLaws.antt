-- A plan without a search: the least wait for each window in closed form, and the smallest of them.
-- Assumes nothing.
use mathlib.Core.Path.{◌≡◌, refl, sym, ap, ◌∙◌}
use mathlib.Core.Bool.{Bool, true, false}
use mathlib.Core.List.{List}
use Prim.Native.Nat.{ℕ, zero, suc, ◌+◌, ◌-◌, ◌≤◌, min}
use native.Mathlib.Numerals.{add-one}
use native.Mathlib.Omega.{arith}
use lib.Dec.{ltb, leb, eqb}
use borrow.Author.Tests.{ltb-true, ltb-false, leb-true, leb-false, eqb-true, eqb-false}
use Rattle.words.specs.Word.{pick}
use Rattle.words.proofs.PickLaws.{and_both}
use Rattle.planner.specs.Windows.{week, Window, window, window_count_of, window_at, window_in_range_of, windows_in_range_of, in_range_of}
use Rattle.planner.specs.Planner.{Planned, fits_in_of, least_wait_of, answer_of, plan_of}
use Rattle.words.proofs.FirstLaws.{First, first_is}
use Rattle.planner.proofs.WindowLaws.{offset, wait_whole, wait_none, wait_at_once, wait_next}
use Rattle.planner.proofs.RangeLaws.{numbers_range, window_range, inside}
use Rattle.planner.proofs.LeastLaws.{least_none, least_more}

-- by one window: 0, the whole week where no wait fits, or up to its next first minute
abbrev closed_at : ℕ → ℕ → Window → ℕ
closed_at minute duration w =
    pick (eqb w.length week) 0
    (pick (ltb w.length duration) week
    (pick (leb (offset w.start minute + duration) w.length) 0 (week - offset w.start minute)))

-- by the first n windows
abbrev closed_below : ℕ → ℕ → List ℕ → ℕ → ℕ
closed_below minute duration lent zero = week
closed_below minute duration lent (suc n) = min (closed_below minute duration lent n) (closed_at minute duration (window_at lent n))

module _ (minute duration : ℕ) (some : 1 ≤ duration) where
  first_closed : (start length : ℕ) → length ≤ week
      → First (fits_in_of minute duration (window start length)) week (closed_at minute duration (window start length))
  first_closed start length most =
      go (eqb length week) refl (ltb length duration) refl (leb (offset start minute + duration) length) refl
    where
      go : (a : Bool) → eqb length week ≡ a → (b : Bool) → ltb length duration ≡ b → (c : Bool) → leb (offset start minute + duration) length ≡ c
          → First (fits_in_of minute duration (window start length)) week (pick a 0 (pick b week (pick c 0 (week - offset start minute))))
      go true ea b eb c ec = rw (eqb-true length week ea) (wait_whole start minute duration)
      go false ea true eb c ec = wait_none start length minute duration (omega (arith, eqb-false length week ea)) some (ltb-true _ _ eb)
      go false ea false eb true ec = wait_at_once start length minute duration (omega (arith, eqb-false length week ea)) some (leb-true _ _ ec)
      go false ea false eb false ec =
          wait_next start length minute duration (omega (arith, eqb-false length week ea)) some (leb-false _ _ ec) (ltb-false _ _ eb)

  least_closed : (lent : List ℕ) (n : ℕ) → windows_in_range_of lent n ≡ true
      → least_wait_of minute duration lent n ≡ closed_below minute duration lent n
  least_closed lent zero windows = sym (least_none minute duration lent)
  least_closed lent (suc n) windows =
      let (before, last) = and_both (windows_in_range_of lent n) (window_in_range_of (window_at lent n)) windows in
      let w = window_at lent n in
      sym (rw (add-one n) at (least_more minute duration lent n))
      ∙ rw (least_closed lent n before, first_is _ _ _ (first_closed w.start w.length (window_range w last).1))

-- the whole answer
pub plan_closed : (minute duration : ℕ) (lent : List ℕ)
    → let wait = closed_below minute duration lent (window_count_of lent) in
    plan_of minute duration lent ≡ answer_of (in_range_of minute duration lent) (ltb wait week) wait
unfolding plan_of
plan_closed minute duration lent = go (in_range_of minute duration lent) refl
  where
    answer : Bool → ℕ → Planned
    answer within wait = answer_of within (ltb wait week) wait

    go : (t : Bool) → in_range_of minute duration lent ≡ t
        → answer t (least_wait_of minute duration lent (window_count_of lent)) ≡ answer t (closed_below minute duration lent (window_count_of lent))
    go false e = refl
    go true e =
        let (numbers, windows) = inside minute duration lent e in
        ap (answer true) (least_closed minute duration (numbers_range _ _ _ numbers).1 lent (window_count_of lent) windows)
