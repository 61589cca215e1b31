-- A wait fits where all minutes lie in one of the windows, and only there, since a window that is in range holds its minutes and no others.
-- Assumes nothing.
use mathlib.Core.Path.{◌≡◌, subst}
use mathlib.Core.Bool.{true}
use mathlib.Core.List.{List}
use Prim.Native.Nat.{ℕ, ◌+◌, ◌≤◌, ◌<◌}
use native.Mathlib.Nat.{mod-lt}
use native.Mathlib.Omega.{arith}
use borrow.Author.Tests.{ltb-true}
use Rattle.words.proofs.PickLaws.{all-below, all_hold}
use Rattle.words.proofs.FirstLaws.{any_some, some_any}
use Rattle.planner.specs.Windows.{week, Window, window_count_of, window_at, held_of, windows_in_range_of}
use Rattle.planner.specs.Planner.{fits_in_of, fits_of}
use Rattle.planner.specs.PlanLaws.{Holds, InOneWindow}
use Rattle.planner.proofs.WindowLaws.{offset, its_minutes}
use Rattle.planner.proofs.RangeLaws.{window_range}

-- a window in range holds a minute of the week where the definition says so, and only there
held_holds : (w : Window) (minute : ℕ) → w.start < week → minute < week → held_of w minute ≡ true → Holds w.start w.length minute
unfolding held_of
held_holds w minute starts present h = record { after = offset w.start minute; within = ltb-true _ _ h; is = omega arith }

holds_held : (w : Window) (minute : ℕ) → w.start < week → w.length ≤ week → Holds w.start w.length minute → held_of w minute ≡ true
holds_held w minute starts most h =
    subst (λ (m : ℕ). held_of w m ≡ true) h.is (its_minutes w.start w.length h.after starts most h.within)

module _ (minute duration : ℕ) (lent : List ℕ) (wait : ℕ) (windows : windows_in_range_of lent (window_count_of lent) ≡ true) where
  ranged : (i : ℕ) → i < window_count_of lent → ((window_at lent i).start < week) × ((window_at lent i).length ≤ week)
  ranged i l = window_range (window_at lent i) (all-below _ (window_count_of lent) windows i l)

  pub fits_one : fits_of minute duration lent (window_count_of lent) wait ≡ true → InOneWindow minute duration lent wait
  unfolding fits_in_of
  fits_one h =
      let s = any_some (λ (i : ℕ). fits_in_of minute duration (window_at lent i) wait) (window_count_of lent) h in
      let below : s.number < window_count_of lent = s.below in
      record {
        number = s.number;
        listed = omega (arith, below);
        held = λ k l.
            held_holds (window_at lent s.number) _ (ranged s.number below).0 (mod-lt (minute + wait + k) (omega arith))
            (all-below _ duration s.holds k l);
      }

  pub one_fits : InOneWindow minute duration lent wait → fits_of minute duration lent (window_count_of lent) wait ≡ true
  unfolding fits_in_of
  one_fits one =
      let n = one.number in
      let inside : n < window_count_of lent = omega (arith, one.listed) in
      let (starts, most) = ranged n inside in
      some_any (λ (i : ℕ). fits_in_of minute duration (window_at lent i) wait) (window_count_of lent) n inside
      (all_hold _ duration (λ k l. holds_held (window_at lent n) _ starts most (one.held k l)))
