-- The answers of a plan, by which of the two tests holds, and what they tell: the search stops at the first wait that fits.
-- Assumes nothing.
use mathlib.Core.Path.{◌≡◌, refl, sym, ap, ◌∙◌}
use Rattle.std.specs.Prelude.{Ok, Err}
use mathlib.Core.Bool.{Bool, true, false}
use mathlib.Core.List.{List}
use mathlib.Core.Logic.{◌⊎◌, inl, inr}
use Prim.Native.Nat.{ℕ, ◌≤◌, ◌<◌}
use native.Mathlib.Decide.{dec_lt}
use native.Mathlib.Omega.{arith}
use lib.Dec.{ltb}
use lib.ListN.{length}
use borrow.Author.Tests.{ltb-true, ltb-false, lt-ltb, le-ltb}
use Rattle.words.specs.declared.decline.Decline.{Decline}
use Rattle.words.specs.Decline.{number_of}
use Rattle.words.proofs.BitLaws.{true_not_false}
use Rattle.planner.specs.Windows.{week, window_count_of, windows_in_range_of, numbers_in_range_of, in_range_of}
use Rattle.planner.specs.Planner.{Planned, fits_of, least_wait_of, planned, answer_of, plan_of}
use Rattle.planner.specs.PlanLaws.{InRange, InOneWindow, Plans}
use Rattle.words.proofs.FirstLaws.{first_below}
use Rattle.planner.proofs.FitLaws.{fits_one, one_fits}
use Rattle.planner.proofs.RangeLaws.{all_in, inside, facts, tested}

module _ (minute duration : ℕ) (lent : List ℕ) where
  pub plan_out : in_range_of minute duration lent ≡ false → planned (Err Decline.Hours) 0 ≡ plan_of minute duration lent
  unfolding plan_of
  plan_out out = rw out

  -- every window is judged, and the wait is the least by all
  module _ (i wait : ℕ) (count : i ≤ window_count_of lent) (ended : window_count_of lent ≤ i)
      (numbers : numbers_in_range_of minute duration (length lent) ≡ true) (windows : windows_in_range_of lent i ≡ true)
      (least : wait ≡ least_wait_of minute duration lent i) where
    pub plan_none : week ≤ wait → planned (Err Decline.NoWait) 0 ≡ plan_of minute duration lent
    unfolding plan_of
    plan_none l =
        let every : i ≡ window_count_of lent = omega arith in
        rw (all_in minute duration lent numbers (rw every at windows), ← every, ← least, le-ltb wait week l)

    pub plan_found : wait < week → planned (Ok tt) wait ≡ plan_of minute duration lent
    unfolding plan_of
    plan_found l =
        let every : i ≡ window_count_of lent = omega arith in
        rw (all_in minute duration lent numbers (rw every at windows), ← every, ← least, lt-ltb wait week l)

-- ---- back from the number of the answer to the tests

abbrev numbered : Bool → Bool → ℕ → ℕ
numbered within fits wait = number_of (answer_of within fits wait).decline

is-accepted : (within fits : Bool) (wait : ℕ) → numbered within fits wait ≡ 0 → (within ≡ true) × (fits ≡ true)
is-accepted true true wait h = (refl, refl)
is-accepted true false wait h = absurd (omega (arith, h))
is-accepted false fits wait h = absurd (omega (arith, h))

is_no_wait : (within fits : Bool) (wait : ℕ) → numbered within fits wait ≡ 16 → (within ≡ true) × (fits ≡ false)
is_no_wait true false wait h = (refl, refl)
is_no_wait true true wait h = absurd (omega (arith, h))
is_no_wait false fits wait h = absurd (omega (arith, h))

is_hours : (within fits : Bool) (wait : ℕ) → numbered within fits wait ≡ 15 → within ≡ false
is_hours false fits wait h = refl
is_hours true true wait h = absurd (omega (arith, h))
is_hours true false wait h = absurd (omega (arith, h))

one_of_three : (within fits : Bool) (wait : ℕ) → let n = numbered within fits wait in (n ≡ 0) ⊎ ((n ≡ 15) ⊎ (n ≡ 16))
one_of_three true true wait = inl refl
one_of_three true false wait = inr (inr refl)
one_of_three false fits wait = inr (inl refl)

declined_wait : (within fits : Bool) (wait : ℕ) → (numbered within fits wait ≡ 0 → ⊥) → (answer_of within fits wait).wait ≡ 0
declined_wait true true wait h = absurd (h refl)
declined_wait true false wait h = refl
declined_wait false fits wait h = refl

module _ (minute duration : ℕ) (lent : List ℕ) where
  abbrev fits : ℕ → Bool
  fits = fits_of minute duration lent (window_count_of lent)

  abbrev first : ℕ
  first = least_wait_of minute duration lent (window_count_of lent)

  abbrev number : ℕ
  number = number_of (plan_of minute duration lent).decline

  -- the answer where the numbers are in range and the first wait that fits is below the week
  found : in_range_of minute duration lent ≡ true → first < week → planned (Ok tt) first ≡ plan_of minute duration lent
  unfolding plan_of
  found range l = rw (range, lt-ltb first week l)

  -- before the first wait that fits, the minutes lie in no window
  none_before : in_range_of minute duration lent ≡ true → (wait : ℕ) → wait < first → InOneWindow minute duration lent wait → ⊥
  none_before range wait l one =
      let (numbers, windows) = inside minute duration lent range in
      true_not_false (sym (one_fits minute duration lent wait windows one) ∙ (first_below fits week).before wait l)

  accepted : InRange minute duration lent → (wait : ℕ) → wait < week → InOneWindow minute duration lent wait → number ≡ 0
  accepted r wait l one = go (dec_lt first week)
    where
      range : in_range_of minute duration lent ≡ true
      range = tested minute duration lent r

      go : Dec (first < week) → number ≡ 0
      go (yes below) = ap (λ (p : Planned). number_of p.decline) (sym (found range below))
      go (no above) = absurd (none_before range wait (omega arith) one)

  smallest : number ≡ 0
      → let wait = (plan_of minute duration lent).wait in
      (wait < week) × InOneWindow minute duration lent wait × ((less : ℕ) → less < wait → InOneWindow minute duration lent less → ⊥)
  unfolding plan_of
  smallest h =
      let (range, below) = is-accepted (in_range_of minute duration lent) (ltb first week) first h in
      let (numbers, windows) = inside minute duration lent range in
      let l : first < week = ltb-true first week below in
      let e : (plan_of minute duration lent).wait ≡ first = ap (λ (p : Planned). p.wait) (sym (found range l)) in
      rw e (l, fits_one minute duration lent first windows ((first_below fits week).found l), none_before range)

  no_wait : number ≡ 16 → (wait : ℕ) → wait < week → InOneWindow minute duration lent wait → ⊥
  unfolding plan_of
  no_wait h wait l =
      let (range, none) = is_no_wait (in_range_of minute duration lent) (ltb first week) first h in
      none_before range wait (omega (arith, ltb-false first week none))

  only_then : number ≡ 15 → InRange minute duration lent → ⊥
  unfolding plan_of
  only_then h r =
      true_not_false (sym (tested minute duration lent r) ∙ is_hours (in_range_of minute duration lent) (ltb first week) first h)

  out_of_range : (InRange minute duration lent → ⊥) → number ≡ 15
  out_of_range out = go (in_range_of minute duration lent) refl
    where
      go : (t : Bool) → in_range_of minute duration lent ≡ t → number ≡ 15
      go true e = absurd (out (facts minute duration lent e))
      go false e = ap (λ (p : Planned). number_of p.decline) (sym (plan_out minute duration lent e))

  answered : (number ≡ 0) ⊎ ((number ≡ 15) ⊎ (number ≡ 16))
  unfolding plan_of
  answered = one_of_three (in_range_of minute duration lent) (ltb first week) first

  beside : (number ≡ 0 → ⊥) → (plan_of minute duration lent).wait ≡ 0
  unfolding plan_of
  beside = declined_wait (in_range_of minute duration lent) (ltb first week) first

  pub plans : Plans minute duration lent (plan_of minute duration lent)
  plans =
      record {
        answered = answered;
        accepted = accepted;
        smallest = smallest;
        no_wait = no_wait;
        out_of_range = out_of_range;
        only_then = only_then;
        beside = beside;
      }
