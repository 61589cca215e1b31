-- One window. Where it is shorter than the week, the minute after its last is not held, so a duration fits where it ends within the length,
-- counted from the start. The least wait is then 0, or up to the window's next first minute, or none fits.
-- Assumes nothing.
use mathlib.Core.Path.{◌≡◌}
use mathlib.Core.Bool.{true, false}
use Prim.Native.Nat.{ℕ, ◌+◌, ◌-◌, ◌%◌, ◌≤◌, ◌<◌}
use native.Mathlib.Decide.{dec_le}
use native.Mathlib.Nat.{mod-lt}
use native.Mathlib.Omega.{arith}
use borrow.Author.Tests.{lt-ltb, le-ltb}
use Rattle.words.specs.Word.{all_below}
use Rattle.words.proofs.PickLaws.{all_hold, not_all_below}
use Rattle.planner.specs.Windows.{week, window, held_of}
use Rattle.planner.specs.Planner.{fits_in_of}
use Rattle.words.proofs.FirstLaws.{First}

-- how many minutes a minute comes after a window's start
abbrev pub offset : ℕ → ℕ → ℕ
offset start minute = (minute + (week - start)) % week

-- "One of 10,080 holds every minute"
every_minute : (start minute : ℕ) → held_of (window start week) minute ≡ true
unfolding held_of
every_minute start minute = lt-ltb _ _ (mod-lt (minute + (week - start)) (omega arith))

-- k minutes later, before the start comes again
later : (start minute k : ℕ) → offset start minute + k < week → offset start ((minute + k) % week) ≡ offset start minute + k
later start minute k l = omega arith

held : (start length minute k : ℕ) → length < week → offset start minute + k < length → held_of (window start length) ((minute + k) % week) ≡ true
unfolding held_of
held start length minute k short l = rw (later start minute k (omega arith)) (lt-ltb _ _ l)

not_held : (start length minute k : ℕ) → offset start minute + k < week → length ≤ offset start minute + k
    → held_of (window start length) ((minute + k) % week) ≡ false
unfolding held_of
not_held start length minute k round l = rw (later start minute k round) (le-ltb _ _ l)

-- the minutes between
pub its_minutes : (start length k : ℕ) → start < week → length ≤ week → k < length → held_of (window start length) ((start + k) % week) ≡ true
unfolding held_of
its_minutes start length k starts most l = let e : offset start ((start + k) % week) ≡ k = omega arith in rw e (lt-ltb k length l)

module _ (start length minute duration : ℕ) (short : length < week) (some : 1 ≤ duration) (wait : ℕ) where
  fits_within : offset start (minute + wait) + duration ≤ length → fits_in_of minute duration (window start length) wait ≡ true
  unfolding fits_in_of
  fits_within l = all_hold _ duration (λ k h. held start length (minute + wait) k short (omega arith))

  -- a minute that is not held is among them: their first, or the one after the window's last
  fits_not : length < offset start (minute + wait) + duration → fits_in_of minute duration (window start length) wait ≡ false
  unfolding fits_in_of
  fits_not l = go (dec_le length (offset start (minute + wait)))
    where
      go : Dec (length ≤ offset start (minute + wait)) → all_below (λ (k : ℕ). held_of (window start length) ((minute + wait + k) % week)) duration ≡ false
      go (yes h) = not_all_below _ duration 0 some (not_held start length (minute + wait) 0 (omega arith) (omega arith))
      go (no h) =
          let k = length - offset start (minute + wait) in
          not_all_below _ duration k (omega arith) (not_held start length (minute + wait) k (omega arith) (omega arith))

-- ---- the least wait for one window

pub wait_whole : (start minute duration : ℕ) → First (fits_in_of minute duration (window start week)) week 0
unfolding fits_in_of
wait_whole start minute duration =
    record { within = omega arith; found = λ l. all_hold _ duration (λ k h. every_minute start _); before = λ k l. absurd (omega arith) }

module _ (start length minute duration : ℕ) (short : length < week) (some : 1 ≤ duration) where
  pub wait_none : length < duration → First (fits_in_of minute duration (window start length)) week week
  wait_none l =
      record { within = omega arith; found = λ h. absurd (omega arith); before = λ k h. fits_not start length minute duration short some k (omega arith) }

  pub wait_at_once : offset start minute + duration ≤ length → First (fits_in_of minute duration (window start length)) week 0
  wait_at_once l =
      let e : minute + 0 ≡ minute = omega arith in
      record { within = omega arith; found = λ h. fits_within start length minute duration short some 0 (rw e l); before = λ k h. absurd (omega arith) }

  pub wait_next : length < offset start minute + duration → duration ≤ length
      → First (fits_in_of minute duration (window start length)) week (week - offset start minute)
  wait_next l enough =
      record {
        within = omega arith;
        found = λ h. fits_within start length minute duration short some (week - offset start minute) (omega arith);
        before = λ k h. fits_not start length minute duration short some k (omega arith);
      }
