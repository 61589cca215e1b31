-- W-201, "Garage hours": what is asked of the answer to a plan, and that this fixes it. Assumes nothing.
use Rattle.std.specs.Prelude.{ℕ, ◌+◌, ◌*◌, ◌%◌, ◌≤◌, ◌<◌, ◌≡◌, List, ◌⊎◌, length, get_or}
use Rattle.words.specs.Decline.{number_of}
use Rattle.planner.specs.Planner.{Planned, plan_of}

-- "any of these numbers", all of them in range
pub record InRange (minute duration : ℕ) (lent : List ℕ) : Type 0 where
  -- "A week has minutes 0 to 10,079"
  pub present : minute < 10080
  -- "a duration of 1 to 1,440 minutes"
  pub some : 1 ≤ duration
  pub most : duration ≤ 1440
  -- "There are 1 to 14 windows.": two numbers for each, and an odd count of numbers is out of range (ours)
  pub count : ℕ
  pub numbers : length lent ≡ 2 * count
  pub at_least : 1 ≤ count
  pub at_most : count ≤ 14
  -- "A window has a start minute and a length of 1 to 10,080"
  pub starts : (i : ℕ) → i < count → get_or lent (2 * i) 0 < 10080
  pub lengths : (i : ℕ) → i < count → (1 ≤ get_or lent (2 * i + 1) 0) × (get_or lent (2 * i + 1) 0 ≤ 10080)

-- "One of 10,080 holds every minute; a shorter one holds its first minute and not the one after its last": a minute is so many after the
-- start, fewer than the length, and the window "may run past the end of the week"
pub record Holds (start length minute : ℕ) : Type 0 where
  pub after : ℕ
  pub within : after < length
  pub is : (start + after) % 10080 ≡ minute

-- after a wait, "all those minutes, counted modulo 10,080, lie in the same window": the one with this number
pub record InOneWindow (minute duration : ℕ) (lent : List ℕ) (wait : ℕ) : Type 0 where
  pub number : ℕ
  pub listed : 2 * number + 1 < length lent
  pub held : (k : ℕ) → k < duration → Holds (get_or lent (2 * number) 0) (get_or lent (2 * number + 1) 0) ((minute + wait + k) % 10080)

-- what W-201 asks of the answer to a plan
pub record Plans (minute duration : ℕ) (lent : List ℕ) (answer : Planned) : Type 0 where
  -- it is 0, 15 or 16 and nothing else: "Turned away: 15", "16"
  pub answered : let n = number_of answer.decline in (n ≡ 0) ⊎ ((n ≡ 15) ⊎ (n ≡ 16))
  -- accepted where the numbers are in range and a wait fits: "the planner answers"
  pub accepted : InRange minute duration lent → (wait : ℕ) → wait < 10080 → InOneWindow minute duration lent wait → number_of answer.decline ≡ 0
  -- accepted: the wait fits, and it is "the smallest wait, 0 to 10,079"
  pub smallest : number_of answer.decline ≡ 0
      → (answer.wait < 10080)
      × InOneWindow minute duration lent answer.wait
      × ((less : ℕ) → less < answer.wait → InOneWindow minute duration lent less → ⊥)
  -- 16: "no wait fits"
  pub no_wait : number_of answer.decline ≡ 16 → (wait : ℕ) → wait < 10080 → InOneWindow minute duration lent wait → ⊥
  -- "any of these numbers out of range": 15 then, and only then
  pub out_of_range : (InRange minute duration lent → ⊥) → number_of answer.decline ≡ 15
  pub only_then : number_of answer.decline ≡ 15 → InRange minute duration lent → ⊥
  -- beside a decline the wait is 0 (ours)
  pub beside : (number_of answer.decline ≡ 0 → ⊥) → answer.wait ≡ 0

pub record PlanLaws : Type 0 where
  -- every plan is as W-201 asks, and no other answer is
  pub meets : (minute duration : ℕ) (lent : List ℕ) → Plans minute duration lent (plan_of minute duration lent)
  pub fixes : (minute duration : ℕ) (lent : List ℕ) (answer : Planned) → Plans minute duration lent answer → answer ≡ plan_of minute duration lent
