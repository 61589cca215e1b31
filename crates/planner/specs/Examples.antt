-- Plans whose answers a reader can work out. Assumes nothing.
use Rattle.std.specs.Prelude.{◌≡◌, [], ◌∷◌, ℕ}
use Rattle.words.specs.Decline.{number_of}
use Rattle.planner.specs.Planner.{Planned, plan_of}

-- an answer has this number and this wait
abbrev pub Answers : Planned → ℕ → ℕ → Type 0
Answers p number wait = (number_of p.decline ≡ number) × (p.wait ≡ wait)

pub record Examples : Type 0 where
  -- the present minute is in the window, which has two minutes left of the three asked for: the wait is for its next first minute
  pub too_little_left : Answers (plan_of 108 3 (100 ∷ 10 ∷ [])) 0 10072
  -- the window "may run past the end of the week": its last minute is minute 9, so ten minutes fit and eleven wait
  pub past_the_end : Answers (plan_of 0 10 (10075 ∷ 15 ∷ [])) 0 0
  pub past_the_end_later : Answers (plan_of 0 11 (10075 ∷ 15 ∷ [])) 0 10075
  -- "One of 10,080 holds every minute": it does not end where its start comes again
  pub whole_week : Answers (plan_of 499 1440 (500 ∷ 10080 ∷ [])) 0 0
  -- one minute less does not hold minute 499
  pub not_the_whole_week : Answers (plan_of 499 1440 (500 ∷ 10079 ∷ [])) 0 1
  -- 16: the duration is longer than every window
  pub no_wait : Answers (plan_of 0 61 (0 ∷ 60 ∷ 5000 ∷ 59 ∷ [])) 16 0
  -- "in the same window": two that touch do not join
  pub touching : Answers (plan_of 0 61 (0 ∷ 60 ∷ 60 ∷ 60 ∷ 300 ∷ 61 ∷ [])) 0 300
  -- the smallest wait, not that of the first window
  pub smallest : Answers (plan_of 0 30 (9000 ∷ 60 ∷ 200 ∷ 60 ∷ [])) 0 200
  -- 16 is "checked after it": no wait fits, and a start is out of range
  pub out_of_range : Answers (plan_of 0 61 (0 ∷ 60 ∷ 10080 ∷ 60 ∷ [])) 15 0
