-- What holds of the numbers of the declines. Assumes nothing.
use Rattle.std.specs.Prelude.{◌≡◌, ◌≤◌}
use Rattle.words.specs.Decline.{Verdict, number_of}

-- of the list by which every call answers: in each exported call's contract its number is `number_of` of a decline
pub record Numbers : Type 0 where
  -- W-207: "Decline 9 no longer occurs, and that is shown."
  pub no_nine : (v : Verdict) → number_of v ≡ 9 → ⊥
  -- 01's list ends with 14, 02's with 22
  pub highest : (v : Verdict) → number_of v ≤ 22
  -- no two declines have one number, so that a promise of the number is one of the answer
  pub one : (v w : Verdict) → number_of v ≡ number_of w → v ≡ w
