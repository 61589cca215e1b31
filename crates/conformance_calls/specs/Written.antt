-- What is written of a call's outcome, by a formatter f that is g then. Assumes nothing.
use Rattle.std.specs.Prelude.{ℕ, ◌≡◌, List, length, Some}
use Rattle.std.specs.Fmt.{HasWritten}
use Rattle.std.specs.declared.fmt.Formatter.{Formatter}
use Rattle.conformance_io.specs.declared.outcome.Changed.{Changed}
use Rattle.conformance_io.specs.declared.outcome.Outcome.{Outcome}
use Rattle.conformance_io.specs.Changes.{changes_from}
use Rattle.conformance_io.specs.Outcome.{changed_text, outcome_text}
use Rattle.conformance_io.specs.Text.{changes_following}

-- so many changes of a bank, by some words that it had before
pub record BankWritten {W : Type 0} (took : W → List ℕ → W → Type 0) (f : Formatter W) (bank : ℕ) (after : List ℕ) (count : ℕ) (g : Formatter W) : Type 0 where
  pub before : List ℕ
  pub counted : length (changes_from bank 0 after before) ≡ count
  pub wrote : HasWritten took f (changes_following (changes_from bank 0 after before)) g

-- what changed, by some words that both banks had before
pub record ChangesWritten {W : Type 0} (took : W → List ℕ → W → Type 0) (f : Formatter W) (changed : Changed) (g : Formatter W) : Type 0 where
  pub one : List ℕ
  pub two : List ℕ
  pub wrote : HasWritten took f (changed_text one two (Some changed)) g

-- the whole outcome, by some words that both banks had before
pub record OutcomeWritten {W : Type 0} (took : W → List ℕ → W → Type 0) (f : Formatter W) (outcome : Outcome) (g : Formatter W) : Type 0 where
  pub one : List ℕ
  pub two : List ℕ
  pub wrote : HasWritten took f (outcome_text one two outcome) g
