-- What a call gives, and what is printed of it. Assumes nothing.
use Rattle.std.specs.Prelude.{ℕ, ◌≤◌, List, [], ◌∷◌, ◌++◌, length, Option, Some, None}
use Rattle.conformance_io.specs.declared.outcome.Changed.{Changed}
use Rattle.conformance_io.specs.declared.outcome.Outcome.{Outcome}
use Rattle.conformance_io.specs.Changes.{changes_from}
use Rattle.conformance_io.specs.Numbers.{listed}
use Rattle.conformance_io.specs.Text.{numbers_text, changes_text}

-- what follows the numbers of a call that changes lent banks, by the banks before it
abbrev pub changed_text : List ℕ → List ℕ → Option Changed → List ℕ
changed_text one two None = []
changed_text one two (Some changed) = 32 ∷ changes_text (changes_from 1 0 changed.one.now one ++ changes_from 2 0 changed.two.now two)

abbrev pub outcome_text : List ℕ → List ℕ → Outcome → List ℕ
outcome_text one two outcome = numbers_text (listed outcome.numbers) ++ changed_text one two outcome.changed

-- a call gives at most 26 numbers
pub record IsOutcome (outcome : Outcome) : Type 0 where
  pub few : length (listed outcome.numbers) ≤ 26
