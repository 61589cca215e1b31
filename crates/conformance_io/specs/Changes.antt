-- What changed in a list of words. Assumes nothing.
use Rattle.std.specs.Prelude.{ℕ, ◌+◌, List, [], ◌∷◌, nat_eq, if◌then◌else◌}
use Rattle.conformance_io.specs.declared.banks.Change.{Change}

-- the changes of a bank's words from an index on, in the order of their indices; a word that had none before it is one
abbrev pub changes_from : ℕ → ℕ → List ℕ → List ℕ → List Change
changes_from bank index [] _ = []
changes_from bank index (word ∷ now) [] = record { bank = bank; index = index; word = word } ∷ changes_from bank (index + 1) now []
changes_from bank index (word ∷ now) (old ∷ before) =
    if nat_eq old word
    then changes_from bank (index + 1) now before
    else (record { bank = bank; index = index; word = word } ∷ changes_from bank (index + 1) now before)
