-- What is printed of numbers and of changes. Assumes nothing.
use Rattle.std.specs.Prelude.{ℕ, List, [], ◌∷◌, ◌++◌, length}
use Rattle.std.specs.Fmt.{decimal}
use Rattle.conformance_io.specs.declared.banks.Change.{Change}

-- numbers that follow others: each after a blank
abbrev pub following : List ℕ → List ℕ
following [] = []
following (number ∷ rest) = 32 ∷ (decimal number ++ following rest)

-- numbers with one blank between two
abbrev pub numbers_text : List ℕ → List ℕ
numbers_text [] = []
numbers_text (number ∷ rest) = decimal number ++ following rest

-- the bank, the index and the word of each change, each after a blank
abbrev pub changes_following : List Change → List ℕ
changes_following [] = []
changes_following (change ∷ rest) = following (change.bank ∷ change.index ∷ change.word ∷ []) ++ changes_following rest

-- how many words changed, and the changes
abbrev pub changes_text : List Change → List ℕ
changes_text changes = decimal (length changes) ++ changes_following changes
