-- The line of a page, as bytes. Assumes nothing.
use Rattle.std.specs.Prelude.{ℕ, ◌-◌, Bool, List, [], ◌∷◌, ◌++◌, replicate}
use Rattle.words.specs.Word.{pick}
use Rattle.text.specs.Digits.{digits_of, width_of}
use Rattle.text.specs.Lines.{blank, line_feed, flag_of}
use Rattle.sheet_page.specs.declared.PageState.{PageState}

-- a number "right-aligned" in so many columns: "Number padding is blanks."
abbrev pub right_of : ℕ → ℕ → List ℕ
right_of columns n = replicate (columns - width_of n) blank ++ digits_of 10 n (width_of n)

-- such a number, and the byte after it
abbrev pub right_column_of : ℕ → ℕ → ℕ → List ℕ
right_column_of columns n end = right_of columns n ++ (end ∷ [])

-- a letter, and the blank after it
abbrev pub letter_of : ℕ → List ℕ
letter_of letter = letter ∷ blank ∷ []

-- "bank": 1 or 2
abbrev pub bank_number_of : Bool → ℕ
bank_number_of second = pick second 2 1

-- "B or P", in ASCII
abbrev pub kind_letter_of : Bool → ℕ
kind_letter_of program = pick program 80 66

-- "L or U for its present side", in ASCII
abbrev pub side_letter_of : Bool → ℕ
side_letter_of upper = pick upper 85 76

-- "bank, blank, B or P, blank, page of its kind from 0 in three columns right-aligned, blank, L or U for its present side, blank, 1 if
-- protected else 0, blank, quads that aren't all ones in four columns right-aligned, line feed"
unfoldable pub line_of : PageState → List ℕ
line_of s =
    right_column_of 1 (bank_number_of s.second) blank
    ++ (letter_of (kind_letter_of s.program)
    ++ (right_column_of 3 s.page blank
    ++ (letter_of (side_letter_of s.upper)
    ++ (right_column_of 1 (flag_of s.protected) blank
    ++ right_column_of 4 s.quads line_feed))))
