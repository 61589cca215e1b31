-- The widths: a page number below 1,000 has three digits at most and a count of quads below 10,000 four, so that a line is 17 bytes.
-- Assumes nothing.
use mathlib.Core.Path.{◌≡◌}
use mathlib.Core.Bool.{Bool, true, false}
use mathlib.Core.List.{[], ◌∷◌, ◌++◌}
use Prim.Native.Nat.{ℕ, ◌+◌, ◌≤◌, ◌<◌}
use native.Mathlib.Omega.{arith}
use lib.ListN.{length, length-append, length-replicate}
use Rattle.text.specs.Digits.{width_of}
use Rattle.text.specs.Lines.{blank, line_feed, flag_of}
use Rattle.text.proofs.DigitLaws.{digits_length, width_one, width_at_most}
use Rattle.text.proofs.LineLaws.{flag_digit}
use Rattle.sheet_page.specs.declared.PageState.{PageState}
use Rattle.sheet_line.specs.Line.{right_of, right_column_of, letter_of, bank_number_of, kind_letter_of, side_letter_of, line_of}

-- ---- numbers

pub page_width : (page : ℕ) → page < 1000 → width_of page ≤ 3
page_width page l = width_at_most 2 page l

pub quads_width : (quads : ℕ) → quads < 10000 → width_of quads ≤ 4
quads_width quads l = width_at_most 3 quads l

pub bank_width : (second : Bool) → width_of (bank_number_of second) ≤ 1
bank_width true = omega (arith, width_one 2 (omega arith))
bank_width false = omega (arith, width_one 1 (omega arith))

pub flag_width : (protected : Bool) → width_of (flag_of protected) ≤ 1
flag_width protected = omega (arith, width_one (flag_of protected) (flag_digit protected))

-- ---- the columns of a line

pub right_length : (columns n : ℕ) → width_of n ≤ columns → length (right_of columns n) ≡ columns
right_length columns n l = simp (length-append, length-replicate, digits_length) (omega arith)

pub right_column_length : (columns n end : ℕ) → width_of n ≤ columns → length (right_column_of columns n end) ≡ columns + 1
right_column_length columns n end l = rw (length-append (right_of columns n) (end ∷ []), right_length columns n l)

-- what fits its columns has a line of 17 bytes
pub line_length : (s : PageState) → s.page < 1000 → s.quads < 10000 → length (line_of s) ≡ 17
unfolding line_of
line_length s few fits =
    let bank = right_column_of 1 (bank_number_of s.second) blank in
    let kind = letter_of (kind_letter_of s.program) in
    let page = right_column_of 3 s.page blank in
    let side = letter_of (side_letter_of s.upper) in
    let protection = right_column_of 1 (flag_of s.protected) blank in
    let quads = right_column_of 4 s.quads line_feed in
    rw (
      length-append bank (kind ++ (page ++ (side ++ (protection ++ quads)))),
      length-append page (side ++ (protection ++ quads)),
      length-append protection quads,
      right_column_length 1 (bank_number_of s.second) blank (bank_width s.second),
      right_column_length 3 s.page blank (page_width s.page few),
      right_column_length 1 (flag_of s.protected) blank (flag_width s.protected),
      right_column_length 4 s.quads line_feed (quads_width s.quads fits),
    )
