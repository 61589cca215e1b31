-- A line by its positions: a number's digits stand at the right of its columns, with blanks before them, and each column at its place.
-- Assumes nothing.
use mathlib.Core.Path.{◌≡◌, refl, ◌∙◌}
use mathlib.Core.Bool.{Bool, true, false}
use mathlib.Core.List.{List, [], ◌∷◌, ◌++◌, append_assoc}
use mathlib.Core.Logic.{◌⊎◌}
use Prim.Native.Nat.{ℕ, zero, suc, ◌+◌, ◌-◌, ◌/◌, ◌%◌, ◌^◌, ◌≤◌, ◌<◌}
use native.Mathlib.Omega.{arith}
use lib.ListN.{length, get_or, replicate, length-replicate, get_or-replicate, get_or-append}
use lib.Seq.{get_or-append-add, get_or_at}
use Rattle.words.specs.Word.{pick}
use Rattle.text.specs.Digits.{digit_of, digits_of, width_of}
use Rattle.text.specs.Lines.{blank, line_feed, flag_of}
use Rattle.text.proofs.DigitLaws.{digit_at, width_above, width_at_most}
use Rattle.sheet_page.specs.declared.PageState.{PageState}
use Rattle.sheet_line.specs.Line.{right_of, right_column_of, bank_number_of, kind_letter_of, side_letter_of, line_of}
use Rattle.sheet_line.proofs.WidthLaws.{page_width, quads_width, right_length}

-- ---- a number in its columns, counted from the right

pub right_digit : (columns n k : ℕ) → width_of n ≤ columns → (k ≡ 0) ⊎ (10 ^ k ≤ n)
    → get_or (right_of columns n) (columns - 1 - k) 0 ≡ 48 + n / 10 ^ k % 10
right_digit columns n k fits shown =
    let padding = replicate (columns - width_of n) blank in
    let written = width_above n k shown in
    let place : columns - 1 - k ≡ length padding + (width_of n - 1 - k) = omega (arith, length-replicate (columns - width_of n) blank, written) in
    rw (place, get_or-append-add padding (digits_of 10 n (width_of n)) (width_of n - 1 - k) 0, digit_at n (width_of n) k written)

pub right_blank : (columns n k : ℕ) → k < columns → 0 < k → n < 10 ^ k → get_or (right_of columns n) (columns - 1 - k) 0 ≡ blank
right_blank columns n zero inside some low = absurd (omega arith)
right_blank columns n (suc k) inside some low =
    let padding = replicate (columns - width_of n) blank in
    let place : columns - 1 - suc k < columns - width_of n = omega (arith, width_at_most k n low) in
    rw (
      get_or-append padding (digits_of 10 n (width_of n)) 0 (columns - 1 - suc k) (omega (arith, length-replicate (columns - width_of n) blank)),
      get_or-replicate (columns - width_of n) (columns - 1 - suc k) blank 0 place,
    )

-- ---- the columns of a line

bank_column : (second : Bool) → right_column_of 1 (bank_number_of second) blank ≡ pick second 50 49 ∷ blank ∷ []
unfolding width_of digit_of
bank_column true = refl
bank_column false = refl

flag_column : (protected : Bool) → right_column_of 1 (flag_of protected) blank ≡ pick protected 49 48 ∷ blank ∷ []
unfolding width_of digit_of
flag_column true = refl
flag_column false = refl

-- the side and what follows it
abbrev pub side_on : PageState → List ℕ
side_on s = side_letter_of s.upper ∷ blank ∷ pick s.protected 49 48 ∷ blank ∷ (right_of 4 s.quads ++ (line_feed ∷ []))

-- all of it
abbrev pub bytes_of : PageState → List ℕ
bytes_of s = pick s.second 50 49 ∷ blank ∷ kind_letter_of s.program ∷ blank ∷ (right_of 3 s.page ++ (blank ∷ side_on s))

pub line_bytes : (s : PageState) → line_of s ≡ bytes_of s
unfolding line_of
line_bytes s = rw (bank_column s.second, flag_column s.protected, append_assoc (right_of 3 s.page) (blank ∷ []) (side_on s))

module _ (s : PageState) (few : s.page < 1000) (fits : s.quads < 10000) where
  -- positions 4 to 6
  pub page_byte : (k : ℕ) → k < 3 → get_or (line_of s) (6 - k) 0 ≡ get_or (right_of 3 s.page) (2 - k) 0
  page_byte k inside =
      let three = right_length 3 s.page (page_width s.page few) in
      let place : 6 - k ≡ suc (suc (suc (suc (2 - k)))) = omega arith in
      rw (place, line_bytes s, get_or-append (right_of 3 s.page) (blank ∷ side_on s) 0 (2 - k) (omega (arith, three)))

  -- from position 7 on
  pub side_byte : (c : ℕ) → get_or (line_of s) (7 + c) 0 ≡ get_or (blank ∷ side_on s) c 0
  side_byte c =
      let three = right_length 3 s.page (page_width s.page few) in
      let place : 7 + c ≡ suc (suc (suc (suc (length (right_of 3 s.page) + c)))) = omega (arith, three) in
      rw (place, line_bytes s, get_or-append-add (right_of 3 s.page) (blank ∷ side_on s) c 0)

  four : length (right_of 4 s.quads) ≡ 4
  four = right_length 4 s.quads (quads_width s.quads fits)

  -- positions 12 to 15
  pub quads_byte : (k : ℕ) → k < 4 → get_or (line_of s) (15 - k) 0 ≡ get_or (right_of 4 s.quads) (3 - k) 0
  quads_byte k inside =
      let place : 15 - k ≡ 7 + suc (suc (suc (suc (suc (3 - k))))) = omega arith in
      rw (
        place,
        side_byte (suc (suc (suc (suc (suc (3 - k)))))),
        get_or-append (right_of 4 s.quads) (line_feed ∷ []) 0 (3 - k) (omega (arith, four)),
      )

  -- position 16
  pub last_byte : get_or (line_of s) 16 0 ≡ line_feed
  last_byte = side_byte 9 ∙ get_or_at (right_of 4 s.quads) line_feed [] 0 4 four
