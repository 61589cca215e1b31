-- How long the lines are: a line has the digits of its number and 14 bytes.
-- Assumes nothing.
use mathlib.Core.Path.{◌≡◌, refl}
use mathlib.Core.Bool.{Bool, true, false}
use mathlib.Core.List.{List, [], ◌∷◌, ◌++◌}
use Prim.Native.Nat.{ℕ, zero, suc, ◌+◌, ◌*◌, ◌^◌, ◌≤◌, ◌<◌}
use native.Mathlib.Nat.{mul-suc}
use native.Mathlib.Omega.{arith}
use mir.Val.{bool_byte}
use lib.ListN.{length, set, length-append}
use lib.Seq.{sets}
use Rattle.text.specs.Buffer.{saturated_of}
use Rattle.text.specs.Digits.{digits_of, width_of}
use Rattle.text.specs.Lines.{blank, line_feed, column_of, decimal_of, flag_of, line_of, lines_length_of}
use Rattle.text.proofs.BufferLaws.{sets_append, sets_after}
use Rattle.text.proofs.DigitLaws.{digits_length, width_one, width_at_most}

column_length : (base n k end : ℕ) → length (column_of base n k end) ≡ k + 1
column_length base n k end = rw (length-append (digits_of base n k) (end ∷ []), digits_length base n k)

-- digits, and then the byte that ends them
pub put-column : (out : List ℕ) (at base n k end : ℕ) → set (sets out at (digits_of base n k)) (at + k) end ≡ sets out at (column_of base n k end)
put-column out at base n k end = rw (sets_append out at (digits_of base n k) (end ∷ []), digits_length base n k)

pub flag_digit : (event : Bool) → flag_of event < 10
flag_digit true = omega arith
flag_digit false = omega arith

-- a test as a number is its flag
pub flag_byte : (t : Bool) → bool_byte t ≡ flag_of t
flag_byte true = refl
flag_byte false = refl

-- a line has the digits of its number and 14 bytes
pub line_length : (i answer con : ℕ) (event : Bool) → answer < 10 → length (line_of i answer con event) ≡ width_of i + 14
unfolding line_of
line_length i answer con event digit =
    rw (
      length-append (decimal_of i blank) (decimal_of answer blank ++ (column_of 16 con 8 blank ++ decimal_of (flag_of event) line_feed)),
      length-append (decimal_of answer blank) (column_of 16 con 8 blank ++ decimal_of (flag_of event) line_feed),
      length-append (column_of 16 con 8 blank) (decimal_of (flag_of event) line_feed),
      column_length 10 i (width_of i) blank,
      column_length 10 answer (width_of answer) blank,
      column_length 16 con 8 blank,
      column_length 10 (flag_of event) (width_of (flag_of event)) line_feed,
      width_one answer digit,
      width_one (flag_of event) (flag_digit event),
    ) (omega arith)

-- its columns, each after the one before
pub put-line : (out : List ℕ) (at i answer con : ℕ) (event : Bool)
    → let second = at + width_of i + 1 in
    let third = second + width_of answer + 1 in
    let fourth = third + 8 + 1 in
    sets (sets (sets (sets out at (decimal_of i blank)) second (decimal_of answer blank)) third (column_of 16 con 8 blank)) fourth
    (decimal_of (flag_of event) line_feed)
    ≡ sets out at (line_of i answer con event)
unfolding line_of
put-line out at i answer con event =
    let number = decimal_of i blank in
    let reply = decimal_of answer blank in
    let nvmcon = column_of 16 con 8 blank in
    let last = decimal_of (flag_of event) line_feed in
    let second = at + width_of i + 1 in
    let third = second + width_of answer + 1 in
    let fourth = third + 8 + 1 in
    let one = sets out at number in
    let two = sets one second reply in
    rw (
      sets_after out at second number (reply ++ (nvmcon ++ last)) (omega (arith, column_length 10 i (width_of i) blank)),
      sets_after one second third reply (nvmcon ++ last) (omega (arith, column_length 10 answer (width_of answer) blank)),
      sets_after two third fourth nvmcon last (omega (arith, column_length 16 con 8 blank)),
    )

-- ---- the lines together

-- at most so many bytes a line
lines_at_most : (most n : ℕ) → ((i : ℕ) → i < n → width_of i + 14 ≤ most) → lines_length_of n ≤ most * n
lines_at_most most zero short = omega arith
lines_at_most most (suc n) short =
    rw (mul-suc most n) (omega (arith, short n (omega arith), lines_at_most most n (λ i l. short i (omega arith))))

-- 18 bytes a line are enough for numbers of at most four digits
pub length-four : (n : ℕ) → n ≤ 10000 → lines_length_of n ≤ 18 * n
length-four n l = lines_at_most 18 n (λ i h. omega (arith, width_at_most 3 i (omega arith)))

-- fewer than 2 ^ 59 lines have at most 32 bytes each, so that their count is exact
pub length-counted : (n : ℕ) → n < 2 ^ 59 → saturated_of (lines_length_of n) ≡ lines_length_of n
length-counted n l = omega (arith, lines_at_most 32 n (λ i h. omega (arith, width_at_most 17 i (omega arith))))
