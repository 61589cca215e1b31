-- Bytes written one after another: a number's blanks and its digits, the columns of a line.
-- Assumes nothing.
use mathlib.Core.Path.{◌≡◌, refl, ap}
use mathlib.Core.List.{List, [], ◌∷◌, ◌++◌}
use Prim.Native.Nat.{ℕ, suc, ◌+◌, ◌-◌, ◌≤◌, ◌<◌}
use native.Mathlib.Omega.{arith}
use borrow.Rule.Slice.PartMut.{put_mid}
use lib.ListN.{length, set, replicate, length-append, length-replicate}
use lib.Seq.{sets, set_comm}
use Rattle.std.proofs.Common.{append_assoc}
use Rattle.std.proofs.lemmas.List.{set-set, replicate-append-replicate}
use Rattle.words.proofs.PartLaws.{put_part}
use Rattle.text.specs.Digits.{width_of}
use Rattle.text.specs.Lines.{blank, line_feed, flag_of, decimal_of}
use Rattle.text.proofs.DigitLaws.{digits_length}
use Rattle.text.proofs.BufferLaws.{sets_after}
use Rattle.sheet_page.specs.declared.PageState.{PageState}
use Rattle.sheet_line.specs.Line.{right_column_of, letter_of, bank_number_of, kind_letter_of, side_letter_of, line_of}
use Rattle.sheet_line.proofs.WidthLaws.{page_width, bank_width, flag_width, right_column_length}

-- a byte before a run of bytes may come first
sets_before : (xs : List ℕ) (at : ℕ) (cs : List ℕ) (j b : ℕ) → j < at → set (sets xs at cs) j b ≡ sets (set xs j b) at cs
sets_before xs at [] j b before = refl
sets_before xs at (a ∷ cs) j b before =
    rw (set_comm xs j at b a (λ e. omega arith)) (sets_before (set xs at a) (suc at) cs j b (omega arith))

-- of bytes that others are written over nothing is left
sets_over : (xs : List ℕ) (at : ℕ) (cs bs : List ℕ) → length cs ≤ length bs → sets (sets xs at cs) at bs ≡ sets xs at bs
sets_over xs at [] bs l = refl
sets_over xs at (a ∷ cs) [] l = absurd (omega arith)
sets_over xs at (a ∷ cs) (b ∷ bs) l =
    rw (sets_before (set xs at a) (suc at) cs at b (omega arith), set-set xs at a b) (sets_over (set xs at b) (suc at) cs bs (omega arith))

-- blanks in all the columns, and then the number, over the last of them, and the byte after it
pub put-right-column : (out : List ℕ) (at columns n end padding : ℕ) → width_of n ≤ columns → at + columns + 1 ≤ length out → padding ≡ columns - width_of n
    → sets (put_mid at (at + columns - at) out (replicate columns blank)) (at + padding) (decimal_of n end) ≡ sets out at (right_column_of columns n end)
put-right-column out at columns n end padding l room e =
    let blanks = replicate padding blank in
    let under = replicate (width_of n) blank in
    let long : length blanks ≡ padding = length-replicate padding blank in
    let all : replicate columns blank ≡ blanks ++ under =
    rw (replicate-append-replicate padding (width_of n) blank) (ap (λ (m : ℕ). replicate m blank) (omega arith)) in
    let part = put_part out (replicate columns blank) at (at + columns - at) (omega (arith, length-replicate columns blank)) (omega arith) in
    let covered : length under ≤ length (decimal_of n end) =
    simp (length-append, length-replicate, digits_length) (omega arith) in
    rw (
      part,
      all,
      sets_after out at (at + padding) blanks under (omega (arith, long)),
      sets_over (sets out at blanks) (at + padding) under (decimal_of n end) covered,
      ← sets_after out at (at + padding) blanks (decimal_of n end) (omega (arith, long)),
      e,
      append_assoc,
    )

-- the columns of a line, each after the one before
pub put-line : (out : List ℕ) (at : ℕ) (s : PageState) → s.page < 1000
    → let out1 = sets out at (right_column_of 1 (bank_number_of s.second) blank) in
    let out2 = sets out1 (at + 2) (letter_of (kind_letter_of s.program)) in
    let out3 = sets out2 (at + 4) (right_column_of 3 s.page blank) in
    let out4 = sets out3 (at + 8) (letter_of (side_letter_of s.upper)) in
    let out5 = sets out4 (at + 10) (right_column_of 1 (flag_of s.protected) blank) in
    sets out5 (at + 12) (right_column_of 4 s.quads line_feed) ≡ sets out at (line_of s)
unfolding line_of
put-line out at s few =
    let bank = right_column_of 1 (bank_number_of s.second) blank in
    let kind = letter_of (kind_letter_of s.program) in
    let page = right_column_of 3 s.page blank in
    let side = letter_of (side_letter_of s.upper) in
    let protection = right_column_of 1 (flag_of s.protected) blank in
    let quads = right_column_of 4 s.quads line_feed in
    let out1 = sets out at bank in
    let out2 = sets out1 (at + 2) kind in
    let out3 = sets out2 (at + 4) page in
    let out4 = sets out3 (at + 8) side in
    let two = right_column_length 1 (bank_number_of s.second) blank (bank_width s.second) in
    let four = right_column_length 3 s.page blank (page_width s.page few) in
    let two_more = right_column_length 1 (flag_of s.protected) blank (flag_width s.protected) in
    rw (
      sets_after out at (at + 2) bank (kind ++ (page ++ (side ++ (protection ++ quads)))) (omega (arith, two)),
      sets_after out1 (at + 2) (at + 4) kind (page ++ (side ++ (protection ++ quads))) (omega arith),
      sets_after out2 (at + 4) (at + 8) page (side ++ (protection ++ quads)) (omega (arith, four)),
      sets_after out3 (at + 8) (at + 10) side (protection ++ quads) (omega arith),
      sets_after out4 (at + 10) (at + 12) protection quads (omega (arith, two_more)),
    )
