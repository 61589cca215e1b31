-- Where the lines stand: the line of each page at 17 times its number, what was in the buffer after the last one, and each position of the
-- sheet in the line of a page. Assumes nothing.
use mathlib.Core.Path.{◌≡◌, sym, subst, ◌∙◌}
use mathlib.Core.Bool.{Bool, true, false}
use mathlib.Core.List.{List, ◌++◌}
use Prim.Native.Nat.{ℕ, zero, suc, ◌+◌, ◌-◌, ◌*◌, ◌/◌, ◌%◌, ◌≤◌, ◌<◌}
use native.Mathlib.Decide.{dec_lt}
use native.Mathlib.Omega.{arith}
use lib.ListN.{length, get_or, drop, length-append, length-drop, get_or-append}
use lib.Seq.{get_or-append-add, get_or-drop}
use Rattle.words.specs.Word.{pick}
use Rattle.geometry.specs.declared.banks.Geometry.{Geometry}
use Rattle.geometry.specs.Banks.{InRange, pages_of}
use Rattle.device.specs.declared.record.Device.{Device}
use Rattle.sheet_page.specs.State.{page_state_of}
use Rattle.sheet_page.proofs.StateLaws.{index_in_bank}
use Rattle.sheet_line.specs.Line.{line_of}
use Rattle.sheet.specs.Sheet.{lines_of, kind_lines_of, bank_lines_of, sheet_of, with_sheet}
use Rattle.sheet.specs.PageSheets.{page_in_bank, pages_of_kind, line_number_of}
use Rattle.sheet.proofs.WidthLaws.{lines-length, kind_few, bank_bytes, sheet_bytes}

line_below : (g : Geometry) (second program : Bool) (i : ℕ) → i < pages_of_kind g program → line_number_of g second program i < 2 * pages_of g
line_below g true program i l = omega (arith, index_in_bank g program i l)
line_below g false program i l = omega (arith, index_in_bank g program i l)

-- ---- the line of a page

module _ (g : Geometry) (ok : InRange g) (d : Device) where
  in_kind : (bank : List ℕ) (second program : Bool) (n i column : ℕ) → n ≤ 1000 → i < n → column < 17
      → get_or (lines_of g d bank second program n) (17 * i + column) 0 ≡ get_or (line_of (page_state_of g d bank second program i)) column 0
  in_kind bank second program zero i column few l narrow = absurd (omega arith)
  in_kind bank second program (suc n) i column few l narrow =
      go (lines-length g d bank second program n ok.q_high (omega arith)) (dec_lt i n)
      (λ m. in_kind bank second program n i column (omega arith) m narrow)
    where
      before : List ℕ
      before = lines_of g d bank second program n

      last : List ℕ
      last = line_of (page_state_of g d bank second program n)

      go : length before ≡ 17 * n → Dec (i < n)
          → (i < n → get_or before (17 * i + column) 0 ≡ get_or (line_of (page_state_of g d bank second program i)) column 0)
          → get_or (before ++ last) (17 * i + column) 0 ≡ get_or (line_of (page_state_of g d bank second program i)) column 0
      go size (yes m) earlier = rw (get_or-append before last 0 (17 * i + column) (omega (arith, size))) (earlier m)
      go size (no m) earlier =
          let place : 17 * i + column ≡ length before + column = omega (arith, size) in
          let same : i ≡ n = omega arith in
          rw (place, get_or-append-add before last column 0, same)

  in_bank : (bank : List ℕ) (second program : Bool) (i column : ℕ) → i < pages_of_kind g program → column < 17
      → get_or (bank_lines_of g d bank second) (17 * page_in_bank g program i + column) 0 ≡ get_or (line_of (page_state_of g d bank second program i)) column 0
  in_bank bank second true i column l narrow =
      let boot = kind_lines_of g d bank second false in
      let size = lines-length g d bank second false g.b ok.q_high (kind_few g ok false) in
      let place : 17 * (g.b + i) + column ≡ length boot + (17 * i + column) = omega (arith, size) in
      rw (place, get_or-append-add boot (kind_lines_of g d bank second true) (17 * i + column) 0)
      (in_kind bank second true g.p i column (kind_few g ok true) l narrow)
  in_bank bank second false i column l narrow =
      let boot = kind_lines_of g d bank second false in
      let size = lines-length g d bank second false g.b ok.q_high (kind_few g ok false) in
      rw (get_or-append boot (kind_lines_of g d bank second true) 0 (17 * i + column) (omega (arith, size)))
      (in_kind bank second false g.b i column (kind_few g ok false) l narrow)

  in_sheet : (one two : List ℕ) (second program : Bool) (i column : ℕ) → i < pages_of_kind g program → column < 17
      → get_or (sheet_of g d one two) (17 * line_number_of g second program i + column) 0
      ≡ get_or (line_of (page_state_of g d (pick second two one) second program i)) column 0
  unfolding sheet_of
  in_sheet one two true program i column l narrow =
      let first = bank_lines_of g d one false in
      let at = 17 * page_in_bank g program i + column in
      let place : 17 * line_number_of g true program i + column ≡ length first + at = omega (arith, bank_bytes g ok d one false) in
      rw (place, get_or-append-add first (bank_lines_of g d two true) at 0) (in_bank two true program i column l narrow)
  in_sheet one two false program i column l narrow =
      let first = bank_lines_of g d one false in
      let at = 17 * page_in_bank g program i + column in
      let place : 17 * line_number_of g false program i + column ≡ at = omega arith in
      let inside : at < length first = omega (arith, bank_bytes g ok d one false, index_in_bank g program i l) in
      rw (place, get_or-append first (bank_lines_of g d two true) 0 at inside) (in_bank one false program i column l narrow)

  -- ---- the buffer

  pub line_placed : (one two buffer : List ℕ) (second program : Bool) (i column : ℕ) → i < pages_of_kind g program → column < 17
      → get_or (with_sheet (sheet_of g d one two) buffer) (17 * line_number_of g second program i + column) 0
      ≡ get_or (line_of (page_state_of g d (pick second two one) second program i)) column 0
  line_placed one two buffer second program i column l narrow =
      let sheet = sheet_of g d one two in
      let inside : 17 * line_number_of g second program i + column < length sheet =
      omega (arith, sheet_bytes g ok d one two, line_below g second program i l) in
      rw (get_or-append sheet _ 0 (17 * line_number_of g second program i + column) inside)
      (in_sheet one two second program i column l narrow)

  pub rest_kept : (one two buffer : List ℕ) (k : ℕ) → 34 * pages_of g ≤ k → get_or (with_sheet (sheet_of g d one two) buffer) k 0 ≡ get_or buffer k 0
  rest_kept one two buffer k past =
      let sheet = sheet_of g d one two in
      let place : k ≡ length sheet + (k - length sheet) = omega (arith, sheet_bytes g ok d one two) in
      subst (λ (n : ℕ). get_or (with_sheet sheet buffer) n 0 ≡ get_or buffer n 0) (sym place)
      (get_or-append-add sheet (drop (length sheet) buffer) (k - length sheet) 0 ∙ get_or-drop (length sheet) buffer (k - length sheet) 0)

  pub same_length : (one two buffer : List ℕ) → 34 * pages_of g ≤ length buffer → length (with_sheet (sheet_of g d one two) buffer) ≡ length buffer
  same_length one two buffer room =
      let sheet = sheet_of g d one two in
      omega (arith, length-append sheet (drop (length sheet) buffer), length-drop (length sheet) buffer, sheet_bytes g ok d one two)

-- ---- each position of the sheet is a byte of a line

pub record OnLine (g : Geometry) (k : ℕ) : Type 0 where
  pub second : Bool
  pub program : Bool
  pub i : ℕ
  pub column : ℕ
  pub inside : i < pages_of_kind g program
  pub narrow : column < 17
  pub is : k ≡ 17 * line_number_of g second program i + column

pub on_line : (g : Geometry) (k : ℕ) → k < 34 * pages_of g → OnLine g k
on_line g k l = go (dec_lt (k / 17) (pages_of g))
  where
    -- line n of a bank
    of_bank : (second : Bool) (n : ℕ) → n < pages_of g → k / 17 ≡ pick second (pages_of g) 0 + n → Dec (n < g.b) → OnLine g k
    of_bank second n few line (yes m) =
        record { second = second; program = false; i = n; column = k % 17; inside = m; narrow = omega arith; is = omega arith }
    of_bank second n few line (no m) =
        record { second = second; program = true; i = n - g.b; column = k % 17; inside = omega arith; narrow = omega arith; is = omega arith }

    go : Dec (k / 17 < pages_of g) → OnLine g k
    go (yes m) = of_bank false (k / 17) m (omega arith) (dec_lt (k / 17) g.b)
    go (no m) = let n = k / 17 - pages_of g in of_bank true n (omega arith) (omega arith) (dec_lt n g.b)
