-- The widths of the sheet: every line is 17 bytes, and the sheet 34 for each page of a bank.
-- Assumes nothing.
use mathlib.Core.Path.{◌≡◌, refl}
use mathlib.Core.Bool.{Bool, true, false}
use mathlib.Core.List.{List}
use Prim.Native.Nat.{ℕ, zero, suc, ◌*◌, ◌≤◌, ◌<◌}
use native.Mathlib.Omega.{arith}
use lib.ListN.{length, length-append}
use Rattle.geometry.specs.declared.banks.Geometry.{Geometry}
use Rattle.geometry.specs.Banks.{listed_of, in_range_up_to, InRange, pages_of, page_quads_of}
use Rattle.geometry.proofs.SizeLaws.{in-range}
use Rattle.device.specs.declared.record.Device.{Device}
use Rattle.sheet_page.specs.State.{used_quads_of, kind_pages_of, page_index_of, page_state_of}
use Rattle.sheet_page.proofs.StateLaws.{used_at_most}
use Rattle.sheet_line.specs.Line.{line_of}
use Rattle.sheet_line.proofs.WidthLaws.{page_width, quads_width, line_length}
use Rattle.sheet.specs.Sheet.{lines_of, kind_lines_of, bank_lines_of, sheet_of}
use Rattle.sheet.specs.Widths.{Widths}

-- ---- the lines of pages

-- a page below 1,000 of a Q up to 128 fits the columns
pub state_fits : (g : Geometry) (d : Device) (bank : List ℕ) (second program : Bool) (page : ℕ) → g.q ≤ 128 → page < 1000
    → ((page_state_of g d bank second program page).page < 1000) × ((page_state_of g d bank second program page).quads < 10000)
unfolding page_state_of
state_fits g d bank second program page q_high few =
    (few, omega (arith, used_at_most bank (page_index_of g program page * page_quads_of g) (page_quads_of g)))

state_length : (g : Geometry) (d : Device) (bank : List ℕ) (second program : Bool) (page : ℕ) → g.q ≤ 128 → page < 1000
    → length (line_of (page_state_of g d bank second program page)) ≡ 17
state_length g d bank second program page q_high few =
    let fits = state_fits g d bank second program page q_high few in
    line_length (page_state_of g d bank second program page) fits.0 fits.1

pub lines-length : (g : Geometry) (d : Device) (bank : List ℕ) (second program : Bool) (n : ℕ) → g.q ≤ 128 → n ≤ 1000
    → length (lines_of g d bank second program n) ≡ 17 * n
lines-length g d bank second program zero q_high few = refl
lines-length g d bank second program (suc n) q_high few =
    rw (
      length-append (lines_of g d bank second program n) (line_of (page_state_of g d bank second program n)),
      lines-length g d bank second program n q_high (omega arith),
      state_length g d bank second program n q_high (omega arith),
    ) (omega arith)

bank_length : (g : Geometry) (d : Device) (bank : List ℕ) (second : Bool) → g.q ≤ 128 → g.b ≤ 1000 → g.p ≤ 1000
    → length (bank_lines_of g d bank second) ≡ 17 * pages_of g
bank_length g d bank second q_high boot program =
    rw (
      length-append (kind_lines_of g d bank second false) (kind_lines_of g d bank second true),
      lines-length g d bank second false g.b q_high boot,
      lines-length g d bank second true g.p q_high program,
    ) (omega arith)

sheet_length : (g : Geometry) (d : Device) (one two : List ℕ) → g.q ≤ 128 → g.b ≤ 1000 → g.p ≤ 1000
    → length (sheet_of g d one two) ≡ 34 * pages_of g
unfolding sheet_of
sheet_length g d one two q_high boot program =
    rw (
      length-append (bank_lines_of g d one false) (bank_lines_of g d two true),
      bank_length g d one false q_high boot program,
      bank_length g d two true q_high boot program,
    ) (omega arith)

-- ---- what decline 1 leaves

pub kind_few : (g : Geometry) → InRange g → (program : Bool) → kind_pages_of g program ≤ 1000
kind_few g ok true = omega (arith, ok.p_high)
kind_few g ok false = omega (arith, ok.b_high)

pub bank_bytes : (g : Geometry) → InRange g → (d : Device) (bank : List ℕ) (second : Bool) → length (bank_lines_of g d bank second) ≡ 17 * pages_of g
bank_bytes g ok d bank second = bank_length g d bank second ok.q_high (kind_few g ok false) (kind_few g ok true)

pub sheet_bytes : (g : Geometry) → InRange g → (d : Device) (one two : List ℕ) → length (sheet_of g d one two) ≡ 34 * pages_of g
sheet_bytes g ok d one two = sheet_length g d one two ok.q_high (kind_few g ok false) (kind_few g ok true)

-- ---- the statement

-- a Q of the list, with one page of each kind, is in range
listed_high : (q : ℕ) → listed_of q ≡ true → q ≤ 128
unfolding in_range_up_to
listed_high q listed = (in-range (record { q = q; b = 1; p = 1 }) (rw listed)).q_high

pub widths : Widths
widths =
    record {
      pages = page_width;
      quads =
          λ bank first q listed.
          quads_width (used_quads_of bank first (8 * q)) (omega (arith, used_at_most bank first (8 * q), listed_high q listed));
      line = λ g d bank second program page listed few. state_length g d bank second program page (listed_high g.q listed) few;
      sheet = λ g d one two listed boot program. sheet_length g d one two (listed_high g.q listed) boot program;
      accepted = λ g d one two ok. sheet_bytes g (in-range g ok) d one two;
    }
