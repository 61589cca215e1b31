-- "Widths are shown once for every page and size.": for every Q of the list and up to 1,000 pages of a kind, whatever the limit of P
-- (`widths` of proofs/WidthLaws proves it). Assumes nothing.
use Rattle.std.specs.Prelude.{ℕ, ◌*◌, ◌≤◌, ◌<◌, ◌≡◌, Bool, true, List, length}
use Rattle.text.specs.Digits.{width_of}
use Rattle.geometry.specs.declared.banks.Geometry.{Geometry}
use Rattle.geometry.specs.Banks.{listed_of, in_range_of, pages_of}
use Rattle.device.specs.declared.record.Device.{Device}
use Rattle.sheet_page.specs.State.{used_quads_of, page_state_of}
use Rattle.sheet_line.specs.Line.{line_of}
use Rattle.sheet.specs.Sheet.{sheet_of}

pub record Widths : Type 0 where
  -- "page of its kind from 0 in three columns"
  pub pages : (page : ℕ) → page < 1000 → width_of page ≤ 3
  -- "quads that aren't all ones in four columns": of the 8×Q quads of a page
  pub quads : (bank : List ℕ) (first q : ℕ) → listed_of q ≡ true → width_of (used_quads_of bank first (8 * q)) ≤ 4
  -- "Each line is 17 bytes"
  pub line : (g : Geometry) (d : Device) (bank : List ℕ) (second program : Bool) (page : ℕ) → listed_of g.q ≡ true → page < 1000
      → length (line_of (page_state_of g d bank second program page)) ≡ 17
  -- "and the sheet 34×N"
  pub sheet : (g : Geometry) (d : Device) (one two : List ℕ) → listed_of g.q ≡ true → g.b ≤ 1000 → g.p ≤ 1000
      → length (sheet_of g d one two) ≡ 34 * pages_of g
  -- so for every geometry that decline 1 accepts
  pub accepted : (g : Geometry) (d : Device) (one two : List ℕ) → in_range_of g ≡ true → length (sheet_of g d one two) ≡ 34 * pages_of g
