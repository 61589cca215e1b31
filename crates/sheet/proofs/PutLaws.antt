-- Lines written one after another: the pages of a kind, the kinds of a bank, the banks.
-- Assumes nothing.
use mathlib.Core.Path.{◌≡◌, sym, ◌∙◌}
use mathlib.Core.Bool.{Bool, true, false}
use mathlib.Core.List.{List, ◌++◌}
use Prim.Native.Nat.{ℕ, suc, ◌+◌, ◌*◌, ◌≤◌, ◌<◌}
use native.Mathlib.Omega.{arith}
use lib.ListN.{length}
use lib.Seq.{sets, take_all}
use Rattle.text.proofs.BufferLaws.{sets_after, sets_front}
use Rattle.geometry.specs.declared.banks.Geometry.{Geometry}
use Rattle.geometry.specs.Banks.{InRange, pages_of}
use Rattle.device.specs.declared.record.Device.{Device}
use Rattle.sheet_page.specs.State.{kind_pages_of, page_state_of}
use Rattle.sheet_line.specs.Line.{line_of}
use Rattle.sheet.specs.Sheet.{lines_of, kind_lines_of, bank_lines_of, sheet_of, sheet_bytes_of, with_sheet}
use Rattle.sheet.proofs.WidthLaws.{lines-length, kind_few, bank_bytes, sheet_bytes}

-- the next line after those so far
pub put_next : (g : Geometry) → InRange g → (d : Device) (bank : List ℕ) (second program : Bool) (before : List ℕ) (at page : ℕ)
    → page < kind_pages_of g program
    → sets (sets before at (lines_of g d bank second program page)) (at + 17 * page) (line_of (page_state_of g d bank second program page))
    ≡ sets before at (lines_of g d bank second program (suc page))
put_next g ok d bank second program before at page l =
    let lines = lines_of g d bank second program page in
    let next = line_of (page_state_of g d bank second program page) in
    let few : page ≤ 1000 = omega (arith, kind_few g ok program) in
    let size = lines-length g d bank second program page ok.q_high few in
    rw (sets_after before at (at + 17 * page) lines next (omega (arith, size)))

-- the boot pages, and then the program pages
pub put-bank : (g : Geometry) → InRange g → (d : Device) (bank : List ℕ) (second : Bool) (before : List ℕ) (at : ℕ)
    → sets (sets before at (kind_lines_of g d bank second false)) (at + 17 * g.b) (kind_lines_of g d bank second true)
    ≡ sets before at (bank_lines_of g d bank second)
put-bank g ok d bank second before at =
    let boot = kind_lines_of g d bank second false in
    let program = kind_lines_of g d bank second true in
    let size = lines-length g d bank second false g.b ok.q_high (kind_few g ok false) in
    rw (sets_after before at (at + 17 * g.b) boot program (omega (arith, size)))

-- bank 1, and then bank 2: the sheet, and after it what was there
pub put_sheet : (g : Geometry) → InRange g → (d : Device) (one two buffer : List ℕ) → sheet_bytes_of g ≤ length buffer
    → sets (sets buffer 0 (bank_lines_of g d one false)) (17 * pages_of g) (bank_lines_of g d two true) ≡ with_sheet (sheet_of g d one two) buffer
unfolding sheet_of
put_sheet g ok d one two buffer room =
    let first = bank_lines_of g d one false in
    let other = bank_lines_of g d two true in
    sym (sets_after buffer 0 (17 * pages_of g) first other (omega (arith, bank_bytes g ok d one false)))
    ∙ sets_front buffer (first ++ other)
    ∙ rw (take_all (length buffer) (first ++ other) (omega (arith, sheet_bytes g ok d one two)))
