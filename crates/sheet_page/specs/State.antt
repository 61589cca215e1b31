-- What the sheet says of a page: its side, whether it is protected, and its quads that are not all ones. Assumes nothing.
use Rattle.std.specs.Prelude.{ℕ, zero, suc, ◌+◌, ◌*◌, Bool, not, List}
use Rattle.words.specs.Word.{pick}
use Rattle.words.specs.Quad.{quad_at, is_blank_of}
use Rattle.geometry.specs.declared.banks.Geometry.{Geometry}
use Rattle.geometry.specs.Banks.{page_quads_of}
use Rattle.device.specs.declared.record.Device.{Device}
use Rattle.device.specs.Record.{bfswap, pfswap}
use Rattle.protection.specs.Protection.{protected_of}
use Rattle.sheet_page.specs.declared.PageState.{PageState}

-- "quads that aren't all ones": 1 for such a quad
abbrev pub used_of : List ℕ → ℕ
used_of quad = pick (is_blank_of quad) 0 1

-- how many of the quads first to first + n - 1 of a bank are such
abbrev pub used_quads_of : List ℕ → ℕ → ℕ → ℕ
used_quads_of bank first zero = 0
used_quads_of bank first (suc n) = used_quads_of bank first n + used_of (quad_at bank (first + n))

-- "its present side" goes by BFSWAP for a boot page; "PFSWAP does the same for program regions."
abbrev pub swap_of : Device → Bool → Bool
swap_of d program = pick program (pfswap d) (bfswap d)

-- "BFSWAP = 0 puts bank 1's boot pages on the lower alias, 1 bank 2's.", "The other bank is upper." Whether the pages of a kind of bank 1
-- or, with second, bank 2 are upper (`side_of_the_map` of proofs/MapLaws: as the map has them)
abbrev pub upper_of : Device → Bool → Bool → Bool
upper_of d second program = pick second (not (swap_of d program)) (swap_of d program)

-- the pages of a kind: "B boot pages", "P program pages"
abbrev pub kind_pages_of : Geometry → Bool → ℕ
kind_pages_of g program = pick program g.p g.b

-- "B boot pages", "then P program pages": the number in its bank of a page of its kind
abbrev pub page_index_of : Geometry → Bool → ℕ → ℕ
page_index_of g program page = pick program (g.b + page) page

-- what the sheet says of a page; "protected" goes by its side, and its 8×Q quads stand in the bank after those of the pages before it
-- (`quads_of_the_map` of proofs/MapLaws: as the map has them)
unfoldable pub page_state_of : Geometry → Device → List ℕ → Bool → Bool → ℕ → PageState
page_state_of g d bank second program page =
    record {
      second = second;
      program = program;
      page = page;
      upper = upper_of d second program;
      protected = protected_of g d program (upper_of d second program) page;
      quads = used_quads_of bank (page_index_of g program page * page_quads_of g) (page_quads_of g);
    }
