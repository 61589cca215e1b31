-- Which pages of a bank are protected. Protection "follows the mapping": a page's side is that of its bank by the swap bits then.
-- Assumes nothing.
use Rattle.std.specs.Prelude.{ℕ, ◌-◌, Bool, not, leb}
use Rattle.words.specs.Word.{pick}
use Rattle.geometry.specs.declared.banks.Geometry.{Geometry}
use Rattle.device.specs.declared.record.Device.{Device}
use Rattle.device.specs.Record.{bfswap, pfswap}
use Rattle.protection.specs.Protection.{protected_of}

-- "Each of two banks has B boot pages .., then P program pages": the kind of page n of a bank, 0 to N-1, and its number of that kind
abbrev pub is_program_page : Geometry → ℕ → Bool
is_program_page g n = leb g.b n

abbrev pub of_its_kind : Geometry → ℕ → ℕ
of_its_kind g n = pick (is_program_page g n) (n - g.b) n

-- "BFSWAP = 0 puts bank 1's boot pages on the lower alias, 1 bank 2's. PFSWAP does the same for program regions. The other bank is
-- upper.": the side of page n of bank 1, or where `second` of bank 2
abbrev pub is_upper_page : Geometry → Device → Bool → ℕ → Bool
is_upper_page g d second n = let swap = pick (is_program_page g n) (pfswap d) (bfswap d) in pick second (not swap) swap

-- "Program page protected", "Boot page i protected": page n of a bank is, by the device's mapping then
unfoldable pub protected_page_of : Geometry → Device → Bool → ℕ → Bool
protected_page_of g d second n = protected_of g d (is_program_page g n) (is_upper_page g d second n) (of_its_kind g n)
