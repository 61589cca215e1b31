-- "Registers", protected pages. Assumes nothing.
use Rattle.std.specs.Prelude.{ℕ, zero, suc, ◌+◌, ◌*◌, ◌%◌, Bool, false, not, ◌&&◌, ◌||◌, eqb, leb}
use Rattle.words.specs.Word.{pick, bit}
use Rattle.geometry.specs.declared.banks.Geometry.{Geometry}
use Rattle.geometry.specs.Banks.{page_bytes_of, program_bytes_of}
use Rattle.device.specs.declared.record.Device.{Device}

-- "PWP 23 to 0"
abbrev pub pwp_of : Device → ℕ
pwp_of d = d.nvmpwp.0 % 0x100_0000

-- "Program page protected: PWP not 0 and the page's offset from 0x1D000000 at most PWP."
unfoldable pub program_protected_of : ℕ → ℕ → Bool
program_protected_of pwp offset = not (eqb pwp 0) && leb offset pwp

-- the offset of program page i of a side: the upper region is directly after the lower
abbrev pub page_offset_of : Geometry → Bool → ℕ → ℕ
page_offset_of g upper page = pick upper (program_bytes_of g + page * page_bytes_of g) (page * page_bytes_of g)

-- "Boot page i protected: LBWPi or UBWPi of its alias."
abbrev pub boot_protected_of : Device → Bool → ℕ → Bool
boot_protected_of d upper page = bit (pick upper page (8 + page)) d.nvmbwp.0

-- a page by its kind, its side and its number of that kind
unfoldable pub protected_of : Geometry → Device → Bool → Bool → ℕ → Bool
protected_of g d program upper page =
    pick program (program_protected_of (pwp_of d) (page_offset_of g upper page)) (boot_protected_of d upper page)

-- some page below page n of a program region is protected
unfoldable pub any_protected_of : Geometry → ℕ → Bool → ℕ → Bool
any_protected_of g pwp upper zero = false
any_protected_of g pwp upper (suc page) = any_protected_of g pwp upper page || program_protected_of pwp (page_offset_of g upper page)
