-- "Banks and map", the four windows and where an address stands in them. Assumes nothing.
use Rattle.std.specs.Prelude.{ℕ, ◌+◌, ◌-◌, ◌/◌, Bool, true, false, not, ◌&&◌, leb, ltb}
use Rattle.words.specs.Word.{pick}
use Rattle.geometry.specs.declared.banks.Geometry.{Geometry}
use Rattle.geometry.specs.Banks.{boot_bytes_of, boot_words_of, boot_quads_of, program_bytes_of, page_bytes_of}

-- "lower boot alias 0x1FC00000, upper boot alias 0x1FC20000"
abbrev pub lower_boot : ℕ
lower_boot = 0x1FC0_0000

abbrev pub upper_boot : ℕ
upper_boot = 0x1FC2_0000

-- "lower program region 0x1D000000, upper region directly after it"
abbrev pub lower_program : ℕ
lower_program = 0x1D00_0000

abbrev pub upper_program : Geometry → ℕ
upper_program g = lower_program + program_bytes_of g

-- a window by its kind (boot, or program) and its side (lower, or upper): its first address and its bytes
abbrev pub window_start_of : Geometry → Bool → Bool → ℕ
window_start_of g program upper = pick program (pick upper (upper_program g) lower_program) (pick upper upper_boot lower_boot)

-- "each B pages", "each P pages"
abbrev pub window_bytes_of : Geometry → Bool → ℕ
window_bytes_of g program = pick program (program_bytes_of g) (boot_bytes_of g)

-- where an address stands: inside a window or not, its kind and side, and the offset in bytes from its start
pub record Location : Type 0 where
  pub inside : Bool
  pub program : Bool
  pub upper : Bool
  pub offset : ℕ

abbrev pub located : Bool → Bool → ℕ → Location
located program upper offset = record { inside = true; program = program; upper = upper; offset = offset }

-- outside the four windows; kind, side and offset are then false and 0 (ours; nothing reads them)
abbrev pub nowhere : Location
nowhere = record { inside = false; program = false; upper = false; offset = 0 }

-- where an address stands in one window
unfoldable pub in_window_of : Geometry → Bool → Bool → ℕ → Location
in_window_of g program upper a =
    pick (leb (window_start_of g program upper) a && ltb (a - window_start_of g program upper) (window_bytes_of g program))
    (located program upper (a - window_start_of g program upper)) nowhere

abbrev pub or_else : Location → Location → Location
or_else l m = pick l.inside l m

-- "These aliases and regions are the four windows.": where an address stands in them
unfoldable pub locate_of : Geometry → ℕ → Location
locate_of g a =
    or_else (in_window_of g false false a)
    (or_else (in_window_of g false true a)
    (or_else (in_window_of g true false a)
    (in_window_of g true true a)))

-- the page of its kind, from 0
abbrev pub page_of : Geometry → Location → ℕ
page_of g l = l.offset / page_bytes_of g

-- a bank's boot pages come first: the index of the word, and of the quad, in its bank
abbrev pub word_index_of : Geometry → Location → ℕ
word_index_of g l = pick l.program (boot_words_of g + l.offset / 4) (l.offset / 4)

abbrev pub quad_index_of : Geometry → Location → ℕ
quad_index_of g l = pick l.program (boot_quads_of g + l.offset / 16) (l.offset / 16)

-- "BFSWAP = 0 puts bank 1's boot pages on the lower alias, 1 bank 2's. PFSWAP does the same for program regions.
-- The other bank is upper." Whether bank 2 stands there
abbrev pub in_second_of : Location → Bool → Bool → Bool
in_second_of l bfswap pfswap = pick l.upper (not (pick l.program pfswap bfswap)) (pick l.program pfswap bfswap)
