-- W-204, "Page sheet": each byte of the sheet by its page and its position in the line, the call that writes it, and that this fixes the
-- call. Assumes nothing.
use Rattle.std.specs.Prelude.{ℕ, ◌+◌, ◌*◌, ◌-◌, ◌/◌, ◌%◌, ◌^◌, ◌≤◌, ◌<◌, ◌≡◌, Bool, true, false, not, ◌&&◌, List, [], ◌∷◌}
use Rattle.std.specs.Prelude.{◌⊎◌, eqb, leb, length, get_or, take, drop, set, replicate}
use Rattle.words.specs.Word.{pick, bit}
use Rattle.words.specs.Quad.{word_at}
use Rattle.words.specs.Lists.{Ascending}
use Rattle.words.specs.Decline.{number_of}
use Rattle.geometry.specs.declared.banks.Geometry.{Geometry}
use Rattle.map.specs.Windows.{locate_of, word_index_of, in_second_of}
use Rattle.device.specs.declared.record.Device.{Device}
use Rattle.device.specs.Record.{bfswap, pfswap}
use Rattle.device.specs.Builders.{power_on}
use Rattle.common_declines.specs.CommonDecline.{Usable, CommonDeclines}
use Rattle.sheet.specs.Sheet.{Given, page_sheet_of}

-- ---- pages

-- "B boot pages .., then P program pages": the number in its bank of page i of its kind, and how many there are of a kind
abbrev pub page_in_bank : Geometry → Bool → ℕ → ℕ
page_in_bank g program i = pick program (g.b + i) i

abbrev pub pages_of_kind : Geometry → Bool → ℕ
pages_of_kind g program = pick program g.p g.b

-- "One line a page, bank 1 then bank 2, boot then program, ascending": the line of page i of a kind, from line 0
abbrev pub line_number_of : Geometry → Bool → Bool → ℕ → ℕ
line_number_of g second program i = pick second (g.b + g.p) 0 + page_in_bank g program i

-- the map puts page n of bank 1 or, with second, bank 2 at this address: there is its first word
pub record PageAt (g : Geometry) (d : Device) (second : Bool) (n address : ℕ) : Type 0 where
  pub inside : (locate_of g address).inside ≡ true
  pub bank : in_second_of (locate_of g address) (bfswap d) (pfswap d) ≡ second
  pub word : word_index_of g (locate_of g address) ≡ n * (32 * g.q)
  pub aligned : address % 4 ≡ 0

-- quad j of page n of a bank has a word other than all ones
pub record Used (g : Geometry) (bank : List ℕ) (n j : ℕ) : Type 0 where
  pub word : ℕ
  pub below : word < 4
  pub not_ones : word_at bank (n * (32 * g.q) + 4 * j + word) ≡ 0xFFFF_FFFF → ⊥

-- ---- lines

-- a number "right-aligned" in so many columns, by the byte at each position: digit k, counted from the right, stands k before the last;
-- "Number padding is blanks."
pub record RightAligned (at : ℕ → ℕ) (last columns n : ℕ) : Type 0 where
  pub fits : n < 10 ^ columns
  pub digit : (k : ℕ) → k < columns → (k ≡ 0) ⊎ (10 ^ k ≤ n) → at (last - k) ≡ 48 + n / 10 ^ k % 10
  pub padding : (k : ℕ) → k < columns → 0 < k → n < 10 ^ k → at (last - k) ≡ 32

-- the line of page i of a kind, by the byte at each of its positions 0 to 16, in ASCII
pub record Line (g : Geometry) (d : Device) (bank : List ℕ) (second program : Bool) (i : ℕ) (at : ℕ → ℕ) : Type 0 where
  -- "bank": 1 or 2
  pub number : at 0 ≡ pick second 50 49
  -- "B or P"
  pub kind : at 2 ≡ pick program 80 66
  -- "page of its kind from 0 in three columns right-aligned"
  pub page : RightAligned at 6 3 i
  -- "L or U for its present side": L exactly where the map puts it into a lower window
  pub side : (address : ℕ) → PageAt g d second (page_in_bank g program i) address → at 8 ≡ pick (locate_of g address).upper 85 76
  -- "1 if protected else 0": "PWP not 0 and the page's offset from 0x1D000000 at most PWP"; "LBWPi or UBWPi of its alias"
  pub program_protected : program ≡ true → (address : ℕ) → PageAt g d second (page_in_bank g program i) address
      → let pwp = d.nvmpwp.0 % 2 ^ 24 in at 10 ≡ pick (not (eqb pwp 0) && leb (address - 0x1D00_0000) pwp) 49 48
  pub boot_protected : program ≡ false → (address : ℕ) → PageAt g d second (page_in_bank g program i) address
      → at 10 ≡ pick (bit (pick (locate_of g address).upper i (8 + i)) d.nvmbwp.0) 49 48
  -- "quads that aren't all ones in four columns right-aligned"
  pub quads : List ℕ
  pub used : Ascending (Used g bank (page_in_bank g program i)) (8 * g.q) quads
  pub count : RightAligned at 15 4 (length quads)
  -- "blank" between them, and "line feed"
  pub blanks : (at 1 ≡ 32) × ((at 3 ≡ 32) × ((at 7 ≡ 32) × ((at 9 ≡ 32) × (at 11 ≡ 32))))
  pub line_feed_lem : at 16 ≡ 10

-- ---- the call

-- what W-204 asks of the answer to a request, and of what it leaves in the lent buffer
pub record PageSheet (g : Geometry) (d : Device) (one two buffer : List ℕ) (a : Given) : Type 0 where
  pub declines : CommonDeclines g d (length one ∷ length two ∷ []) 0 (number_of a.decline)
  -- "Turned away: 18, after 1 to 3, the buffer is shorter than the sheet."
  pub too_short : Usable g d (length one ∷ length two ∷ []) 0 → length buffer < 34 * (g.b + g.p) → number_of a.decline ≡ 18
  pub accepted : Usable g d (length one ∷ length two ∷ []) 0 → 34 * (g.b + g.p) ≤ length buffer → number_of a.decline ≡ 0
  -- declined it leaves the buffer, and the bytes are 0 (ours)
  pub declined : (number_of a.decline ≡ 0 → ⊥) → (a.bytes ≡ 0) × (a.buffer ≡ buffer)
  -- "Each line is 17 bytes, and the sheet 34×N."
  pub written : number_of a.decline ≡ 0 → (a.bytes ≡ 34 * (g.b + g.p)) × (length a.buffer ≡ length buffer)
  pub lines : number_of a.decline ≡ 0 → (second program : Bool) (i : ℕ) → i < pages_of_kind g program
      → Line g d (pick second two one) second program i (λ column. get_or a.buffer (17 * line_number_of g second program i + column) 0)
  -- "Bytes past the sheet keep their contents."
  pub rest : number_of a.decline ≡ 0 → (k : ℕ) → 34 * (g.b + g.p) ≤ k → get_or a.buffer k 0 ≡ get_or buffer k 0

-- ---- two lines, computed: a sign with one page of each kind after power-on; bank 1 is erased but for its sequence word, bank 2 has zeros

abbrev pub small_sign : Geometry
small_sign = record { q = 1; b = 1; p = 1 }

abbrev pub small_sheet : List ℕ
small_sheet =
    (page_sheet_of small_sign power_on (set (replicate 64 0xFFFF_FFFF) 28 0xFFFE_0001) (replicate 64 0) (replicate 70 7)).buffer

pub record PageSheets : Type 0 where
  -- every request is answered so, and no other answer is as asked
  pub meets : (g : Geometry) (d : Device) (one two buffer : List ℕ) → PageSheet g d one two buffer (page_sheet_of g d one two buffer)
  pub fixes : (g : Geometry) (d : Device) (one two buffer : List ℕ) (a : Given) → PageSheet g d one two buffer a
      → a ≡ page_sheet_of g d one two buffer
  -- 1 B   0 L 1    1
  pub first_line : take 17 small_sheet
      ≡ 49 ∷ 32 ∷ 66 ∷ 32 ∷ 32 ∷ 32 ∷ 48 ∷ 32 ∷ 76 ∷ 32 ∷ 49 ∷ 32 ∷ 32 ∷ 32 ∷ 32 ∷ 49 ∷ 10 ∷ []
  -- 2 P   0 U 0    8, and the two bytes past the sheet
  pub last_line : drop 51 small_sheet
      ≡ 50 ∷ 32 ∷ 80 ∷ 32 ∷ 32 ∷ 32 ∷ 48 ∷ 32 ∷ 85 ∷ 32 ∷ 48 ∷ 32 ∷ 32 ∷ 32 ∷ 32 ∷ 56 ∷ 10 ∷ 7 ∷ 7 ∷ []
