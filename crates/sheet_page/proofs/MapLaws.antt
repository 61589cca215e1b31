-- The sheet's sides, quads and protection are those of the map: each page stands at one address, and what the map has there is the page.
-- Assumes nothing.
use mathlib.Core.Path.{◌≡◌, refl}
use mathlib.Core.Bool.{Bool, true, false, not, ◌&&◌}
use Prim.Native.Nat.{ℕ, ◌+◌, ◌-◌, ◌*◌, ◌/◌, ◌%◌, ◌<◌}
use native.Mathlib.Nat.{mul-div_cancel, mul-le-mul_right}
use native.Mathlib.Omega.{arith}
use lib.Dec.{eqb, leb}
use Rattle.words.specs.Word.{pick, bit}
use Rattle.geometry.specs.declared.banks.Geometry.{Geometry}
use Rattle.geometry.specs.Banks.{InRange, page_bytes_of, page_words_of, page_quads_of}
use Rattle.map.specs.Windows.{window_start_of, window_bytes_of, located, locate_of, word_index_of, quad_index_of, in_second_of}
use Rattle.map.proofs.WindowLaws.{start_aligned, stands, window_found}
use Rattle.device.specs.declared.record.Device.{Device}
use Rattle.device.specs.Record.{bfswap, pfswap}
use Rattle.protection.specs.Protection.{pwp_of, program_protected_of, page_offset_of, protected_of}
use Rattle.sheet_page.specs.State.{swap_of, upper_of, kind_pages_of, page_index_of}

-- on the side that the sheet gives for a bank's pages, the map has that bank
pub side_of_the_map : (d : Device) (second program : Bool) (offset : ℕ)
    → in_second_of (located program (upper_of d second program) offset) (bfswap d) (pfswap d) ≡ second
side_of_the_map d second program offset = go second (swap_of d program)
  where
    go : (second swap : Bool) → pick (pick second (not swap) swap) (not swap) swap ≡ second
    go true true = refl
    go true false = refl
    go false true = refl
    go false false = refl

-- the first quad of a page is the one that the map has at the page's first byte
pub quads_of_the_map : (g : Geometry) (program upper : Bool) (page : ℕ)
    → quad_index_of g (located program upper (page * page_bytes_of g)) ≡ page_index_of g program page * page_quads_of g
quads_of_the_map g program upper page = go program
  where
    first : page * page_bytes_of g / 16 ≡ page * page_quads_of g
    first =
        let e : page * page_bytes_of g ≡ page * page_quads_of g * 16 = omega arith in
        rw e (mul-div_cancel (page * page_quads_of g) (omega arith))

    go : (program : Bool) → quad_index_of g (located program upper (page * page_bytes_of g)) ≡ page_index_of g program page * page_quads_of g
    go true = rw first (omega arith)
    go false = first

-- and so is its first word
pub words_of_the_map : (g : Geometry) (program upper : Bool) (page : ℕ)
    → word_index_of g (located program upper (page * page_bytes_of g)) ≡ page_index_of g program page * page_words_of g
words_of_the_map g true upper page = omega arith
words_of_the_map g false upper page = omega arith

-- ---- the address of a page

-- the address of a page of a kind on a side
abbrev pub page_address_of : Geometry → Bool → Bool → ℕ → ℕ
page_address_of g program upper page = window_start_of g program upper + page * page_bytes_of g

pub address_aligned : (g : Geometry) (program upper : Bool) (page : ℕ) → page_address_of g program upper page % 4 ≡ 0
address_aligned g program upper page = let start = start_aligned g program upper in omega arith

module _ (g : Geometry) (ok : InRange g) (page : ℕ) where
  -- the window of a kind has room for its pages
  page_in_window : (program : Bool) → page < kind_pages_of g program → page * page_bytes_of g < window_bytes_of g program
  page_in_window true l = omega (arith, mul-le-mul_right g.q l, ok.q_low)
  page_in_window false l = omega (arith, mul-le-mul_right g.q l, ok.q_low)

  pub page_found : (program upper : Bool) → page < kind_pages_of g program
      → locate_of g (page_address_of g program upper page) ≡ located program upper (page * page_bytes_of g)
  page_found program upper l = window_found g ok program upper (page * page_bytes_of g) (page_in_window program l)

  -- a word that is a page's first is in a window of the page's kind, at the page's distance
  same_kind : (kind program : Bool) (offset : ℕ) → page < kind_pages_of g program → offset < window_bytes_of g kind → offset % 4 ≡ 0
      → word_index_of g (located kind false offset) ≡ page_index_of g program page * page_words_of g
      → (kind ≡ program) × (offset ≡ page * page_bytes_of g)
  same_kind true true offset l room aligned e = (refl, omega arith)
  same_kind false false offset l room aligned e = (refl, omega arith)
  same_kind true false offset l room aligned e = absurd (omega (arith, mul-le-mul_right g.q l, ok.q_low))
  same_kind false true offset l room aligned e = absurd (omega arith)

  -- an address at which the map has a page's first word is the page's, on the side that the sheet gives
  pub record PageThere (d : Device) (second program : Bool) (address : ℕ) : Type 0 where
    pub side : (locate_of g address).upper ≡ upper_of d second program
    pub place : address ≡ page_address_of g program (upper_of d second program) page

  pub page_there : (d : Device) (second program : Bool) (address : ℕ) → page < kind_pages_of g program → (locate_of g address).inside ≡ true
      → in_second_of (locate_of g address) (bfswap d) (pfswap d) ≡ second
      → word_index_of g (locate_of g address) ≡ page_index_of g program page * page_words_of g → address % 4 ≡ 0 → PageThere d second program address
  page_there d second program address l inside bank word aligned =
      let at = locate_of g address in
      let s = stands g ok address inside in
      let start = start_aligned g at.program at.upper in
      let (kind, offset) = same_kind at.program program at.offset l s.room (omega (arith, s.address)) word in
      let side = go at.upper (swap_of d program) second (rw kind at bank) in
      record { side = side; place = rw (← side, ← kind, ← offset) s.address }
    where
      go : (upper swap second : Bool) → pick upper (not swap) swap ≡ second → upper ≡ pick second (not swap) swap
      go true true second e = rw (← e)
      go true false second e = rw (← e)
      go false true second e = rw (← e)
      go false false second e = rw (← e)

-- ---- protection by the address

pub program_protection : (g : Geometry) (d : Device) (upper : Bool) (page : ℕ)
    → protected_of g d true upper page ≡ (not (eqb (pwp_of d) 0) && leb (page_address_of g true upper page - 0x1D00_0000) (pwp_of d))
unfolding protected_of program_protected_of
program_protection g d upper page = rw (distance upper)
  where
    distance : (upper : Bool) → page_address_of g true upper page - 0x1D00_0000 ≡ page_offset_of g upper page
    distance true = omega arith
    distance false = omega arith

pub boot_protection : (g : Geometry) (d : Device) (upper : Bool) (page : ℕ)
    → protected_of g d false upper page ≡ bit (pick upper page (8 + page)) d.nvmbwp.0
unfolding protected_of
boot_protection g d upper page = refl
