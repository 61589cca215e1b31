-- "Banks and map", the sizes: Q, B and P, rows, pages and banks. Assumes nothing.
use Rattle.std.specs.Prelude.{ℕ, ◌+◌, ◌*◌, ◌/◌, ◌≤◌, ◌≡◌, Bool, false, ◌&&◌, ◌||◌, List, [], ◌∷◌, eqb, leb, take, drop}
use Rattle.geometry.specs.declared.banks.Geometry.{Geometry}

abbrev pub one_of : List ℕ → ℕ → Bool
one_of [] x = false
one_of (y ∷ ys) x = eqb x y || one_of ys x

-- "Q quads per row is 1, 2, 4, 8, 16, 32, 64 or 128."
abbrev pub row_sizes : List ℕ
row_sizes = 1 ∷ 2 ∷ 4 ∷ 8 ∷ 16 ∷ 32 ∷ 64 ∷ 128 ∷ []

unfoldable pub listed_of : ℕ → Bool
listed_of q = one_of row_sizes q

-- "B boot pages (1 to 5)", "P program pages (1 to 64)"; W-211: "P goes from 64 to 128"
abbrev pub most_boot_pages : ℕ
most_boot_pages = 5

abbrev pub most_program_pages : ℕ
most_program_pages = 128

-- decline 1 does not apply where P is at most this: "Q, B or P is outside its list or range."
unfoldable pub in_range_up_to : ℕ → Geometry → Bool
in_range_up_to most g =
    listed_of g.q
    && (leb 1 g.b && (leb g.b most_boot_pages && (leb 1 g.p && leb g.p most)))

abbrev pub in_range_of : Geometry → Bool
in_range_of g = in_range_up_to most_program_pages g

-- the same as facts (`in-range` of proofs/SizeLaws): what a `Layout` keeps for the functions that need such a geometry
pub record InRange (g : Geometry) : Type 0 where
  pub q_low : 1 ≤ g.q
  pub q_high : g.q ≤ 128
  pub q_divides : 128 / g.q * g.q ≡ 128
  pub b_low : 1 ≤ g.b
  pub b_high : g.b ≤ most_boot_pages
  pub p_low : 1 ≤ g.p
  pub p_high : g.p ≤ most_program_pages
  pub boot_high : g.b * g.q ≤ most_boot_pages * 128
  pub program_high : g.p * g.q ≤ most_program_pages * 128

-- "N = B+P"
abbrev pub pages_of : Geometry → ℕ
pages_of g = g.b + g.p

-- a row is Q quads of 16 bytes
abbrev pub row_bytes_of : Geometry → ℕ
row_bytes_of g = 16 * g.q

-- "A page is 8 rows .., so 32×Q words or 128×Q bytes."
abbrev pub page_bytes_of : Geometry → ℕ
page_bytes_of g = 128 * g.q

abbrev pub page_words_of : Geometry → ℕ
page_words_of g = 32 * g.q

abbrev pub page_quads_of : Geometry → ℕ
page_quads_of g = 8 * g.q

-- "Each of two banks has B boot pages .., then P program pages"
abbrev pub boot_bytes_of : Geometry → ℕ
boot_bytes_of g = g.b * page_bytes_of g

abbrev pub boot_words_of : Geometry → ℕ
boot_words_of g = g.b * page_words_of g

abbrev pub boot_quads_of : Geometry → ℕ
boot_quads_of g = g.b * page_quads_of g

abbrev pub program_bytes_of : Geometry → ℕ
program_bytes_of g = g.p * page_bytes_of g

-- "A bank is lent as N×32×Q words."
abbrev pub bank_words_of : Geometry → ℕ
bank_words_of g = pages_of g * page_words_of g

-- page n of a bank: 32×Q words from word n×32×Q on
abbrev pub page_at : Geometry → List ℕ → ℕ → List ℕ
page_at g bank n = take (page_words_of g) (drop (n * page_words_of g) bank)

-- "rounded down to 16, 16×Q or 128×Q bytes"
abbrev pub round_down_of : ℕ → ℕ → ℕ
round_down_of address unit = address / unit * unit
