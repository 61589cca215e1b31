-- A page of a kind is a page of its bank, and its quads lie there; at most so many quads count as there are.
-- Assumes nothing.
use mathlib.Core.Bool.{Bool, true, false}
use mathlib.Core.List.{List}
use Prim.Native.Nat.{ℕ, zero, suc, ◌+◌, ◌*◌, ◌≤◌, ◌<◌}
use native.Mathlib.Omega.{arith}
use mir.Val.{bool_byte}
use Rattle.words.specs.Quad.{quad_at, is_blank_of}
use Rattle.words.proofs.PickLaws.{pick_both}
use Rattle.geometry.specs.declared.banks.Geometry.{Geometry}
use Rattle.geometry.specs.Banks.{InRange, pages_of, page_quads_of, bank_words_of}
use Rattle.geometry.proofs.SizeLaws.{page_in_bank_lem}
use Rattle.sheet_page.specs.State.{used_of, used_quads_of, kind_pages_of, page_index_of}

pub index_in_bank : (g : Geometry) (program : Bool) (page : ℕ) → page < kind_pages_of g program → page_index_of g program page < pages_of g
index_in_bank g true page l = omega arith
index_in_bank g false page l = omega arith

pub quads_in_bank : (g : Geometry) → InRange g → (program : Bool) (page : ℕ) → page < kind_pages_of g program
    → 4 * (page_index_of g program page * page_quads_of g + page_quads_of g) ≤ bank_words_of g
quads_in_bank g ok program page l = omega (arith, page_in_bank_lem g ok (page_index_of g program page) (index_in_bank g program page l))

-- a test, as a number, counts for 1 at most
pub test_one : (t : Bool) → bool_byte t ≤ 1
test_one true = omega arith
test_one false = omega arith

-- a quad counts for 1 at most, and so many quads for so many
used_one : (quad : List ℕ) → used_of quad ≤ 1
used_one quad = pick_both (λ n. n ≤ 1) (is_blank_of quad) (omega arith) (omega arith)

pub used_at_most : (bank : List ℕ) (first n : ℕ) → used_quads_of bank first n ≤ n
used_at_most bank first zero = omega arith
used_at_most bank first (suc n) = omega (arith, used_at_most bank first n, used_one (quad_at bank (first + n)))
