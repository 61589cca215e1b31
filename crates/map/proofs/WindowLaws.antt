-- Where an address is, for every Q, B and P together: an offset of a window leads back to it, rounding keeps window and page, and
-- a quad that was located lies in its bank.
-- Assumes nothing.
use mathlib.Core.Path.{◌≡◌, refl, sym, ap, ◌∙◌}
use mathlib.Core.Bool.{Bool, true, false, ◌&&◌}
use Prim.Native.Nat.{ℕ, ◌+◌, ◌-◌, ◌*◌, ◌/◌, ◌%◌, ◌≤◌, ◌<◌}
use native.Mathlib.Nat.{mul-le-mul, div-lt_iff_lt-mul, mul-add-div_right, mul_assoc, div-mul-le_self}
use native.Mathlib.Nat.{lt_of_le_of_lt, le_trans, le_refl, suc-mul, mul-div_cancel}
use native.Mathlib.Omega.{arith}
use lib.Dec.{leb, ltb}
use borrow.Author.Tests.{le-leb, lt-leb, le-ltb, lt-ltb, leb-true, ltb-true}
use Rattle.words.specs.Word.{pick}
use Rattle.words.proofs.PickLaws.{and_both}
use Rattle.geometry.specs.declared.banks.Geometry.{Geometry}
use Rattle.map.specs.Windows.{Location}
use Rattle.geometry.specs.Banks.{InRange, page_bytes_of, boot_words_of, boot_quads_of, bank_words_of, round_down_of}
use Rattle.map.specs.Windows.{upper_boot, lower_program, window_start_of, window_bytes_of, located, nowhere}
use Rattle.map.specs.Windows.{in_window_of, or_else, locate_of, page_of, word_index_of, quad_index_of}
use Rattle.geometry.proofs.SizeLaws.{Unit, page_pos, unit_in_page}

-- an address and where it is belong together
pub record Stands (g : Geometry) (a : ℕ) (l : Location) : Type 0 where
  pub address : a ≡ window_start_of g l.program l.upper + l.offset
  pub room : l.offset < window_bytes_of g l.program

-- ---- one window
hit : (g : Geometry) (program upper : Bool) (offset : ℕ) → offset < window_bytes_of g program
    → in_window_of g program upper (window_start_of g program upper + offset) ≡ located program upper offset
unfolding in_window_of
hit g program upper offset h =
    let lo : window_start_of g program upper ≤ window_start_of g program upper + offset = omega arith in
    let back : window_start_of g program upper + offset - window_start_of g program upper ≡ offset = omega arith in
    rw (back, le-leb _ _ lo, lt-ltb _ _ h)

module _ (g : Geometry) (program upper : Bool) (a : ℕ) where
  below : a < window_start_of g program upper → in_window_of g program upper a ≡ nowhere
  unfolding in_window_of
  below h = rw (lt-leb _ _ h)

  past : window_start_of g program upper ≤ a → window_bytes_of g program ≤ a - window_start_of g program upper
      → in_window_of g program upper a ≡ nowhere
  unfolding in_window_of
  past lo hi = rw (le-leb _ _ lo, le-ltb _ _ hi)

  -- what is in the window is there at its distance from the start
  pub record Within : Type 0 where
    pub address : a ≡ window_start_of g program upper + (a - window_start_of g program upper)
    pub room : a - window_start_of g program upper < window_bytes_of g program
    pub here : in_window_of g program upper a ≡ located program upper (a - window_start_of g program upper)

  pub within : (in_window_of g program upper a).inside ≡ true → Within
  unfolding in_window_of
  within h = go (leb start a && ltb (a - start) (window_bytes_of g program)) refl h
    where
      start : ℕ
      start = window_start_of g program upper

      go : (t : Bool) → (leb start a && ltb (a - start) (window_bytes_of g program)) ≡ t
          → (pick t (located program upper (a - start)) nowhere).inside ≡ true → Within
      go true e h =
          let s = and_both (leb start a) (ltb (a - start) (window_bytes_of g program)) e in
          let lo : start ≤ a = leb-true _ _ s.0 in
          record { address = omega arith; room = ltb-true _ _ s.1; here = rw e }
      go false e h = let z : ◌≡◌ {A = ℕ} 0 1 = cc in absurd (omega arith)

  stands_here : (in_window_of g program upper a).inside ≡ true → Stands g a (in_window_of g program upper a)
  stands_here h = let w = within h in rw w.here (record { address = w.address; room = w.room })

-- ---- the four
-- each starts at a word
pub start_aligned : (g : Geometry) (program upper : Bool) → window_start_of g program upper % 4 ≡ 0
start_aligned g true true = omega arith
start_aligned g true false = omega arith
start_aligned g false true = omega arith
start_aligned g false false = omega arith

module _ (g : Geometry) (ok : InRange g) where
  -- an offset of a window leads back to it: the windows do not overlap
  pub window_found : (program upper : Bool) (offset : ℕ) → offset < window_bytes_of g program
      → locate_of g (window_start_of g program upper + offset) ≡ located program upper offset
  unfolding locate_of
  window_found false false offset h = rw (hit g false false offset h)
  window_found false true offset h =
      let a = upper_boot + offset in
      rw (past g false false a (omega arith) (omega (arith, ok.boot_high)), hit g false true offset h)
  window_found true false offset h =
      let a = lower_program + offset in
      rw (below g false false a (omega (arith, ok.program_high)), below g false true a (omega (arith, ok.program_high)), hit g true false offset h)
  window_found true true offset h =
      let a = window_start_of g true true + offset in
      rw (
        below g false false a (omega (arith, ok.program_high)),
        below g false true a (omega (arith, ok.program_high)),
        past g true false a (omega arith) (omega arith),
        hit g true true offset h,
      )

  -- an address that is inside is in its window at its offset
  pub stands : (a : ℕ) → (locate_of g a).inside ≡ true → Stands g a (locate_of g a)
  unfolding locate_of
  stands a =
      either (in_window_of g false false a) _ (stands_here g false false a)
      (either (in_window_of g false true a) _ (stands_here g false true a)
      (either (in_window_of g true false a) _ (stands_here g true false a)
      (stands_here g true true a)))
    where
      either : (l m : Location) → (l.inside ≡ true → Stands g a l) → (m.inside ≡ true → Stands g a m)
          → (or_else l m).inside ≡ true → Stands g a (or_else l m)
      either l m f k = go l.inside refl
        where
          go : (t : Bool) → l.inside ≡ t → (pick t l m).inside ≡ true → Stands g a (pick t l m)
          go true e h = f e
          go false e h = k h

  -- each window starts at a page's boundary
  start_page : (program upper : Bool) → (n : ℕ) × (window_start_of g program upper ≡ n * page_bytes_of g)
  start_page false false = (128 / g.q * 0x7F00, omega (arith, ok.q_divides))
  start_page false true = (128 / g.q * 0x7F08, omega (arith, ok.q_divides))
  start_page true false = (128 / g.q * 0x7400, omega (arith, ok.q_divides))
  start_page true true = (128 / g.q * 0x7400 + g.p, omega (arith, ok.q_divides))

  round_start : (u m : ℕ) → Unit g u m → (program upper : Bool) (offset : ℕ)
      → round_down_of (window_start_of g program upper + offset) u ≡ window_start_of g program upper + round_down_of offset u
  round_start u m unit program upper offset =
      let (n, e) = start_page program upper in
      let whole : window_start_of g program upper ≡ n * m * u = e ∙ ap (λ (x : ℕ). n * x) (sym unit.fills) ∙ sym (mul_assoc n m u) in
      rw (whole, mul-add-div_right unit.some (n * m) offset) (omega arith)

  -- an address rounded down to a quad, a row or a page is in the same window, its offset rounded down
  pub round_found : (u m : ℕ) → Unit g u m → (a : ℕ) → (locate_of g a).inside ≡ true
      → let l = locate_of g a in locate_of g (round_down_of a u) ≡ located l.program l.upper (round_down_of l.offset u)
  round_found u m unit a h =
      let l = locate_of g a in
      let s : Stands g a l = stands a h in
      ap (λ (x : ℕ). locate_of g (round_down_of x u)) s.address
      ∙ ap (locate_of g) (round_start u m unit l.program l.upper l.offset)
      ∙ window_found l.program l.upper (round_down_of l.offset u) (lt_of_le_of_lt (div-mul-le_self l.offset u) s.room)

  -- a window is whole pages
  page_end : (program : Bool) (x : ℕ) → x < window_bytes_of g program
      → round_down_of x (page_bytes_of g) + page_bytes_of g ≤ window_bytes_of g program
  page_end true x h =
      omega (arith, mul-le-mul ((div-lt_iff_lt-mul (page_pos g ok)).1 h) (le_refl (page_bytes_of g)), suc-mul (x / page_bytes_of g) (page_bytes_of g))
  page_end false x h =
      omega (arith, mul-le-mul ((div-lt_iff_lt-mul (page_pos g ok)).1 h) (le_refl (page_bytes_of g)), suc-mul (x / page_bytes_of g) (page_bytes_of g))

  -- the offset of an address that was rounded to a quad, row or page is rounded too
  pub unit_kept : (u m : ℕ) → Unit g u m → (b : ℕ) → (locate_of g (round_down_of b u)).inside ≡ true
      → let l = locate_of g (round_down_of b u) in round_down_of l.offset u ≡ l.offset
  unit_kept u m unit b h =
      let l = locate_of g (round_down_of b u) in
      let s : Stands g (round_down_of b u) l = stands (round_down_of b u) h in
      let again : round_down_of (round_down_of b u) u ≡ round_down_of b u = ap (λ (x : ℕ). x * u) (mul-div_cancel (b / u) unit.some) in
      let moved : round_down_of (window_start_of g l.program l.upper + l.offset) u ≡ window_start_of g l.program l.upper + round_down_of l.offset u =
      round_start u m unit l.program l.upper l.offset in
      let same : window_start_of g l.program l.upper + round_down_of l.offset u ≡ window_start_of g l.program l.upper + l.offset =
      sym moved ∙ ap (λ (x : ℕ). round_down_of x u) (sym s.address) ∙ again ∙ s.address in
      omega (arith, same)

  -- such a quad, row or page lies whole in its window
  pub unit_room : (u m : ℕ) → Unit g u m → (b : ℕ) → (locate_of g (round_down_of b u)).inside ≡ true
      → let l = locate_of g (round_down_of b u) in l.offset + u ≤ window_bytes_of g l.program
  unit_room u m unit b h =
      let l = locate_of g (round_down_of b u) in
      le_trans (rw (unit_kept u m unit b h) at (unit_in_page g ok u m unit l.offset))
      (page_end l.program l.offset (stands (round_down_of b u) h).room)

  -- ---- what is in a window lies in its bank
  module _ (l : Location) (room : l.offset < window_bytes_of g l.program) where
    pub page_below : page_of g l < pick l.program g.p g.b
    page_below = go l.program room
      where
        go : (program : Bool) → l.offset < window_bytes_of g program → page_of g l < pick program g.p g.b
        go true h = (div-lt_iff_lt-mul (page_pos g ok)).1 h
        go false h = (div-lt_iff_lt-mul (page_pos g ok)).1 h

    pub word_in_bank : word_index_of g l < bank_words_of g
    word_in_bank = go l.program room
      where
        go : (program : Bool) → l.offset < window_bytes_of g program
            → pick program (boot_words_of g + l.offset / 4) (l.offset / 4) < bank_words_of g
        go true h = omega arith
        go false h = omega arith

    pub quad_in_bank : 4 * quad_index_of g l + 4 ≤ bank_words_of g
    quad_in_bank = go l.program room
      where
        go : (program : Bool) → l.offset < window_bytes_of g program
            → 4 * pick program (boot_quads_of g + l.offset / 16) (l.offset / 16) + 4 ≤ bank_words_of g
        go true h = omega arith
        go false h = omega arith
