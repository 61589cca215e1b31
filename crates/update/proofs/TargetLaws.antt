-- Each quad and each page of the upper side is its own target: its address is in its window at a multiple of 16 or of a page, so
-- rounding keeps it, and nothing there is protected where PWP ends below the upper region and UBWP is 0.
-- Assumes nothing.
use mathlib.Core.Path.{◌≡◌, refl, ap, ◌∙◌}
use mathlib.Core.Bool.{Bool, true, false, not, and-false}
use mathlib.Core.List.{List}
use Prim.Native.Nat.{ℕ, ◌+◌, ◌-◌, ◌*◌, ◌/◌, ◌^◌, ◌≤◌, ◌<◌}
use native.Mathlib.Nat.{add-zero, mul-div_cancel, mul-lt-mul_of_pos_right, lt_of_mul-lt-mul_right, le_of_mul-le-mul_right}
use native.Mathlib.Omega.{arith}
use lib.Arith.{digits_lt}
use lib.Dec.{eqb, ltb}
use borrow.Author.Tests.{lt-leb, le-ltb, lt-ltb, ltb-true, ltb-false}
use Rattle.words.specs.Word.{pick, bit}
use Rattle.words.specs.Quad.{blank_quad, quad_at}
use Rattle.geometry.specs.declared.banks.Geometry.{Geometry}
use Rattle.map.specs.Windows.{Location}
use Rattle.geometry.specs.Banks.{InRange, pages_of, page_bytes_of, page_quads_of, boot_quads_of, program_bytes_of, round_down_of}
use Rattle.map.specs.Windows.{upper_boot, upper_program, window_start_of, window_bytes_of, located, locate_of, page_of, quad_index_of, in_second_of}
use Rattle.geometry.proofs.SizeLaws.{Unit, quad_unit, page_unit}
use Rattle.map.proofs.WindowLaws.{window_found, round_found, page_below}
use Rattle.device.specs.declared.record.Device.{Device}
use Rattle.device.specs.State.{state}
use Rattle.device.specs.Record.{op_of, bfswap, pfswap}
use Rattle.protection.specs.Protection.{program_protected_of}
use Rattle.nvmop.specs.Operation.{unit_of, target_of, target_begins_of, begins_at_of}
use Rattle.flash.specs.Effect.{step_at_of, step_location_of, blocked_of, effect, effect_at_of, effect_of}
use Rattle.update.specs.Actions.{upper_address_of, bank_quads_of}

-- where quad j of a bank is on the upper side
upper_place_of : Geometry → ℕ → Location
upper_place_of g j = pick (ltb j (boot_quads_of g)) (located false true (16 * j)) (located true true (16 * (j - boot_quads_of g)))

-- no boot page of the upper alias is protected: UBWP is 0
abbrev pub UpperFree : Device → Type 0
UpperFree d = (i : ℕ) → i < 5 → bit i d.nvmbwp.0 ≡ false

module _ (g : Geometry) (ok : InRange g) where
  -- what holds of a boot quad's address and place, and of a program quad's, holds of quad j's
  by_kind : (P : ℕ → Location → Type 0) (j : ℕ)
      → (j < boot_quads_of g → P (upper_boot + 16 * j) (located false true (16 * j)))
      → (boot_quads_of g ≤ j → P (upper_program g + 16 * (j - boot_quads_of g)) (located true true (16 * (j - boot_quads_of g))))
      → P (upper_address_of g j) (upper_place_of g j)
  unfolding upper_address_of upper_place_of
  by_kind P j boot program = go (ltb j (boot_quads_of g)) refl
    where
      go : (t : Bool) → ltb j (boot_quads_of g) ≡ t
          → P (pick t (upper_boot + 16 * j) (upper_program g + 16 * (j - boot_quads_of g)))
          (pick t (located false true (16 * j)) (located true true (16 * (j - boot_quads_of g))))
      go true e = boot (ltb-true _ _ e)
      go false e = program (ltb-false _ _ e)

  pub address_word : (j : ℕ) → j < bank_quads_of g → upper_address_of g j < 2 ^ 32
  address_word j h =
      by_kind (λ (a : ℕ) (l : Location). a < 2 ^ 32) j (λ k. omega (arith, ok.boot_high)) (λ k. omega (arith, ok.program_high))

  place_quad : (j : ℕ) → quad_index_of g (upper_place_of g j) ≡ j
  place_quad j = by_kind (λ (a : ℕ) (l : Location). quad_index_of g l ≡ j) j (λ k. omega arith) (λ k. omega arith)

  -- ---- an address whose offset is a number of units is not rounded
  window_target : (op m : ℕ) → Unit g (unit_of g op) m → (program : Bool) (offset n : ℕ) → offset < window_bytes_of g program → offset ≡ n * unit_of g op
      → target_of g op (window_start_of g program true + offset) ≡ located program true offset
  unfolding target_of
  window_target op m unit program offset n room whole =
      let u = unit_of g op in
      let a = window_start_of g program true + offset in
      let found : locate_of g a ≡ located program true offset = window_found g ok program true offset room in
      let kept : round_down_of offset u ≡ offset = rw (whole, mul-div_cancel n unit.some) in
      round_found g ok u m unit a (ap (λ (l : Location). l.inside) found)
      ∙ ap (λ (l : Location). located l.program l.upper (round_down_of l.offset u)) found
      ∙ ap (located program true) kept

  quad_target : (j : ℕ) → j < bank_quads_of g → target_of g 2 (upper_address_of g j) ≡ upper_place_of g j
  unfolding unit_of
  quad_target j h =
      by_kind (λ (a : ℕ) (l : Location). target_of g 2 a ≡ l) j
      (λ k. window_target 2 _ (quad_unit g ok) false (16 * j) j (omega arith) (omega arith))
      (λ k. window_target 2 _ (quad_unit g ok) true (16 * (j - boot_quads_of g)) (j - boot_quads_of g) (omega arith) (omega arith))

  quads_pos : 0 < page_quads_of g
  quads_pos = omega (arith, ok.q_low)

  -- a page's first quad lies in the bank
  page_first : (p : ℕ) → p < pages_of g → p * page_quads_of g < bank_quads_of g
  page_first p h = mul-lt-mul_of_pos_right h quads_pos

  -- a page that begins past the boot quads is past the boot pages
  past_boot : (p : ℕ) → boot_quads_of g ≤ p * page_quads_of g → p ≡ g.b + (p - g.b)
  past_boot p k = let low : g.b ≤ p = le_of_mul-le-mul_right k quads_pos in omega arith

  page_target : (p : ℕ) → p < pages_of g → target_of g 4 (upper_address_of g (p * page_quads_of g)) ≡ upper_place_of g (p * page_quads_of g)
  unfolding unit_of
  page_target p h =
      by_kind (λ (a : ℕ) (l : Location). target_of g 4 a ≡ l) j
      (λ k. window_target 4 _ (page_unit g ok) false (16 * j) p (omega arith) (omega arith))
      (λ k.
      window_target 4 _ (page_unit g ok) true (16 * (j - boot_quads_of g)) (p - g.b) (omega (arith, page_first p h))
      (omega (arith, ap (λ (n : ℕ). n * g.q) (past_boot p k))))
    where
      j : ℕ
      j = p * page_quads_of g

  -- ---- steps begin there where PWP protects at most the lower region
  place_begins : (j pwp : ℕ) → pwp < program_bytes_of g → target_begins_of g pwp (upper_place_of g j) ≡ true
  unfolding target_begins_of program_protected_of
  place_begins j pwp h =
      let page = 16 * (j - boot_quads_of g) / page_bytes_of g in
      by_kind (λ (a : ℕ) (l : Location). target_begins_of g pwp l ≡ true) j (λ k. refl)
      (λ k. rw (lt-leb (program_bytes_of g + page * page_bytes_of g) pwp (omega arith), and-false (not (eqb pwp 0))))

  pub quad_begins : (j pwp : ℕ) → j < bank_quads_of g → pwp < program_bytes_of g → begins_at_of g 2 (upper_address_of g j) pwp ≡ true
  unfolding begins_at_of
  quad_begins j pwp h l = rw (quad_target j h) (place_begins j pwp l)

  pub page_begins : (p pwp : ℕ) → p < pages_of g → pwp < program_bytes_of g → begins_at_of g 4 (upper_address_of g (p * page_quads_of g)) pwp ≡ true
  unfolding begins_at_of
  page_begins p pwp h l = rw (page_target p h) (place_begins (p * page_quads_of g) pwp l)

  -- ---- quad k of a page is 16 * k bytes after its first: the boot quads are whole pages
  page_place : (p k : ℕ) → k < page_quads_of g
      → let l = upper_place_of g (p * page_quads_of g) in located l.program l.upper (l.offset + 16 * k) ≡ upper_place_of g (p * page_quads_of g + k)
  unfolding upper_place_of
  page_place p k h =
      by_kind (λ (a : ℕ) (l : Location). located l.program l.upper (l.offset + 16 * k) ≡ upper_place_of g (p * page_quads_of g + k)) (p * page_quads_of g)
      boot program
    where
      boot : p * page_quads_of g < boot_quads_of g → located false true (16 * (p * page_quads_of g) + 16 * k) ≡ upper_place_of g (p * page_quads_of g + k)
      boot i =
          let e : 16 * (p * page_quads_of g) + 16 * k ≡ 16 * (p * page_quads_of g + k) = omega arith in
          rw (lt-ltb (p * page_quads_of g + k) (boot_quads_of g) (digits_lt (lt_of_mul-lt-mul_right (page_quads_of g) i) h))
          (ap (located false true) e)

      program : boot_quads_of g ≤ p * page_quads_of g
          → located true true (16 * (p * page_quads_of g - boot_quads_of g) + 16 * k) ≡ upper_place_of g (p * page_quads_of g + k)
      program i =
          let e : 16 * (p * page_quads_of g - boot_quads_of g) + 16 * k ≡ 16 * (p * page_quads_of g + k - boot_quads_of g) = omega arith in
          rw (le-ltb (p * page_quads_of g + k) (boot_quads_of g) (omega arith)) (ap (located true true) e)

  module _ (d : Device) (free : UpperFree d) (agree : pfswap d ≡ bfswap d) (one two sram : List ℕ) where
    -- no step on the upper side is blocked: a boot page there is free, and a program page blocks none
    not_blocked : (j : ℕ) → blocked_of g d (upper_place_of g j) ≡ false
    unfolding blocked_of
    not_blocked j =
        by_kind (λ (a : ℕ) (l : Location). blocked_of g d l ≡ false) j
        (λ k. let l = located false true (16 * j) in free (page_of g l) (omega (arith, page_below g ok l (omega arith), ok.b_high))) (λ k. refl)

    -- it works in the bank that is on the upper side
    in_upper : (j : ℕ) → in_second_of (upper_place_of g j) (bfswap d) (pfswap d) ≡ not (bfswap d)
    in_upper j = by_kind (λ (a : ℕ) (l : Location). in_second_of l (bfswap d) (pfswap d) ≡ not (bfswap d)) j (λ k. refl) (λ k. ap not agree)

    place_effect : (j : ℕ) → step_location_of g d ≡ upper_place_of g j
        → effect_of g (state d one two) sram ≡ effect_at_of d sram (not (bfswap d)) j (quad_at (pick (not (bfswap d)) two one) j)
    unfolding effect_of
    place_effect j at = rw (at, not_blocked j, in_upper j, place_quad j)

    -- step k of a page erase
    pub erase_effect : (p k : ℕ) → p < pages_of g → k < page_quads_of g → op_of d ≡ 4 → d.launched.nvmaddr ≡ upper_address_of g (p * page_quads_of g)
        → d.step ≡ k
        → effect_of g (state d one two) sram ≡ effect false true (not (bfswap d)) (p * page_quads_of g + k) blank_quad
    unfolding step_at_of effect_at_of
    erase_effect p k h l op address step = place_effect (p * page_quads_of g + k) at ∙ erases
      where
        at : step_location_of g d ≡ upper_place_of g (p * page_quads_of g + k)
        at = rw (op, address, step, page_target p h) (page_place p k l)

        erases : effect_at_of d sram (not (bfswap d)) (p * page_quads_of g + k) (quad_at (pick (not (bfswap d)) two one) (p * page_quads_of g + k))
            ≡ effect false true (not (bfswap d)) (p * page_quads_of g + k) blank_quad
        erases = rw op

    -- the step of a quad that is blank
    pub program_effect : (j : ℕ) → j < bank_quads_of g → op_of d ≡ 2 → d.launched.nvmaddr ≡ upper_address_of g j → d.step ≡ 0
        → quad_at (pick (not (bfswap d)) two one) j ≡ blank_quad
        → effect_of g (state d one two) sram ≡ effect false true (not (bfswap d)) j d.launched.nvmdata
    unfolding step_at_of effect_at_of
    program_effect j h op address step blank = place_effect j at ∙ programs
      where
        at : step_location_of g d ≡ upper_place_of g j
        at =
            rw (op, address, step, quad_target j h)
            (by_kind (λ (a : ℕ) (l : Location). located l.program l.upper (l.offset + 0) ≡ l) j (λ k. rw add-zero) (λ k. rw add-zero))

        programs : effect_at_of d sram (not (bfswap d)) j (quad_at (pick (not (bfswap d)) two one) j) ≡ effect false true (not (bfswap d)) j d.launched.nvmdata
        programs = ap (effect_at_of d sram (not (bfswap d)) j) blank ∙ rw op
