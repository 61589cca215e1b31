-- The order of the programming meets each quad of the bank once: a quad's number in it, and the quad of a number, are each other's.
-- Assumes nothing.
use mathlib.Core.Path.{◌≡◌}
use Prim.Native.Nat.{ℕ, ◌+◌, ◌-◌, ◌*◌, ◌/◌, ◌%◌, ◌≤◌, ◌<◌}
use native.Mathlib.Decide.{dec_lt}
use native.Mathlib.Omega.{arith}
use borrow.Author.Tests.{lt-ltb, le-ltb}
use Rattle.geometry.specs.declared.banks.Geometry.{Geometry}
use Rattle.geometry.specs.Banks.{boot_quads_of, bank_words_of}
use Rattle.update.specs.Actions.{program_quads_of, programmed_quad_of, bank_quads_of, total_of, programming_from}
use Rattle.update.proofs.PlaceLaws.{total_place}
use Rattle.reach.specs.Reach.{programmed_at_of, data_place_of}

module _ (g : Geometry) where
  boot_at : (j : ℕ) → j < boot_quads_of g → programmed_at_of g j ≡ program_quads_of g + j
  unfolding programmed_at_of
  boot_at j h = rw (lt-ltb j (boot_quads_of g) h)

  program_at : (j : ℕ) → boot_quads_of g ≤ j → programmed_at_of g j ≡ j - boot_quads_of g
  unfolding programmed_at_of
  program_at j h = rw (le-ltb j (boot_quads_of g) h)

  pub at_below : (j : ℕ) → j < bank_quads_of g → programmed_at_of g j < bank_quads_of g
  at_below j h = go (dec_lt j (boot_quads_of g))
    where
      go : Dec (j < boot_quads_of g) → programmed_at_of g j < bank_quads_of g
      go (yes l) = omega (arith, boot_at j l)
      go (no l) = omega (arith, program_at j (omega arith))

  -- the quad that is programmed at a quad's number
  pub quad_at_lem : (j : ℕ) → j < bank_quads_of g → programmed_quad_of g (programmed_at_of g j) ≡ j
  unfolding programmed_quad_of
  quad_at_lem j h = go (dec_lt j (boot_quads_of g))
    where
      go : Dec (j < boot_quads_of g) → programmed_quad_of g (programmed_at_of g j) ≡ j
      go (yes l) = rw (boot_at j l, le-ltb (program_quads_of g + j) (program_quads_of g) (omega arith)) (omega arith)
      go (no l) =
          let past : boot_quads_of g ≤ j = omega arith in
          rw (program_at j past, lt-ltb (j - boot_quads_of g) (program_quads_of g) (omega arith)) (omega arith)

  -- the number of the quad that is programmed at x
  at_quad : (x : ℕ) → x < bank_quads_of g → programmed_at_of g (programmed_quad_of g x) ≡ x
  unfolding programmed_quad_of
  at_quad x h = go (dec_lt x (program_quads_of g))
    where
      go : Dec (x < program_quads_of g) → programmed_at_of g (programmed_quad_of g x) ≡ x
      go (yes l) = rw (lt-ltb x (program_quads_of g) l, program_at (boot_quads_of g + x) (omega arith)) (omega arith)
      go (no l) =
          let past : program_quads_of g ≤ x = omega arith in
          rw (le-ltb x (program_quads_of g) past, boot_at (x - program_quads_of g) (omega arith)) (omega arith)

  -- the store of word n of the quad that is programmed at x
  pub word_place : (x n i : ℕ) → x < bank_quads_of g → n < 4 → 4 * programmed_quad_of g x + n ≡ i → data_place_of g i ≡ programming_from g + x * 13 + (1 + n)
  unfolding data_place_of
  word_place x n i l m e =
      let quad : i / 4 ≡ programmed_quad_of g x = omega arith in
      let word : i % 4 ≡ n = omega arith in
      rw (quad, word, at_quad x l)

  -- a word of the bank is one of its quads'
  pub quad_below : (i : ℕ) → i < bank_words_of g → i / 4 < bank_quads_of g
  quad_below i h = omega arith

  pub place_below : (i : ℕ) → i < bank_words_of g → data_place_of g i < total_of g
  unfolding data_place_of
  place_below i h = omega (arith, total_place g, at_below (i / 4) (quad_below i h))
