-- The sequence word: the complement bit by bit and as a number, validity by bits, the new word is valid.
-- Assumes nothing.
use mathlib.Core.Path.{◌≡◌, refl, sym, ap, ◌∙◌}
use mathlib.Core.Bool.{Bool, true, false, not}
use Prim.Native.Nat.{ℕ, ◌+◌, ◌-◌, ◌*◌, ◌/◌, ◌%◌, ◌^◌, ◌≤◌, ◌<◌}
use native.Mathlib.Nat.{mod-eq_of_lt, mul-le-mul}
use native.Mathlib.Omega.{arith}
use lib.Arith.{digits_div, digits_mod, mul_pred}
use lib.Bits.{xor_lt, xor_add_and, and_mask}
use borrow.Author.Tests.{eq-eqb, eqb-true}
use Rattle.words.specs.Word.{bit}
use Rattle.words.specs.Quad.{word_at}
use Rattle.words.proofs.BitLaws.{xor, bit-xor, ones_bit, bit_low, bit_high, equal_below}
use Rattle.geometry.specs.declared.banks.Geometry.{Geometry}
use Rattle.geometry.specs.Banks.{InRange, boot_quads_of, page_quads_of, bank_words_of}
use Rattle.sequence.specs.Sequence.{sequence_quad_of, tseq_of, cseq_of, complement_of, valid_of, sequence_word_of, next_sequence_of}

-- ---- the complement of a half word
pub complement_below : (h : ℕ) → h < 65536 → complement_of h < 65536
unfolding complement_of
complement_below h l = xor_lt 16 h 0xFFFF l (omega arith)

pub complement_bit : (h k : ℕ) → k < 16 → bit k (complement_of h) ≡ not (bit k h)
unfolding complement_of
complement_bit h k l = bit-xor k h 0xFFFF ∙ rw (ones_bit 16 k l) (flip (bit k h))
  where
    flip : (b : Bool) → xor b true ≡ not b
    flip true = refl
    flip false = refl

pub complement_number : (h : ℕ) → h < 65536 → complement_of h ≡ 65535 - h
unfolding complement_of
complement_number h l = omega (arith, xor_add_and h 0xFFFF, and_mask h 16 ∙ mod-eq_of_lt l)

-- ---- validity: each bit of the high half is the complement of its bit of the low half
pub valid_bits : (w : ℕ) → valid_of w ≡ true → (k : ℕ) → k < 16 → bit (16 + k) w ≡ not (bit k w)
unfolding valid_of
valid_bits w h k l =
    sym (bit_high 16 k w)
    ∙ ap (bit k) (eqb-true (cseq_of w) (complement_of (tseq_of w)) h)
    ∙ complement_bit (tseq_of w) k l
    ∙ ap not (bit_low 16 k w l)

pub bits_valid : (w : ℕ) → w < 2 ^ 32 → ((k : ℕ) → k < 16 → bit (16 + k) w ≡ not (bit k w)) → valid_of w ≡ true
unfolding valid_of
bits_valid w h each =
    eq-eqb _ _
    (equal_below 16 (cseq_of w) (complement_of (tseq_of w)) (omega arith) (complement_below (tseq_of w) (omega arith))
    (λ k l. bit_high 16 k w ∙ each k l ∙ ap not (sym (bit_low 16 k w l)) ∙ sym (complement_bit (tseq_of w) k l)))

-- ---- the word of T
module _ (t : ℕ) (h : t < 65536) where
  word_tseq : tseq_of (sequence_word_of t) ≡ t
  unfolding sequence_word_of
  word_tseq = digits_mod (complement_of t) h

  word_cseq : cseq_of (sequence_word_of t) ≡ complement_of t
  unfolding sequence_word_of
  word_cseq = digits_div (complement_of t) h

  word_valid : valid_of (sequence_word_of t) ≡ true
  unfolding valid_of
  word_valid = rw (word_tseq, word_cseq) (eq-eqb (complement_of t) (complement_of t) refl)

  pub word_below : sequence_word_of t < 2 ^ 32
  unfolding sequence_word_of
  word_below = omega (arith, complement_below t h)

-- the new sequence word is valid, and its T is the next
pub next_valid : (w : ℕ) → valid_of (word_at (next_sequence_of w) 0) ≡ true
unfolding next_sequence_of
next_valid w = word_valid ((tseq_of w + 1) % 65536) (omega arith)

pub next_tseq : (w : ℕ) → tseq_of (word_at (next_sequence_of w) 0) ≡ (tseq_of w + 1) % 65536
unfolding next_sequence_of
next_tseq w = word_tseq ((tseq_of w + 1) % 65536) (omega arith)

-- ---- where the sequence quad is: the last of the boot quads, in the last boot page
module _ (g : Geometry) (ok : InRange g) where
  some_quads : 8 ≤ boot_quads_of g
  some_quads = omega (arith, mul-le-mul ok.b_low ok.q_low)

  pub sequence_last : sequence_quad_of g + 1 ≡ boot_quads_of g
  sequence_last = omega (arith, some_quads)

  pub sequence_in_bank : 4 * sequence_quad_of g + 4 ≤ bank_words_of g
  sequence_in_bank = omega (arith, some_quads)

  pub sequence_page : sequence_quad_of g / page_quads_of g + 1 ≡ g.b
  sequence_page =
      let q : 0 < page_quads_of g = omega (arith, ok.q_low) in
      let e : sequence_quad_of g / page_quads_of g ≡ g.b - 1 =
      ap (λ (x : ℕ). x / page_quads_of g) (mul_pred ok.b_low q) ∙ digits_div (g.b - 1) (omega arith) in
      omega (arith, ok.b_low)
