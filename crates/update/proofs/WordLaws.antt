-- A torn erase keeps every 1 of the word it erases, and a torn program every 1 of the word it programs. A valid word has one 1 in each pair
-- of places k and 16 + k, so a word with all its ones is that word or has a pair of ones. Such a pair stays, is invalid, and so loses.
-- Assumes nothing.
use mathlib.Core.Path.{◌≡◌, refl, sym, ap, ◌∙◌}
use mathlib.Core.Bool.{Bool, true, false, not, ◌&&◌, ◌||◌, or-true}
use mathlib.Core.List.{List, [], ◌∷◌}
use mathlib.Core.Logic.{◌⊎◌, inl, inr, ⊎_elim}
use Prim.Native.Nat.{ℕ, ◌+◌, ◌-◌, ◌%◌, ◌^◌, ◌≤◌, ◌<◌}
use native.Mathlib.Omega.{arith}
use native.Mathlib.Decide.{dec_le}
use lib.Dec.{eqb}
use lib.Bits.{bit_and, bit_xor, and_le_l, xor_lt}
use borrow.Author.Tests.{eq-eqb, eqb-true, eqb-false, not-false, lt-ltb, le-ltb}
use Rattle.words.specs.Word.{pick, bit, merge_of, all_ones}
use Rattle.words.specs.Quad.{word_at, merge_quad_of, blank_quad}
use Rattle.words.proofs.BitLaws.{true_not_false, bit-and, merge_bit, equal_below, equal_by_bits, bit_zero, ones_bit, bit_above, bit_low, bit_high}
use Rattle.words.proofs.PickLaws.{pick_same, pick_both}
use Rattle.sequence.specs.Sequence.{tseq_of, cseq_of, valid_of, next_sequence_of}
use Rattle.sequence.specs.Comparison.{bfswap_of}
use Rattle.sequence.proofs.SequenceLaws.{valid_bits, word_below, next_valid, next_tseq}
use Rattle.sequence.proofs.ComparisonLaws.{both_valid, only_first, only_second}
use Rattle.update.specs.Start.{clash_of}

-- no bit falls
abbrev Rises : ℕ → ℕ → Type 0
Rises a b = (k : ℕ) → bit k a ≡ true → bit k b ≡ true

-- ---- tearing
-- all ones has every 1 of a word
ones_rise : (w : ℕ) → w < 2 ^ 32 → Rises w all_ones
ones_rise w h k e = go (dec_le 32 k)
  where
    go : Dec (32 ≤ k) → bit k all_ones ≡ true
    go (yes l) = true_not_false (sym e ∙ bit_above 32 k w h l)
    go (no l) = ones_bit 32 k (omega arith)

-- words torn while erasing only gain ones, and words torn while programming from all ones keep the ones of what is programmed
pub erase_rises : (mask w : ℕ) → w < 2 ^ 32 → Rises w (merge_of mask all_ones w)
erase_rises mask w h k e = merge_bit k mask all_ones w ∙ pick_both (λ t. t ≡ true) (bit k mask) (ones_rise w h k e) e

program_rises : (mask v : ℕ) → v < 2 ^ 32 → Rises v (merge_of mask v all_ones)
program_rises mask v h k e = merge_bit k mask v all_ones ∙ pick_both (λ t. t ≡ true) (bit k mask) e (ones_rise v h k e)

-- a merge of two words is a word, whatever the mask
pub merge_word_lem : (mask a b : ℕ) → a < 2 ^ 32 → b < 2 ^ 32 → merge_of mask a b < 2 ^ 32
merge_word_lem mask a b ha hb =
    xor_lt 32 (bit_and (bit_xor a b) mask) b (omega (arith, and_le_l (bit_xor a b) mask, xor_lt 32 a b ha hb)) hb

merge_ones : (mask : ℕ) → merge_of mask all_ones all_ones ≡ all_ones
merge_ones mask = equal_by_bits _ _ (λ k. merge_bit k mask all_ones all_ones ∙ pick_same (bit k mask) (bit k all_ones))

-- ---- a bit position at 1 in both halves
halves_bit : (w k : ℕ) → k < 16 → bit k (bit_and (tseq_of w) (cseq_of w)) ≡ (bit k w && bit (16 + k) w)
halves_bit w k l = bit-and k (tseq_of w) (cseq_of w) ∙ rw (bit_low 16 k w l, bit_high 16 k w)

pub clash_bits : (w : ℕ) → clash_of w ≡ false → (k : ℕ) → k < 16 → (bit k w && bit (16 + k) w) ≡ false
unfolding clash_of
clash_bits w h k l = sym (halves_bit w k l) ∙ ap (bit k) (eqb-true _ 0 (not-false _ h)) ∙ bit_zero k

pub no_clash : (w : ℕ) → ((k : ℕ) → k < 16 → (bit k w && bit (16 + k) w) ≡ false) → clash_of w ≡ false
unfolding clash_of
no_clash w each =
    ap not
    (eq-eqb _ 0
    (equal_below 16 (bit_and (tseq_of w) (cseq_of w)) 0 (omega (arith, and_le_l (tseq_of w) (cseq_of w))) (omega arith)
    (λ k l. halves_bit w k l ∙ each k l ∙ sym (bit_zero k))))

clash_invalid : (w : ℕ) → clash_of w ≡ true → valid_of w ≡ false
clash_invalid w h = go (valid_of w) refl
  where
    never : (t : Bool) → (t && not t) ≡ false
    never true = refl
    never false = refl

    go : (t : Bool) → valid_of w ≡ t → t ≡ false
    go true e = sym h ∙ no_clash w (λ k l. rw (valid_bits w e k l) (never (bit k w)))
    go false e = refl

clash_rises : (a b : ℕ) → clash_of a ≡ true → Rises a b → clash_of b ≡ true
clash_rises a b h up = go (clash_of b) refl
  where
    table : (p q r s : Bool) → (p ≡ true → r ≡ true) → (q ≡ true → s ≡ true) → (r && s) ≡ false → (p && q) ≡ false
    table true true r s f g e = sym (ap (λ (t : Bool). t && s) (f refl) ∙ g refl) ∙ e
    table true false r s f g e = refl
    table false q r s f g e = refl

    go : (t : Bool) → clash_of b ≡ t → t ≡ true
    go true e = refl
    go false e =
        sym (no_clash a (λ k l. table (bit k a) (bit (16 + k) a) (bit k b) (bit (16 + k) b) (up k) (up (16 + k)) (clash_bits b e k l))) ∙ h

pub erased_clash : clash_of all_ones ≡ true
unfolding clash_of
erased_clash = refl

-- a word that has every one of a valid word is that word, or has a position at 1 in both halves
settle : (a b : ℕ) → a < 2 ^ 32 → b < 2 ^ 32 → valid_of a ≡ true → Rises a b → (b ≡ a) ⊎ (clash_of b ≡ true)
settle a b ha hb ok up = go (clash_of b) refl
  where
    -- of a pair of bits of a, the second is the complement of the first
    table : (p q r s : Bool) → q ≡ not p → (p ≡ true → r ≡ true) → (q ≡ true → s ≡ true) → (r && s) ≡ false → (r ≡ p) × (s ≡ q)
    table true true r s n f g e = true_not_false n
    table true false true s n f g e = (refl, e)
    table true false false s n f g e = (f refl, true_not_false (sym (f refl)))
    table false true true s n f g e = true_not_false (sym (g refl) ∙ e)
    table false true false s n f g e = (refl, g refl)
    table false false r s n f g e = true_not_false (sym n)

    pair : clash_of b ≡ false → (k : ℕ) → k < 16 → (bit k b ≡ bit k a) × (bit (16 + k) b ≡ bit (16 + k) a)
    pair e k l =
        table (bit k a) (bit (16 + k) a) (bit k b) (bit (16 + k) b) (valid_bits a ok k l) (up k) (up (16 + k)) (clash_bits b e k l)

    each : clash_of b ≡ false → (k : ℕ) → k < 32 → Dec (16 ≤ k) → bit k b ≡ bit k a
    each e k l (yes i) = let j : 16 + (k - 16) ≡ k = omega arith in rw j at (pair e (k - 16) (omega arith)).1
    each e k l (no i) = (pair e k (omega arith)).0

    go : (t : Bool) → clash_of b ≡ t → (b ≡ a) ⊎ (t ≡ true)
    go true e = inr refl
    go false e = inl (equal_below 32 b a hb ha (λ k l. each e k l (dec_le 16 k)))

-- ---- which bank a reset chooses
-- BFSWAP for the sequence words of the old bank, which is bank 2 where b, and of the other
abbrev pub chosen_of : Bool → ℕ → ℕ → Bool
chosen_of b old new = pick b (bfswap_of new old) (bfswap_of old new)

-- the new bank's sequence word loses, and goes on losing while it only gains ones
pub record Loses (b : Bool) (old new : ℕ) : Type 0 where
  pub chosen : chosen_of b old new ≡ b
  pub safe : (valid_of new || clash_of new) ≡ true

pub clash_loses : (b : Bool) (old new : ℕ) → valid_of old ≡ true → clash_of new ≡ true → Loses b old new
clash_loses b old new ok h =
    record {
      chosen = chosen b;
      safe = rw h (or-true (valid_of new));
    }
  where
    chosen : (b : Bool) → chosen_of b old new ≡ b
    chosen true = only_second new old (clash_invalid new h) ok
    chosen false = only_first old new ok (clash_invalid new h)

pub rises_loses : (b : Bool) (old new next : ℕ) → valid_of old ≡ true → new < 2 ^ 32 → next < 2 ^ 32
    → Loses b old new → Rises new next → Loses b old next
rises_loses b old new next ok hn hx lost up = go (valid_of new) refl
  where
    settled : (next ≡ new) ⊎ (clash_of next ≡ true) → Loses b old next
    settled (inl e) = rw e lost
    settled (inr h) = clash_loses b old next ok h

    go : (t : Bool) → valid_of new ≡ t → Loses b old next
    go true e = settled (settle new next hn hx e up)
    go false e = clash_loses b old next ok (clash_rises new next (rw e at lost.safe) up)

-- the new sequence word wins
pub next_wins : (b : Bool) (old : ℕ) → valid_of old ≡ true → eqb (tseq_of old) 65535 ≡ false
    → chosen_of b old (word_at (next_sequence_of old) 0) ≡ not b
next_wins b old ok more = go b (word_at (next_sequence_of old) 0) (next_valid old) higher
  where
    higher : tseq_of old < tseq_of (word_at (next_sequence_of old) 0)
    higher = let ne : tseq_of old ≡ 65535 → ⊥ = eqb-false (tseq_of old) 65535 more in omega (arith, next_tseq old)

    go : (b : Bool) (new : ℕ) → valid_of new ≡ true → tseq_of old < tseq_of new → chosen_of b old new ≡ not b
    go true new valid h = both_valid new old valid ok ∙ le-ltb (tseq_of new) (tseq_of old) (omega arith)
    go false new valid h = both_valid old new ok valid ∙ lt-ltb (tseq_of old) (tseq_of new) h

pub next_word : (old : ℕ) → word_at (next_sequence_of old) 0 < 2 ^ 32
unfolding next_sequence_of
next_word old = word_below ((tseq_of old + 1) % 65536) (omega arith)

-- a valid word torn while it is programmed from all ones
torn_word : (mask v : ℕ) → v < 2 ^ 32 → valid_of v ≡ true → (merge_of mask v all_ones ≡ v) ⊎ (clash_of (merge_of mask v all_ones) ≡ true)
torn_word mask v h ok = settle v (merge_of mask v all_ones) h (merge_word_lem mask v all_ones h (omega arith)) ok (program_rises mask v h)

-- a torn new sequence quad is whole, or its word has a position at 1 in both halves
pub torn_sequence : (mask : List ℕ) (old : ℕ)
    → (merge_quad_of mask (next_sequence_of old) blank_quad ≡ next_sequence_of old)
    ⊎ (clash_of (word_at (merge_quad_of mask (next_sequence_of old) blank_quad) 0) ≡ true)
unfolding next_sequence_of
torn_sequence mask old =
    ⊎_elim
    (λ e. inl (λ k. e k ∷ merge_ones (word_at mask 1) k ∷ merge_ones (word_at mask 2) k ∷ merge_ones (word_at mask 3) k ∷ []))
    (λ h. inr h)
    (torn_word (word_at mask 0) (word_at (next_sequence_of old) 0) (next_word old) (next_valid old))
