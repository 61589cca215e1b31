-- A bank while it is erased and programmed. A write of a quad changes that quad alone; the two orders meet every quad of the bank, and that
-- of the programming meets each once, the sequence quad last. So after each write the quads so far are as intended and the others as before.
-- Assumes nothing.
use mathlib.Core.Path.{◌≡◌, refl, sym, ap, ◌∙◌}
use mathlib.Core.List.{List, [], ◌∷◌}
use mathlib.Core.Logic.{◌⊎◌, inl, inr}
use Prim.Native.Nat.{ℕ, zero, suc, ◌+◌, ◌-◌, ◌*◌, ◌/◌, ◌%◌, ◌^◌, ◌≤◌, ◌<◌}
use native.Mathlib.Nat.{mul-le-mul, mod-lt, div-add-mod', div-lt_iff_lt-mul}
use native.Mathlib.Decide.{ℕ_discrete, dec_le}
use native.Mathlib.Omega.{arith}
use lib.Arith.{digits_lt, digits_div, digits_mod}
use lib.Dec.{eqb, ltb}
use lib.ListN.{length, set}
use lib.Seq.{ext_get_or}
use borrow.Author.Tests.{eq-eqb, ne_eqb, lt-ltb, le-ltb}
use Rattle.words.specs.Quad.{word_at, quad_at, put_quad, blank_quad}
use Rattle.words.proofs.PickLaws.{pick_both}
use Rattle.words.proofs.QuadLaws.{put_length, put_other_quad, put_same_quad, quad_word}
use Rattle.geometry.specs.declared.banks.Geometry.{Geometry}
use Rattle.geometry.specs.Banks.{InRange, pages_of, page_quads_of, boot_quads_of, bank_words_of}
use Rattle.sequence.specs.Sequence.{sequence_quad_of, sequence_index_of, next_sequence_of}
use Rattle.update.specs.Actions.{erased_page_of, program_quads_of, programmed_quad_of, new_quad_of, bank_quads_of}

-- quad x of the erasing
unfoldable pub erased_quad_of : Geometry → ℕ → ℕ
erased_quad_of g x = erased_page_of g (x / page_quads_of g) * page_quads_of g + x % page_quads_of g

-- the first quads of the erasing are blank
abbrev pub Erased : Geometry → List ℕ → ℕ → Type 0
Erased g bank count = (x : ℕ) → x < count → quad_at bank (erased_quad_of g x) ≡ blank_quad

-- the first quads of the programming are those of the new bank, and the others blank
pub record Programmed (g : Geometry) (image : List ℕ) (w : ℕ) (bank : List ℕ) (count : ℕ) : Type 0 where
  pub written : (x : ℕ) → x < count → quad_at bank (programmed_quad_of g x) ≡ new_quad_of g image w (programmed_quad_of g x)
  pub blank : (x : ℕ) → count ≤ x → x < bank_quads_of g → quad_at bank (programmed_quad_of g x) ≡ blank_quad

-- ---- quads and words
-- a list of four words
abbrev Four : List ℕ → Type 0
Four quad = quad_at quad 0 ≡ quad

-- the quad that was written, and another
put_four : (bank : List ℕ) (j : ℕ) (quad : List ℕ) → Four quad → 4 * j + 4 ≤ length bank → quad_at (put_quad bank j quad) j ≡ quad
put_four bank j quad four room = put_same_quad bank j (word_at quad 0) (word_at quad 1) (word_at quad 2) (word_at quad 3) room ∙ four

other_quad : (bank : List ℕ) (i : ℕ) (quad : List ℕ) (j : ℕ) → (j ≡ i → ⊥) → quad_at (put_quad bank i quad) j ≡ quad_at bank j
other_quad bank i quad j ne = put_other_quad bank i quad j (go (dec_le i j))
  where
    go : Dec (i ≤ j) → (j < i) ⊎ (i < j)
    go (yes l) = inr (omega arith)
    go (no l) = inl (omega arith)

-- banks with the same quads are equal
by_quads : (n : ℕ) (one two : List ℕ) → length one ≡ 4 * n → length two ≡ 4 * n
    → ((j : ℕ) → j < n → quad_at one j ≡ quad_at two j) → one ≡ two
by_quads n one two long too same = ext_get_or 0 one two (long ∙ sym too) word
  where
    word : (v : ℕ) → v < length one → word_at one v ≡ word_at two v
    word v l =
        let e : 4 * (v / 4) + v % 4 ≡ v = omega arith in
        let k : v % 4 < 4 = omega arith in
        ap (word_at one) (sym e)
        ∙ sym (quad_word one (v / 4) (v % 4) k)
        ∙ ap (λ (quad : List ℕ). word_at quad (v % 4)) (same (v / 4) (omega arith))
        ∙ quad_word two (v / 4) (v % 4) k
        ∙ ap (word_at two) e

new_four : (g : Geometry) (image : List ℕ) (w j : ℕ) → Four (new_quad_of g image w j)
unfolding new_quad_of next_sequence_of
new_four g image w j = pick_both (λ (quad : List ℕ). quad_at quad 0 ≡ quad) (eqb j (sequence_quad_of g)) refl refl

pub new_sequence : (g : Geometry) (image : List ℕ) (w : ℕ) → new_quad_of g image w (sequence_quad_of g) ≡ next_sequence_of w
unfolding new_quad_of
new_sequence g image w = rw (eq-eqb (sequence_quad_of g) (sequence_quad_of g) refl)

pub new_other : (g : Geometry) (image : List ℕ) (w j : ℕ) → (j ≡ sequence_quad_of g → ⊥) → new_quad_of g image w j ≡ quad_at image j
unfolding new_quad_of
new_other g image w j ne = rw (ne_eqb j (sequence_quad_of g) ne)

module _ (g : Geometry) (ok : InRange g) where
  page_pos : 0 < page_quads_of g
  page_pos = omega (arith, ok.q_low)

  some_boot : 8 ≤ boot_quads_of g
  some_boot = omega (arith, mul-le-mul ok.b_low ok.q_low)

  some_program : 8 ≤ program_quads_of g
  some_program = omega (arith, mul-le-mul ok.p_low ok.q_low)

  pub both_parts : bank_quads_of g ≡ boot_quads_of g + program_quads_of g
  both_parts = omega arith

  word_count : bank_words_of g ≡ 4 * bank_quads_of g
  word_count = omega arith

  pub some_quads : 0 < bank_quads_of g
  some_quads = omega (arith, both_parts, some_boot)

  -- a quad of the bank lies in it
  pub quad_room : (bank : List ℕ) → length bank ≡ bank_words_of g → (j : ℕ) → j < bank_quads_of g → 4 * j + 4 ≤ length bank
  quad_room bank long j h = omega (arith, word_count)

  -- ---- the order of the erasing
  boot_page : (i : ℕ) → suc i < g.b → erased_page_of g (suc i) ≡ i
  unfolding erased_page_of
  boot_page i h = rw (ne_eqb (suc i) 0 (λ e. omega arith), lt-ltb (suc i) g.b h) (omega arith)

  program_page : (i : ℕ) → g.b ≤ i → erased_page_of g i ≡ i
  unfolding erased_page_of
  program_page i h = rw (ne_eqb i 0 (λ e. omega (arith, ok.b_low)), le-ltb i g.b h)

  pub page_below : (i : ℕ) → i < pages_of g → erased_page_of g i < pages_of g
  unfolding erased_page_of
  page_below i h =
      pick_both (λ (p : ℕ). p < pages_of g) (eqb i 0) (omega (arith, ok.b_low))
      (pick_both (λ (p : ℕ). p < pages_of g) (ltb i g.b) (omega arith) h)

  -- every page is met
  page_met : (p : ℕ) → p < pages_of g → (i : ℕ) × (i < pages_of g) × (erased_page_of g i ≡ p)
  unfolding erased_page_of
  page_met p h = go (dec_le g.b p) (dec_le g.b (suc p))
    where
      go : Dec (g.b ≤ p) → Dec (g.b ≤ suc p) → (i : ℕ) × (i < pages_of g) × (erased_page_of g i ≡ p)
      go (yes l) d = (p, h, program_page p l)
      go (no l) (yes m) = (0, omega (arith, ok.b_low), omega arith)
      go (no l) (no m) = (suc p, omega arith, boot_page p (omega arith))

  pub page_quad : (i k : ℕ) → k < page_quads_of g → erased_quad_of g (i * page_quads_of g + k) ≡ erased_page_of g i * page_quads_of g + k
  unfolding erased_quad_of
  page_quad i k h = rw (digits_div i h, digits_mod i h)

  erased_below : (x : ℕ) → x < bank_quads_of g → erased_quad_of g x < bank_quads_of g
  unfolding erased_quad_of
  erased_below x h = digits_lt (page_below (x / page_quads_of g) ((div-lt_iff_lt-mul page_pos).1 h)) (mod-lt x page_pos)

  -- every quad is met
  quad_met : (j : ℕ) → j < bank_quads_of g → (x : ℕ) × (x < bank_quads_of g) × (erased_quad_of g x ≡ j)
  quad_met j h =
      let q = page_quads_of g in
      let k : j % q < q = mod-lt j page_pos in
      let met = page_met (j / q) ((div-lt_iff_lt-mul page_pos).1 h) in (
        met.0 * q + j % q,
        digits_lt met.1 k,
        page_quad met.0 (j % q) k ∙ ap (λ (p : ℕ). p * q + j % q) met.2 ∙ div-add-mod' j q,
      )

  -- ---- the order of the programming
  pub program_quad : (x : ℕ) → x < program_quads_of g → programmed_quad_of g x ≡ boot_quads_of g + x
  unfolding programmed_quad_of
  program_quad x h = rw (lt-ltb x (program_quads_of g) h)

  pub boot_quad : (x : ℕ) → program_quads_of g ≤ x → programmed_quad_of g x ≡ x - program_quads_of g
  unfolding programmed_quad_of
  boot_quad x h = rw (le-ltb x (program_quads_of g) h)

  pub quad_below : (x : ℕ) → x < bank_quads_of g → programmed_quad_of g x < bank_quads_of g
  quad_below x h = go (dec_le (program_quads_of g) x)
    where
      go : Dec (program_quads_of g ≤ x) → programmed_quad_of g x < bank_quads_of g
      go (yes l) = omega (arith, boot_quad x l, both_parts, some_program)
      go (no l) = omega (arith, program_quad x (omega arith), both_parts)

  -- no quad is met twice
  pub quad_once : (x y : ℕ) → x < bank_quads_of g → y < bank_quads_of g → programmed_quad_of g x ≡ programmed_quad_of g y → x ≡ y
  quad_once x y h i e = go (dec_le (program_quads_of g) x) (dec_le (program_quads_of g) y)
    where
      go : Dec (program_quads_of g ≤ x) → Dec (program_quads_of g ≤ y) → x ≡ y
      go (yes l) (yes m) = omega (arith, boot_quad x l, boot_quad y m)
      go (yes l) (no m) = omega (arith, boot_quad x l, program_quad y (omega arith), both_parts)
      go (no l) (yes m) = omega (arith, program_quad x (omega arith), boot_quad y m, both_parts)
      go (no l) (no m) = omega (arith, program_quad x (omega arith), program_quad y (omega arith))

  -- every quad is met
  quad_found : (j : ℕ) → j < bank_quads_of g → (x : ℕ) × (x < bank_quads_of g) × (programmed_quad_of g x ≡ j)
  quad_found j h = go (dec_le (boot_quads_of g) j)
    where
      go : Dec (boot_quads_of g ≤ j) → (x : ℕ) × (x < bank_quads_of g) × (programmed_quad_of g x ≡ j)
      go (yes l) =
          let x = j - boot_quads_of g in
          (x, omega arith, omega (arith, program_quad x (omega (arith, both_parts))))
      go (no l) =
          let x = program_quads_of g + j in
          (x, omega (arith, both_parts), omega (arith, boot_quad x (omega arith)))

  -- the sequence quad comes last
  pub sequence_last : (x : ℕ) → suc x ≡ bank_quads_of g → programmed_quad_of g x ≡ sequence_quad_of g
  sequence_last x e = omega (arith, boot_quad x (omega (arith, both_parts, some_boot)), both_parts, some_boot)

  sequence_below : sequence_quad_of g < bank_quads_of g
  sequence_below = omega (arith, both_parts, some_boot)

  module _ (bank : List ℕ) (long : length bank ≡ bank_words_of g) where
    -- the next quad is erased
    pub erased_next : (x : ℕ) → x < bank_quads_of g → Erased g bank x → Erased g (put_quad bank (erased_quad_of g x) blank_quad) (suc x)
    erased_next x h erased y l = go (ℕ_discrete (erased_quad_of g y) (erased_quad_of g x)) (ℕ_discrete y x)
      where
        go : Dec (erased_quad_of g y ≡ erased_quad_of g x) → Dec (y ≡ x)
            → quad_at (put_quad bank (erased_quad_of g x) blank_quad) (erased_quad_of g y) ≡ blank_quad
        go (yes e) d = rw e (put_four bank (erased_quad_of g x) blank_quad refl (quad_room bank long (erased_quad_of g x) (erased_below x h)))
        go (no e) (yes d) = absurd (e (ap (erased_quad_of g) d))
        go (no e) (no d) = other_quad bank (erased_quad_of g x) blank_quad (erased_quad_of g y) e ∙ erased y (omega arith)

    erased_all : Erased g bank (bank_quads_of g) → (j : ℕ) → j < bank_quads_of g → quad_at bank j ≡ blank_quad
    erased_all erased j h = let met = quad_met j h in ap (quad_at bank) (sym met.2) ∙ erased met.0 met.1

    -- the programming begins
    pub programmed_none : (image : List ℕ) (w : ℕ) → Erased g bank (bank_quads_of g) → Programmed g image w bank 0
    programmed_none image w erased = record {
      written = λ x l. absurd (omega arith);
      blank = λ x l h. erased_all erased (programmed_quad_of g x) (quad_below x h);
    }

    -- the next quad is programmed
    pub programmed_next : (image : List ℕ) (w x : ℕ) → x < bank_quads_of g → Programmed g image w bank x
        → Programmed g image w (put_quad bank (programmed_quad_of g x) (new_quad_of g image w (programmed_quad_of g x))) (suc x)
    programmed_next image w x h so_far = record { written = λ y l. now y l (ℕ_discrete y x); blank = later }
      where
        quad : List ℕ
        quad = new_quad_of g image w (programmed_quad_of g x)

        other : (y : ℕ) → y < bank_quads_of g → (y ≡ x → ⊥)
            → quad_at (put_quad bank (programmed_quad_of g x) quad) (programmed_quad_of g y) ≡ quad_at bank (programmed_quad_of g y)
        other y l ne = other_quad bank (programmed_quad_of g x) quad (programmed_quad_of g y) (λ e. ne (quad_once y x l h e))

        now : (y : ℕ) → y < suc x → Dec (y ≡ x)
            → quad_at (put_quad bank (programmed_quad_of g x) quad) (programmed_quad_of g y) ≡ new_quad_of g image w (programmed_quad_of g y)
        now y l (yes e) =
            rw e
            (put_four bank (programmed_quad_of g x) quad (new_four g image w (programmed_quad_of g x))
            (quad_room bank long (programmed_quad_of g x) (quad_below x h)))
        now y l (no e) = other y (omega arith) e ∙ so_far.written y (omega arith)

        later : (y : ℕ) → suc x ≤ y → y < bank_quads_of g → quad_at (put_quad bank (programmed_quad_of g x) quad) (programmed_quad_of g y) ≡ blank_quad
        later y l i = other y i (λ e. omega arith) ∙ so_far.blank y (omega arith) i

    -- before the last quad the sequence quad is blank
    pub sequence_blank : (image : List ℕ) (w x : ℕ) → x < bank_quads_of g → Programmed g image w bank x → quad_at bank (sequence_quad_of g) ≡ blank_quad
    sequence_blank image w x h so_far =
        let last = bank_quads_of g - 1 in
        ap (quad_at bank) (sym (sequence_last last (omega arith))) ∙ so_far.blank last (omega arith) (omega arith)

    -- in the end the bank is the image with the new sequence quad
    pub programmed_all : (image : List ℕ) (w : ℕ) → length image ≡ bank_words_of g → Programmed g image w bank (bank_quads_of g)
        → bank ≡ put_quad image (sequence_quad_of g) (next_sequence_of w)
    programmed_all image w size all =
        by_quads (bank_quads_of g) bank (put_quad image s (next_sequence_of w)) (long ∙ word_count)
        (put_length image s (next_sequence_of w) ∙ size ∙ word_count)
        (λ j h. ours j h ∙ theirs j (ℕ_discrete j s))
      where
        s : ℕ
        s = sequence_quad_of g

        ours : (j : ℕ) → j < bank_quads_of g → quad_at bank j ≡ new_quad_of g image w j
        ours j h = let found = quad_found j h in rw found.2 at (all.written found.0 found.1)

        theirs : (j : ℕ) → Dec (j ≡ s) → new_quad_of g image w j ≡ quad_at (put_quad image s (next_sequence_of w)) j
        theirs j (yes e) =
            rw (e, new_sequence g image w)
            (sym (put_four image s (next_sequence_of w) (rw (new_sequence g image w) at (new_four g image w s)) (quad_room image size s sequence_below)))
        theirs j (no e) = new_other g image w j e ∙ sym (other_quad image s (next_sequence_of w) j e)

  module _ (bank : List ℕ) (long : length bank ≡ bank_words_of g) where
    -- the last quad, once it is whole, makes the bank whole
    pub programmed_last : (image : List ℕ) (w x : ℕ) → suc x ≡ bank_quads_of g → length image ≡ bank_words_of g → Programmed g image w bank x
        → put_quad bank (sequence_quad_of g) (next_sequence_of w) ≡ put_quad image (sequence_quad_of g) (next_sequence_of w)
    programmed_last image w x last size so_far =
        let next = programmed_next bank long image w x (omega arith) so_far in
        programmed_all (put_quad bank (sequence_quad_of g) (next_sequence_of w)) (put_length bank (sequence_quad_of g) (next_sequence_of w) ∙ long)
        image w size (rw (sequence_last x last, new_sequence g image w, last) at next)

  -- the sequence word of a bank after a quad is written
  pub other_word : (bank : List ℕ) (j : ℕ) (quad : List ℕ) → (j ≡ sequence_quad_of g → ⊥)
      → word_at (put_quad bank j quad) (sequence_index_of g) ≡ word_at bank (sequence_index_of g)
  other_word bank j quad ne = ap (λ (q : List ℕ). word_at q 0) (other_quad bank j quad (sequence_quad_of g) (λ e. ne (sym e)))

  pub same_word : (bank : List ℕ) (a b c d : ℕ) → length bank ≡ bank_words_of g
      → word_at (put_quad bank (sequence_quad_of g) (a ∷ b ∷ c ∷ d ∷ [])) (sequence_index_of g) ≡ a
  same_word bank a b c d long =
      ap (λ (q : List ℕ). word_at q 0) (put_same_quad bank (sequence_quad_of g) a b c d (quad_room bank long (sequence_quad_of g) sequence_below))

-- ---- words of 32 bits stay such
set_word : (words : List ℕ) (i a v : ℕ) → word_at words v < 2 ^ 32 → a < 2 ^ 32 → word_at (set words i a) v < 2 ^ 32
set_word [] i a v h l = h
set_word (x ∷ xs) zero a zero h l = l
set_word (x ∷ xs) zero a (suc v) h l = h
set_word (x ∷ xs) (suc i) a zero h l = h
set_word (x ∷ xs) (suc i) a (suc v) h l = set_word xs i a v h l

pub words_put : (bank : List ℕ) (j : ℕ) (quad : List ℕ) → ((v : ℕ) → word_at bank v < 2 ^ 32) → ((k : ℕ) → k < 4 → word_at quad k < 2 ^ 32)
    → (v : ℕ) → word_at (put_quad bank j quad) v < 2 ^ 32
words_put bank j quad words small v =
    let one = set bank (4 * j) (word_at quad 0) in
    let two = set one (4 * j + 1) (word_at quad 1) in
    let three = set two (4 * j + 2) (word_at quad 2) in
    set_word three (4 * j + 3) (word_at quad 3) v
    (set_word two (4 * j + 2) (word_at quad 2) v
    (set_word one (4 * j + 1) (word_at quad 1) v
    (set_word bank (4 * j) (word_at quad 0) v (words v) (small 0 (omega arith))) (small 1 (omega arith))) (small 2 (omega arith)))
    (small 3 (omega arith))
