-- The list by the paper's numbers and addresses is the list of actions, and it is as long as the total. Assumes nothing.
use mathlib.Core.Path.{◌≡◌, refl, sym, ◌∙◌}
use mathlib.Core.List.{List}
use Prim.Native.Nat.{ℕ, zero, suc, ◌+◌, ◌-◌, ◌*◌, ◌%◌, ◌≤◌, ◌<◌}
use native.Mathlib.Nat.{mul-lt-mul_of_pos_right}
use native.Mathlib.Decide.{ℕ_discrete, dec_le}
use native.Mathlib.Omega.{arith}
use lib.Dec.{eqb}
use lib.ListN.{length, length-append, length-replicate}
use borrow.Author.Tests.{eq-eqb, ne_eqb, lt-ltb, le-ltb}
use Rattle.words.specs.Word.{pick}
use Rattle.words.specs.Quad.{word_at, quad_at}
use Rattle.words.proofs.CaseLaws.{below_four}
use Rattle.words.proofs.QuadLaws.{quad_word}
use Rattle.geometry.specs.declared.banks.Geometry.{Geometry}
use Rattle.geometry.specs.Banks.{InRange, pages_of, page_quads_of, boot_quads_of}
use Rattle.geometry.proofs.SizeLaws.{in-range}
use Rattle.sequence.specs.Sequence.{sequence_quad_of, sequence_word_of, next_sequence_of}
use Rattle.sequence.proofs.SequenceLaws.{complement_number}
use Rattle.update.specs.Actions.{blocks, upper_address_of, page_block, quad_block, erased_page_of, program_quads_of, programmed_quad_of, new_quad_of}
use Rattle.update.specs.Actions.{bank_quads_of, actions_of}
use Rattle.update.specs.StartSentences.{list_total}
use Rattle.update.specs.ListSentences.{erased_at, erased, programmed_at, programmed_word, programmed_data, programmed, the_list, ListSentences}
use Rattle.update.proofs.BankLaws.{program_quad, boot_quad, both_parts, sequence_last, quad_once, new_sequence, new_other}
use Rattle.update.proofs.ActionLaws.{length-blocks}

-- blocks that agree below n are one list
same_blocks : {A : Type 0} (n : ℕ) (f h : ℕ → List A) → ((i : ℕ) → i < n → f i ≡ h i) → blocks n f ≡ blocks n h
same_blocks zero f h same = refl
same_blocks (suc n) f h same = rw (same_blocks n f h (λ i l. same i (omega arith)), same n (omega arith))

-- the new sequence quad, word by word
next_data : (w n : ℕ) → n < 4 → let t = (w % 65536 + 1) % 65536 in
    word_at (next_sequence_of w) n ≡ pick (eqb n 0) (t + 65536 * (65535 - t)) 0xFFFF_FFFF
unfolding next_sequence_of sequence_word_of
next_data w = below_four _ (omega (arith, complement_number ((w % 65536 + 1) % 65536) (omega arith))) refl refl refl

module _ (g : Geometry) (ok : InRange g) where
  -- ---- where a page begins on the upper side: a boot page, a program page, and the one that is erased as number i
  boot_at : (page : ℕ) → page < g.b → upper_address_of g (page * page_quads_of g) ≡ 0x1FC2_0000 + page * (128 * g.q)
  unfolding upper_address_of
  boot_at page l =
      let below : page * page_quads_of g < boot_quads_of g = mul-lt-mul_of_pos_right l (omega (arith, ok.q_low)) in
      rw (lt-ltb (page * page_quads_of g) (boot_quads_of g) below) (omega arith)

  program_at : (k : ℕ) → upper_address_of g ((g.b + k) * page_quads_of g) ≡ 0x1D00_0000 + (g.p + k) * (128 * g.q)
  unfolding upper_address_of
  program_at k = rw (le-ltb ((g.b + k) * page_quads_of g) (boot_quads_of g) (omega arith)) (omega arith)

  page_at_lem : (i : ℕ) → upper_address_of g (erased_page_of g i * page_quads_of g) ≡ erased_at g i
  unfolding erased_page_of
  page_at_lem i = go (ℕ_discrete i 0) (dec_le g.b i)
    where
      go : Dec (i ≡ 0) → Dec (g.b ≤ i) → upper_address_of g (erased_page_of g i * page_quads_of g) ≡ erased_at g i
      go (yes e) d = rw e (boot_at (g.b - 1) (omega (arith, ok.b_low)))
      go (no ne) (no l) = rw (ne_eqb i 0 ne, lt-ltb i g.b (omega arith)) (boot_at (i - 1) (omega arith))
      go (no ne) (yes l) =
          let e : g.b + (i - g.b) ≡ i = omega arith in
          rw (ne_eqb i 0 ne, le-ltb i g.b l) (rw e at (program_at (i - g.b)))

  -- ---- where the quad is that is programmed as number i, and its first word in a bank
  abbrev boot_from : ℕ
  boot_from = 8 * g.q * g.p

  quad_at_lem : (i : ℕ) → i < bank_quads_of g → upper_address_of g (programmed_quad_of g i) ≡ programmed_at g i
  unfolding upper_address_of
  quad_at_lem i h = go (dec_le (program_quads_of g) i)
    where
      go : Dec (program_quads_of g ≤ i) → upper_address_of g (programmed_quad_of g i) ≡ programmed_at g i
      go (yes l) =
          let below : i - program_quads_of g < boot_quads_of g = omega (arith, both_parts g ok) in
          rw (boot_quad g ok i l, lt-ltb (i - program_quads_of g) (boot_quads_of g) below, le-ltb i boot_from (omega arith)) (omega arith)
      go (no l) =
          let at = program_quad g ok i (omega arith) in
          rw (at, le-ltb (boot_quads_of g + i) (boot_quads_of g) (omega arith), lt-ltb i boot_from (omega arith)) (omega arith)

  quad_from_lem : (i : ℕ) → 4 * programmed_quad_of g i ≡ programmed_word g i
  quad_from_lem i = go (dec_le (program_quads_of g) i)
    where
      go : Dec (program_quads_of g ≤ i) → 4 * programmed_quad_of g i ≡ programmed_word g i
      go (yes l) = rw (boot_quad g ok i l, le-ltb i boot_from (omega arith)) (omega arith)
      go (no l) = rw (program_quad g ok i (omega arith), lt-ltb i boot_from (omega arith)) (omega arith)

  -- ---- what is programmed there: the sequence quad comes last and nowhere else
  only_last : (i : ℕ) → i < bank_quads_of g → programmed_quad_of g i ≡ sequence_quad_of g → suc i ≡ bank_quads_of g
  only_last i h e =
      let last = bank_quads_of g - 1 in
      omega (arith, quad_once g ok i last h (omega arith) (e ∙ sym (sequence_last g ok last (omega arith))))

  page_same : (i : ℕ) → page_block g (erased_page_of g i) ≡ erased g i
  page_same i = rw (page_at_lem i)

  module _ (image : List ℕ) (w : ℕ) where
    abbrev quad : ℕ → List ℕ
    quad i = new_quad_of g image w (programmed_quad_of g i)

    quad_data : (i : ℕ) → i < bank_quads_of g → (n : ℕ) → n < 4 → word_at (quad i) n ≡ programmed_data g image w i n
    quad_data i h n l = go (ℕ_discrete (suc i) (bank_quads_of g))
      where
        count : ℕ
        count = 8 * g.q * (g.b + g.p)

        go : Dec (suc i ≡ bank_quads_of g) → word_at (quad i) n ≡ programmed_data g image w i n
        go (yes e) = rw (sequence_last g ok i e, new_sequence g image w, eq-eqb (i + 1) count (omega arith)) (next_data w n l)
        go (no ne) =
            let other : quad i ≡ quad_at image (programmed_quad_of g i) = new_other g image w (programmed_quad_of g i) (λ e. ne (only_last i h e)) in
            rw (other, ne_eqb (i + 1) count (λ e. ne (omega arith)), sym (quad_from_lem i)) (quad_word image (programmed_quad_of g i) n l)

    quad_same : (i : ℕ) → i < bank_quads_of g → quad_block g (programmed_quad_of g i) (quad i) ≡ programmed g image w i
    quad_same i h =
        let word = quad_data i h in
        rw (quad_at_lem i h, word 0 (omega arith), word 1 (omega arith), word 2 (omega arith), word 3 (omega arith))

    list_same : actions_of g image w ≡ the_list g image w
    unfolding actions_of
    list_same =
        let count : bank_quads_of g ≡ 8 * g.q * (g.b + g.p) = omega arith in
        rw (same_blocks (pages_of g) _ (erased g) (λ i l. page_same i), same_blocks (bank_quads_of g) _ (programmed g image w) quad_same, count)

-- ---- how long it is
erased_length : (g : Geometry) (i : ℕ) → length (erased g i) ≡ 8 + 8 * g.q
erased_length g i = simp (length-append, length-replicate) (omega arith)

list_length : (g : Geometry) (image : List ℕ) (w : ℕ) → length (the_list g image w) ≡ list_total g
list_length g image w =
    let pages = g.b + g.p in
    let quads = 8 * g.q * pages in
    let erase = length-blocks (8 + 8 * g.q) (erased g) (erased_length g) pages in
    let program = length-blocks 13 (programmed g image w) (λ i. refl) quads in
    omega (arith, length-append (blocks pages (erased g)) (blocks quads (programmed g image w)), erase, program)

pub list_sentences : ListSentences
list_sentences = record { same = λ g h. list_same g (in-range g h); total = list_length }
