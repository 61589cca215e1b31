-- What a cut leaves: the old bank as it was, and a new bank that loses the comparison or is whole. A torn erase only gains ones in the
-- sequence word, a torn programming of the last quad is whole or leaves a position at 1 in both halves, and every other tear lies elsewhere.
-- Assumes nothing.
use mathlib.Core.Path.{◌≡◌, refl, sym, ap, ◌∙◌}
use mathlib.Core.Bool.{Bool, true, false, not}
use mathlib.Core.List.{List}
use mathlib.Core.Logic.{◌⊎◌, inl, inr}
use Prim.Native.Nat.{ℕ, suc, ◌+◌, ◌-◌, ◌^◌, ◌<◌}
use native.Mathlib.Nat.{add-zero, eq-or-lt_of_le}
use native.Mathlib.Decide.{ℕ_discrete}
use native.Mathlib.Omega.{arith}
use lib.Dec.{lit<}
use lib.ListN.{length}
use Rattle.words.specs.Word.{all_ones, merge_of}
use Rattle.words.specs.Quad.{word_at, quad_at, put_quad, blank_quad, merge_quad_of}
use Rattle.words.specs.Decline.{accepted_of}
use Rattle.words.proofs.BitLaws.{true_not_false, merge_bit, bit_zero, equal_by_bits}
use Rattle.words.proofs.QuadLaws.{put_length, merge_quad_word}
use Rattle.geometry.specs.Banks.{InRange, bank_words_of}
use Rattle.geometry.proofs.SizeLaws.{in-range}
use Rattle.sequence.specs.Sequence.{sequence_quad_of, sequence_index_of, next_sequence_of}
use Rattle.device.specs.declared.record.Device.{Device}
use Rattle.device.specs.Record.{running}
use Rattle.flash.specs.Effect.{Effect}
use Rattle.flash.specs.Write.{written_of}
use Rattle.flash.specs.Effect.{effect, effect_of}
use Rattle.resets.specs.Reset.{torn_of, while_running, reset_device_of, tear_of, restart_of}
use Rattle.device.specs.State.{State, After, bank_of}
use Rattle.controller.specs.Controller.{Sound}
use Rattle.controller.proofs.WriteLaws.{by_reset}
use Rattle.update.specs.Actions.{programmed_quad_of, bank_quads_of, total_of}
use Rattle.update.specs.Start.{clash_of}
use Rattle.update.specs.PowerFail.{Words, Cut, reset_by}
use Rattle.update.proofs.WordLaws.{Loses, chosen_of, erased_clash, clash_loses, rises_loses, erase_rises, merge_word_lem, torn_sequence}
use Rattle.update.proofs.BankLaws.{Programmed, new_sequence, quad_once, sequence_last, sequence_blank, programmed_all, programmed_last}
use Rattle.update.proofs.BankLaws.{other_word, same_word, words_put}
use Rattle.update.proofs.PlacedLaws.{placed, bank_new, new_long, compared_placed, put_placed}
use Rattle.update.proofs.Blocks.{Fixed, Block, Has, place_of, stores_in, steps_in, quad_in, words_in, BankIn, Losing, Phase, old_word, new_words, new_bank}
use Rattle.update.proofs.PlaceLaws.{total_place}
use Rattle.update.proofs.Blocks.Block.{prologue, page, quad}
use Rattle.update.proofs.Blocks.Phase.{storing, stepping, ending, finished}
use Rattle.update.proofs.BlockStores.{SmallQuad, blank_small, quad_small, new_small, block_rests}
use Rattle.update.proofs.BlockSteps.{block_codes, block_writes}

merged_small : (mask x y : List ℕ) → SmallQuad x → SmallQuad y → SmallQuad (merge_quad_of mask x y)
merged_small mask x y hx hy k l =
    rw (merge_quad_word mask x y k l) (merge_word_lem (word_at mask k) (word_at x k) (word_at y k) (hx k l) (hy k l))

-- where no bit is torn the old word stays
merge_nothing : (a b : ℕ) → merge_of 0 a b ≡ b
merge_nothing a b = equal_by_bits _ _ (λ k. merge_bit k 0 a b ∙ rw (bit_zero k))

module _ (u : Fixed) where
  open u use {g, image, b, old, listed, image_long, image_words, valid}

  ok : InRange g
  ok = in-range g listed

  -- a new bank that loses, or the whole new bank
  abbrev pub Outcome : List ℕ → Type 0
  Outcome new = Losing u new ⊎ (new ≡ new_bank u)

  -- ---- the new bank where nothing is torn
  clashing : (new : List ℕ) → Words new → clash_of (word_at new (sequence_index_of g)) ≡ true → Losing u new
  clashing new words h = record { words = words; loses = clash_loses b (old_word u) (word_at new (sequence_index_of g)) valid h }

  -- where quads are left to be programmed the sequence word is of all ones
  blank_clash : (new : List ℕ) → quad_at new (sequence_quad_of g) ≡ blank_quad → clash_of (word_at new (sequence_index_of g)) ≡ true
  blank_clash new blank = rw (ap (λ (q : List ℕ). word_at q 0) blank) erased_clash

  -- quads of a block are left after n steps
  abbrev LeftIn : Block → ℕ → Type 0
  LeftIn prologue n = Unit {0}
  LeftIn (page i) n = Unit {0}
  LeftIn (quad i) n = i + n < bank_quads_of g

  still_losing : (k : Block) (n : ℕ) (new : List ℕ) → length new ≡ bank_words_of g → LeftIn k n → BankIn u k n new → Losing u new
  still_losing prologue n new long left losing = losing
  still_losing (page i) n new long left (losing, erased) = losing
  still_losing (quad i) n new long left (words, programmed) =
      clashing new words (blank_clash new (sequence_blank g ok new long image (old_word u) (i + n) left programmed))

  pub whole_or_losing : (k : Block) → Has u k → (n : ℕ) (new : List ℕ) → length new ≡ bank_words_of g → n < suc (steps_in u k) → BankIn u k n new → Outcome new
  whole_or_losing prologue has n new long l losing = inl losing
  whole_or_losing (page i) has n new long l (losing, erased) = inl losing
  whole_or_losing (quad i) has n new long l (words, programmed) = go (eq-or-lt_of_le below)
    where
      below : i + n < suc (bank_quads_of g)
      below = omega arith

      go : (suc (i + n) ≡ suc (bank_quads_of g)) ⊎ (suc (i + n) < suc (bank_quads_of g)) → Outcome new
      go (inl e) = let all : i + n ≡ bank_quads_of g = omega arith in inr (programmed_all g ok new long image (old_word u) image_long (rw all at programmed))
      go (inr m) = inl (still_losing (quad i) n new long (omega arith) (words, programmed))

  -- ---- the new bank after a tear
  erase_torn : (new : List ℕ) → length new ≡ bank_words_of g → (j : ℕ) (mask : List ℕ) → Losing u new
      → Losing u (put_quad new j (merge_quad_of mask blank_quad (quad_at new j)))
  erase_torn new long j mask losing =
      record {
        words =
            words_put new j (merge_quad_of mask blank_quad (quad_at new j)) losing.words
            (merged_small mask blank_quad (quad_at new j) blank_small (quad_small new j losing.words));
        loses = go (ℕ_discrete j (sequence_quad_of g));
      }
    where
      seq : ℕ
      seq = word_at new (sequence_index_of g)

      small : word_at new (sequence_index_of g) < 2 ^ 32
      small = losing.words (sequence_index_of g)

      go : Dec (j ≡ sequence_quad_of g) → Loses b (old_word u) (word_at (put_quad new j (merge_quad_of mask blank_quad (quad_at new j))) (sequence_index_of g))
      go (yes e) =
          rw (e, same_word g ok new (merge_of (word_at mask 0) all_ones seq) _ _ _ long)
          (rises_loses b (old_word u) seq (merge_of (word_at mask 0) all_ones seq) valid small (merge_word_lem (word_at mask 0) all_ones seq (lit< tt) small)
          losing.loses (erase_rises (word_at mask 0) seq small))
      go (no n) = rw (other_word g ok new j (merge_quad_of mask blank_quad (quad_at new j)) n) losing.loses

  module _ (i : ℕ) (has : i < bank_quads_of g) (new : List ℕ) (long : length new ≡ bank_words_of g) (bank : BankIn u (quad i) 0 new) (mask : List ℕ) where
    abbrev torn : List ℕ
    torn = put_quad new (programmed_quad_of g i) (merge_quad_of mask (new_words u i) blank_quad)

    words : Words torn
    words =
        words_put new (programmed_quad_of g i) (merge_quad_of mask (new_words u i) blank_quad) bank.0
        (merged_small mask (new_words u i) blank_quad (new_small g image (old_word u) (programmed_quad_of g i) image_words) blank_small)

    programmed : Programmed g image (old_word u) new i
    programmed = rw (add-zero i) at bank.1

    -- a quad before the last
    torn_early : suc i < bank_quads_of g → Losing u torn
    torn_early l =
        clashing torn words
        (rw (other_word g ok new (programmed_quad_of g i) (merge_quad_of mask (new_words u i) blank_quad) other)
        (blank_clash new (sequence_blank g ok new long image (old_word u) i has programmed)))
      where
        other : programmed_quad_of g i ≡ sequence_quad_of g → ⊥
        other h =
            let final : suc (bank_quads_of g - 1) ≡ bank_quads_of g = omega arith in
            let same = quad_once g ok i (bank_quads_of g - 1) has (omega arith) (h ∙ sym (sequence_last g ok (bank_quads_of g - 1) final)) in
            omega arith

    -- the last one, the sequence quad
    module _ (e : suc i ≡ bank_quads_of g) where
      last : programmed_quad_of g i ≡ sequence_quad_of g
      last = sequence_last g ok i e

      sequence : new_words u i ≡ next_sequence_of (old_word u)
      sequence = rw last (new_sequence g image (old_word u))

      torn_clash : clash_of (word_at (merge_quad_of mask (next_sequence_of (old_word u)) blank_quad) 0) ≡ true → Losing u torn
      torn_clash h = clashing torn words (rw (sequence, last, same_word g ok new _ _ _ _ long) h)

      torn_last : Outcome torn
      torn_last = by (torn_sequence mask (old_word u))
        where
          by : (merge_quad_of mask (next_sequence_of (old_word u)) blank_quad ≡ next_sequence_of (old_word u))
              ⊎ (clash_of (word_at (merge_quad_of mask (next_sequence_of (old_word u)) blank_quad) 0) ≡ true) → Outcome torn
          by (inl same) =
              inr
              (rw (sequence, last)
              (ap (put_quad new (sequence_quad_of g)) same ∙ programmed_last g ok new long image (old_word u) i e image_long programmed))
          by (inr h) = inl (torn_clash h)

    program_torn : Outcome torn
    program_torn = go (eq-or-lt_of_le has)
      where
        go : (suc i ≡ bank_quads_of g) ⊎ (suc i < bank_quads_of g) → Outcome torn
        go (inl e) = torn_last e
        go (inr l) = inl (torn_early l)

    -- where no bit is torn it goes on losing
    torn_none : word_at mask 0 ≡ 0 → Losing u torn
    torn_none none = go (eq-or-lt_of_le has)
      where
        go : (suc i ≡ bank_quads_of g) ⊎ (suc i < bank_quads_of g) → Losing u torn
        go (inl e) = torn_clash e (rw (none, merge_nothing (word_at (next_sequence_of (old_word u)) 0) all_ones) erased_clash)
        go (inr l) = torn_early l

  torn_outcome : (k : Block) → Has u k → (n : ℕ) (new : List ℕ) → length new ≡ bank_words_of g → n < steps_in u k → BankIn u k n new → (mask : List ℕ)
      → Outcome (put_quad new (quad_in u k n) (merge_quad_of mask (words_in u k) (quad_at new (quad_in u k n))))
  torn_outcome prologue has n new long l bank mask = absurd (omega arith)
  torn_outcome (page i) has n new long l (losing, erased) mask = inl (erase_torn new long (quad_in u (page i) n) mask losing)
  torn_outcome (quad i) has n new long l (words, programmed) mask =
      let first : i + n ≡ i + 0 = omega arith in
      let blank = programmed.blank i (omega arith) has in
      rw (ap (λ (q : List ℕ). put_quad new (programmed_quad_of g i) (merge_quad_of mask (new_words u i) q)) blank)
      (program_torn i has new long (words, rw first at programmed) mask)

  -- before the last step, and in it where no bit is torn, it goes on losing
  torn_losing : (k : Block) → Has u k → (n : ℕ) (new : List ℕ) → length new ≡ bank_words_of g → n < steps_in u k → BankIn u k n new → (mask : List ℕ)
      → LeftIn k (suc n) ⊎ (word_at mask 0 ≡ 0) → Losing u (put_quad new (quad_in u k n) (merge_quad_of mask (words_in u k) (quad_at new (quad_in u k n))))
  torn_losing prologue has n new long l bank mask left = absurd (omega arith)
  torn_losing (page i) has n new long l (losing, erased) mask left = erase_torn new long (quad_in u (page i) n) mask losing
  torn_losing (quad i) has n new long l (words, programmed) mask left =
      let first : i + n ≡ i + 0 = omega arith in
      let blank = programmed.blank i (omega arith) has in
      rw (ap (λ (q : List ℕ). put_quad new (programmed_quad_of g i) (merge_quad_of mask (new_words u i) q)) blank)
      (go left (words, rw first at programmed))
    where
      go : (i + suc n < bank_quads_of g) ⊎ (word_at mask 0 ≡ 0) → BankIn u (quad i) 0 new
          → Losing u (put_quad new (programmed_quad_of g i) (merge_quad_of mask (new_words u i) blank_quad))
      go (inl m) bank = torn_early i has new long bank mask (omega arith)
      go (inr none) bank = torn_none i has new long bank mask none

  -- a cut before the last step, or in it with no bit torn
  abbrev Early : ℕ → Cut → Type 0
  Early place c = (place + 2 < total_of g) ⊎ ((place + 1 < total_of g) × (word_at c.mask 0 ≡ 0))

  -- ---- the state after a reset that is not declined, at a place, of a device d before it
  pub record AfterCut (place : ℕ) (d : Device) (c : Cut) (r : State) : Type 0 where
    pub new : List ℕ
    pub long : length new ≡ bank_words_of g
    pub outcome : Outcome new
    pub state : r ≡ placed b (reset_device_of d c.kind (chosen_of b (old_word u) (word_at new (sequence_index_of g)))) old new
    pub early : Early place c → Losing u new

  pub after_new : (place : ℕ) (d : Device) (c : Cut) {r : State} (a : AfterCut place d c r) → bank_of r (not b) ≡ a.new
  after_new place d c a =
      ap (λ (s : State). bank_of s (not b)) a.state
      ∙ bank_new b (reset_device_of d c.kind (chosen_of b (old_word u) (word_at a.new (sequence_index_of g)))) old a.new

  -- it was carried out
  pub carried : (s : State) (c : Cut) → accepted_of (reset_by g s c).decline ≡ true → reset_by g s c ≡ restart_of g (tear_of g s c.sram c.mask) c.kind
  carried s c h =
      by_reset g s c.sram c.kind c.mask
      (λ (a : After). accepted_of a.decline ≡ true → a ≡ restart_of g (tear_of g s c.sram c.mask) c.kind)
      (λ on k. refl)
      (λ off k. true_not_false (sym k ∙ off))
      h

  -- the state that it leaves, by what it tore
  pub left_as : (d : Device) (new after : List ℕ) (c : Cut) → accepted_of (reset_by g (placed b d old new) c).decline ≡ true
      → tear_of g (placed b d old new) c.sram c.mask ≡ placed b d old after
      → (reset_by g (placed b d old new) c).state ≡ placed b
      (reset_device_of d c.kind (chosen_of b (old_word u) (word_at after (sequence_index_of g)))) old after
  left_as d new after c accepted torn =
      ap (λ (a : After). a.state) (carried (placed b d old new) c accepted)
      ∙ ap (λ (s : State). (restart_of g s c.kind).state) torn
      ∙ ap (λ (t : Bool). placed b (reset_device_of d c.kind t) old after) (compared_placed b d old after g)

  module _ (d : Device) (new : List ℕ) (c : Cut) where
    pub idle_tear : running d ≡ false → tear_of g (placed b d old new) c.sram c.mask ≡ placed b d old new
    idle_tear off = rw off

    pub running_tear : running d ≡ true → (j : ℕ) (words : List ℕ) → effect_of g (placed b d old new) c.sram ≡ effect false true (not b) j words
        → tear_of g (placed b d old new) c.sram c.mask ≡ placed b d old (put_quad new j (merge_quad_of c.mask words (quad_at new j)))
    running_tear on j words writes =
        ap (λ (e : Effect). written_of (placed b d old new) d (while_running d (torn_of (placed b d old new) c.mask e.write))) writes
        ∙ rw (on, bank_new b d old new) (put_placed b d old new d j (merge_quad_of c.mask words (quad_at new j)))

  pub cut_leaves : (d : Device) (new : List ℕ) (place : ℕ) → Sound g (placed b d old new) → Phase u d new place → (c : Cut)
      → accepted_of (reset_by g (placed b d old new) c).decline ≡ true → AfterCut place d c (reset_by g (placed b d old new) c).state
  cut_leaves d new place sound phase c accepted = go phase
    where
      long : length new ≡ bank_words_of g
      long = new_long b d old new g sound

      sooner : Early place c → place + 1 < total_of g
      sooner (inl l) = omega arith
      sooner (inr (l, none)) = l

      idle : running d ≡ false → Outcome new → (Early place c → Losing u new) → AfterCut place d c (reset_by g (placed b d old new) c).state
      idle off outcome early =
          record { new = new; long = long; outcome = outcome; state = left_as d new new c accepted (idle_tear d new c off); early = early }

      none_left : (k : Block) → Has u k → LeftIn k 0
      none_left prologue has = tt
      none_left (page i) has = tt
      none_left (quad i) has = omega arith

      end_left : (k : Block) → place ≡ place_of u k + (length (stores_in u k) + steps_in u k) → place + 1 < total_of g → LeftIn k (steps_in u k)
      end_left prologue here l = tt
      end_left (page i) here l = tt
      end_left (quad i) here l = omega (arith, total_place g)

      step_left : (k : Block) (n : ℕ) → n < steps_in u k → place ≡ place_of u k + (length (stores_in u k) + n) → Early place c
          → LeftIn k (suc n) ⊎ (word_at c.mask 0 ≡ 0)
      step_left prologue n few here early = inl tt
      step_left (page i) n few here early = inl tt
      step_left (quad i) n few here (inl l) = inl (omega (arith, total_place g))
      step_left (quad i) n few here (inr (l, none)) = inr none

      go : Phase u d new place → AfterCut place d c (reset_by g (placed b d old new) c).state
      go (storing p) =
          idle (ap running p.device ∙ (block_rests u p.block p.within.has p.first p.within.begins p.count p.few).idle)
          (whole_or_losing p.block p.within.has 0 new long (omega arith) p.within.bank)
          (λ early. still_losing p.block 0 new long (none_left p.block p.within.has) p.within.bank)
      go (stepping p) =
          let j = quad_in u p.block p.count in
          let words = words_in u p.block in
          record {
            new = put_quad new j (merge_quad_of c.mask words (quad_at new j));
            long = put_length new j (merge_quad_of c.mask words (quad_at new j)) ∙ long;
            outcome = torn_outcome p.block p.within.has p.count new long p.few p.within.bank c.mask;
            state =
                left_as d new (put_quad new j (merge_quad_of c.mask words (quad_at new j))) c accepted
                (running_tear d new c (ap running p.device ∙ (block_codes u p.block).on) j words
                (ap (λ (e : Device). effect_of g (placed b e old new) c.sram) p.device
                ∙ block_writes u p.block p.first p.count new p.within p.few c.sram));
            early =
                λ early.
                torn_losing p.block p.within.has p.count new long p.few p.within.bank c.mask
                (step_left p.block p.count p.few p.here early);
          }
      go (ending p) =
          idle (ap running p.device ∙ (block_codes u p.block).end_idle)
          (whole_or_losing p.block p.within.has (steps_in u p.block) new long (omega arith) p.within.bank)
          (λ early. still_losing p.block (steps_in u p.block) new long (end_left p.block p.here (sooner early)) p.within.bank)
      go (finished p) = idle p.rest.idle (inr p.whole) (λ early. let l = sooner early in absurd (omega (arith, p.here)))
