-- The actions of two images that differ in one word: word n of a quad is in the quad's action 1 + n and in no other, so the lists differ
-- at the place of the word's store, and nowhere where that quad is the sequence quad, whose words are not the image's.
-- Assumes nothing.
use mathlib.Core.Path.{◌≡◌, refl, sym, ap, ◌∙◌}
use mathlib.Core.List.{List}
use Prim.Native.Nat.{ℕ, zero, suc, ◌+◌, ◌-◌, ◌*◌, ◌/◌, ◌%◌, ◌≤◌, ◌<◌}
use native.Mathlib.Decide.{ℕ_discrete, dec_lt}
use native.Mathlib.Omega.{arith}
use lib.ListN.{length, get_or, get_or-eq_default}
use lib.Seq.{ext_get_or}
use borrow.Author.Tests.{lt-ltb, eq-eqb, ne_eqb}
use Rattle.words.specs.Quad.{word_at}
use Rattle.words.proofs.CaseLaws.{below_four}
use Rattle.words.proofs.QuadLaws.{quad_word}
use Rattle.geometry.specs.declared.banks.Geometry.{Geometry}
use Rattle.geometry.specs.Banks.{bank_words_of}
use Rattle.sequence.specs.Sequence.{sequence_quad_of}
use Rattle.device.specs.Numbers.{NVMDATA0, plain}
use Rattle.update.specs.declared.actions.Action.{Action}
use Rattle.update.specs.declared.actions.Action.TheVariants.{Store, Step}
use Rattle.update.specs.Actions.{programmed_quad_of, new_quad_of, bank_quads_of, actions_of, total_of, programming_from, quad_action_of, action_at_of}
use Rattle.update.proofs.PlaceLaws.{total_place, quad-action}
use Rattle.update.proofs.ActionLaws.{actions_total, action_listed}
use Rattle.reach.specs.Reach.{programmed_at_of, data_place_of}
use Rattle.reach.specs.Differing.{OneWord, OneAction}
use Rattle.reach.proofs.OrderLaws.{quad_at_lem, word_place, quad_below, place_below}

-- ---- a quad's actions
word_stored : (g : Geometry) (j : ℕ) (words : List ℕ) (n : ℕ) → n < 4 → quad_action_of g j words (1 + n) ≡ Store (NVMDATA0 + n) plain (word_at words n)
unfolding quad_action_of
word_stored g j words = below_four _ refl refl refl refl

-- the words are in no other action
same_but_words : (g : Geometry) (j : ℕ) (a b : List ℕ) (k : ℕ) → ((n : ℕ) → n < 4 → k ≡ 1 + n → word_at a n ≡ word_at b n)
    → quad_action_of g j a k ≡ quad_action_of g j b k
unfolding quad_action_of
same_but_words g j a b zero same = refl
same_but_words g j a b (suc zero) same = ap (Store 3 0) (same 0 (omega arith) refl)
same_but_words g j a b (suc (suc zero)) same = ap (Store 4 0) (same 1 (omega arith) refl)
same_but_words g j a b (suc (suc (suc zero))) same = ap (Store 5 0) (same 2 (omega arith) refl)
same_but_words g j a b (suc (suc (suc (suc zero)))) same = ap (Store 6 0) (same 3 (omega arith) refl)
same_but_words g j a b (suc (suc (suc (suc (suc k))))) same = refl

-- ---- a quad's words
-- of a quad that is not the sequence quad: the image's
image_word : (g : Geometry) (image : List ℕ) (w j n : ℕ) → (j ≡ sequence_quad_of g → ⊥) → n < 4
    → word_at (new_quad_of g image w j) n ≡ word_at image (4 * j + n)
unfolding new_quad_of
image_word g image w j n ne l =
    rw (ne_eqb j (sequence_quad_of g) ne) (quad_word image j n l)

module _ (g : Geometry) (image other : List ℕ) (i w : ℕ) (one : OneWord image other i) where
  -- a word of a quad is the same, unless it is the one that differs, outside the sequence quad
  same_word : (j n : ℕ) → n < 4 → (4 * j + n ≡ i → j ≡ sequence_quad_of g) → word_at (new_quad_of g image w j) n ≡ word_at (new_quad_of g other w j) n
  unfolding new_quad_of
  same_word j n l left_out = go (ℕ_discrete j (sequence_quad_of g))
    where
      go : Dec (j ≡ sequence_quad_of g) → word_at (new_quad_of g image w j) n ≡ word_at (new_quad_of g other w j) n
      go (yes e) = rw (eq-eqb j (sequence_quad_of g) e)
      go (no ne) =
          image_word g image w j n ne l ∙ one.same (4 * j + n) (λ at. ne (left_out at)) ∙ sym (image_word g other w j n ne l)

  -- before the programming no action depends on the image
  early_same : (k : ℕ) → k < programming_from g → action_at_of g image w k ≡ action_at_of g other w k
  unfolding action_at_of
  early_same k l = rw (lt-ltb k (programming_from g) l)

  -- nor does another action than the one at the word's place
  late_same : (k : ℕ) → programming_from g ≤ k → k < total_of g → (k ≡ data_place_of g i → i / 4 ≡ sequence_quad_of g)
      → action_at_of g image w k ≡ action_at_of g other w k
  late_same k from l left_out =
      let x = (k - programming_from g) / 13 in
      let r = (k - programming_from g) % 13 in
      let j = programmed_quad_of g x in
      let below : r < 13 = omega arith in
      let here : programming_from g + x * 13 + r ≡ k = omega arith in
      let same = same_but_words g j (new_quad_of g image w j) (new_quad_of g other w j) r (λ n m e. same_word j n m (outside x r n m e here)) in
      rw here at (quad-action g image w x r below ∙ same ∙ sym (quad-action g other w x r below))
    where
      -- at the word's place it is the sequence quad
      outside : (x r n : ℕ) → n < 4 → r ≡ 1 + n → programming_from g + x * 13 + r ≡ k → 4 * programmed_quad_of g x + n ≡ i
          → programmed_quad_of g x ≡ sequence_quad_of g
      outside x r n m e here at =
          let within : x < bank_quads_of g = omega (arith, total_place g) in
          let quad : i / 4 ≡ programmed_quad_of g x = omega arith in
          sym quad ∙ left_out (omega (arith, word_place g x n i within m at))

  -- so the lists are the same everywhere else
  same_elsewhere : (k : ℕ) → (k ≡ data_place_of g i → i / 4 ≡ sequence_quad_of g) → get_or (actions_of g image w) k Step ≡ get_or (actions_of g other w) k Step
  same_elsewhere k left_out = go (dec_lt k (total_of g)) (dec_lt k (programming_from g))
    where
      listed : k < total_of g → action_at_of g image w k ≡ action_at_of g other w k
          → get_or (actions_of g image w) k Step ≡ get_or (actions_of g other w) k Step
      listed l same = sym (action_listed g image w k l) ∙ same ∙ action_listed g other w k l

      past : (actions : List Action) → length actions ≡ total_of g → total_of g ≤ k → get_or actions k Step ≡ Step
      past actions long l = get_or-eq_default actions Step (omega arith)

      go : Dec (k < total_of g) → Dec (k < programming_from g) → get_or (actions_of g image w) k Step ≡ get_or (actions_of g other w) k Step
      go (yes l) (yes early) = listed l (early_same k early)
      go (yes l) (no late) = listed l (late_same k (omega arith) l left_out)
      go (no l) p =
          past (actions_of g image w) (actions_total g image w) (omega arith)
          ∙ sym (past (actions_of g other w) (actions_total g other w) (omega arith))

  -- in the sequence quad: nowhere
  pub same_actions : i / 4 ≡ sequence_quad_of g → actions_of g image w ≡ actions_of g other w
  same_actions left_out =
      ext_get_or Step (actions_of g image w) (actions_of g other w) (actions_total g image w ∙ sym (actions_total g other w))
      (λ k l. same_elsewhere k (λ at. left_out))

-- the store of a word, outside the sequence quad
store_of_word : (g : Geometry) (image : List ℕ) (i w : ℕ) → i < bank_words_of g → (i / 4 ≡ sequence_quad_of g → ⊥)
    → get_or (actions_of g image w) (data_place_of g i) Step ≡ Store (NVMDATA0 + i % 4) plain (word_at image i)
unfolding data_place_of
store_of_word g image i w l ne =
    let j = i / 4 in
    let n = i % 4 in
    let below : n < 4 = omega arith in
    let whole : 4 * j + n ≡ i = omega arith in
    let word = rw whole at (image_word g image w j n ne below) in
    sym (action_listed g image w (data_place_of g i) (place_below g i l))
    ∙ quad-action g image w (programmed_at_of g j) (1 + n) (omega arith)
    ∙ rw (quad_at_lem g j (quad_below g i l), word_stored g j (new_quad_of g image w j) n below, word)

pub one_action : (g : Geometry) (image other : List ℕ) (i w : ℕ) → i < bank_words_of g → OneWord image other i → (i / 4 ≡ sequence_quad_of g → ⊥)
    → OneAction g image other i w
one_action g image other i w l one ne =
    record {
      within = place_below g i l;
      long = (actions_total g image w, actions_total g other w);
      first = store_of_word g image i w l ne;
      second = store_of_word g other i w l ne;
      same = λ k away. same_elsewhere g image other i w one k (λ at. absurd (away at));
    }
