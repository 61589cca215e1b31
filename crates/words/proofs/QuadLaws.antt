-- The quads of a bank: a store changes its own quad and no other word, and keeps the length. A merge of quads is the merge of each bit.
-- So a torn quad is, bit by bit, the intended or the old one. A quad is blank where each of its words is all ones.
-- Assumes nothing.
use mathlib.Core.Path.{◌≡◌, refl, sym, ap, ◌∙◌}
use mathlib.Core.Bool.{Bool, true, false, ◌&&◌}
use mathlib.Core.List.{List, [], ◌∷◌}
use mathlib.Core.Logic.{◌⊎◌, inl, inr, ⊎_elim}
use Prim.Native.Nat.{ℕ, ◌+◌, ◌-◌, ◌*◌, ◌%◌, ◌≤◌, ◌<◌}
use native.Mathlib.Decide.{dec_lt, dec_le}
use native.Mathlib.Omega.{arith}
use lib.Dec.{eqb}
use lib.ListN.{length, set, length-set}
use lib.Seq.{get_or-set_same, get_or-set_other}
use borrow.Author.Tests.{eqb-true, eqb-false}
use Rattle.words.specs.Word.{pick, bit, merge_of, all_ones}
use Rattle.words.specs.Quad.{word_at, quad_from, quad_at, put_from, put_quad, merge_quad_of, is_blank_of}
use Rattle.words.proofs.CaseLaws.{below_four}
use Rattle.words.proofs.PickLaws.{pick_same, and_both}
use Rattle.words.proofs.BitLaws.{merge_bit}

pub put_length : (bank : List ℕ) (i : ℕ) (quad : List ℕ) → length (put_quad bank i quad) ≡ length bank
put_length bank i quad = simp length-set

-- a word outside the quad
pub put_other_word : (bank : List ℕ) (i : ℕ) (quad : List ℕ) (v : ℕ) → (v < 4 * i) ⊎ (4 * i + 4 ≤ v)
    → word_at (put_quad bank i quad) v ≡ word_at bank v
put_other_word bank i quad v out =
    let n0 : v ≡ 4 * i → ⊥ = λ e. away 0 (omega arith) (omega arith) in
    let n1 = away 1 (omega arith) in
    let n2 = away 2 (omega arith) in
    let n3 = away 3 (omega arith) in
    rw (get_or-set_other, get_or-set_other, get_or-set_other, get_or-set_other)
  where
    away : (j : ℕ) → j < 4 → v ≡ 4 * i + j → ⊥
    away j l e = ⊎_elim (λ o. omega arith) (λ o. omega arith) out

-- another quad
pub put_other_quad : (bank : List ℕ) (i : ℕ) (quad : List ℕ) (j : ℕ) → (j < i) ⊎ (i < j)
    → quad_at (put_quad bank i quad) j ≡ quad_at bank j
put_other_quad bank i quad j ne =
    λ k.
    word (4 * j) (omega arith) (omega arith) k
    ∷ word (4 * j + 1) (omega arith) (omega arith) k
    ∷ word (4 * j + 2) (omega arith) (omega arith) k
    ∷ word (4 * j + 3) (omega arith) (omega arith) k
    ∷ []
  where
    word : (v : ℕ) → 4 * j ≤ v → v < 4 * j + 4 → word_at (put_quad bank i quad) v ≡ word_at bank v
    word v lo hi = put_other_word bank i quad v (⊎_elim (λ l. inl (omega arith)) (λ l. inr (omega arith)) ne)

-- the quad that was stored
pub put_same_quad : (bank : List ℕ) (i : ℕ) (a b c d : ℕ) → 4 * i + 4 ≤ length bank
    → quad_at (put_quad bank i (a ∷ b ∷ c ∷ d ∷ [])) i ≡ a ∷ b ∷ c ∷ d ∷ []
put_same_quad bank i a b c d h = stored (4 * i) h
  where
    stored : (w : ℕ) → w + 4 ≤ length bank → quad_from (put_from bank w (a ∷ b ∷ c ∷ d ∷ [])) w ≡ a ∷ b ∷ c ∷ d ∷ []
    stored w h =
        let n1 : w ≡ w + 1 → ⊥ = λ e. omega arith in
        let n2 : w ≡ w + 2 → ⊥ = λ e. omega arith in
        let n3 : w ≡ w + 3 → ⊥ = λ e. omega arith in
        let m2 : w + 1 ≡ w + 2 → ⊥ = λ e. omega arith in
        let m3 : w + 1 ≡ w + 3 → ⊥ = λ e. omega arith in
        let o3 : w + 2 ≡ w + 3 → ⊥ = λ e. omega arith in
        let l0 : w < length bank = omega arith in
        let l1 : w + 1 < length (set bank w a) = simp length-set (omega arith) in
        let l2 : w + 2 < length (set (set bank w a) (w + 1) b) = simp length-set (omega arith) in
        let l3 : w + 3 < length (set (set (set bank w a) (w + 1) b) (w + 2) c) = simp length-set (omega arith) in
        simp (get_or-set_same, get_or-set_other)

-- a merge of quads, word by word
pub merge_quad_word : (mask a b : List ℕ) (j : ℕ) → j < 4
    → word_at (merge_quad_of mask a b) j ≡ merge_of (word_at mask j) (word_at a j) (word_at b j)
merge_quad_word mask a b = below_four _ refl refl refl refl

-- the law of merge, for each word of a quad
pub merge_quad_bit : (mask a b : List ℕ) (j k : ℕ) → j < 4
    → bit k (word_at (merge_quad_of mask a b) j) ≡ pick (bit k (word_at mask j)) (bit k (word_at a j)) (bit k (word_at b j))
merge_quad_bit mask a b j k h = ap (bit k) (merge_quad_word mask a b j h) ∙ merge_bit k (word_at mask j) (word_at a j) (word_at b j)

-- word j of a quad of a bank
pub quad_word : (bank : List ℕ) (i j : ℕ) → j < 4 → word_at (quad_at bank i) j ≡ word_at bank (4 * i + j)
quad_word bank i = below_four _ (let e : 4 * i + 0 ≡ 4 * i = omega arith in rw e) refl refl refl

-- ---- torn quads

-- a word of the quad that was stored
put_same_word : (bank : List ℕ) (i : ℕ) (quad : List ℕ) (j : ℕ) → j < 4 → 4 * i + 4 ≤ length bank → word_at (put_quad bank i quad) (4 * i + j) ≡ word_at quad j
put_same_word bank i quad j l h =
    let four = word_at quad 0 ∷ word_at quad 1 ∷ word_at quad 2 ∷ word_at quad 3 ∷ [] in
    sym (quad_word (put_quad bank i quad) i j l)
    ∙ ap (λ (q : List ℕ). word_at q j) (put_same_quad bank i (word_at quad 0) (word_at quad 1) (word_at quad 2) (word_at quad 3) h)
    ∙ below_four (λ j. word_at four j ≡ word_at quad j) refl refl refl refl j l

-- where a quad is stored torn, each bit of the bank is as the whole quad would have left it, or as it was
module _ (bank : List ℕ) (i : ℕ) (h : 4 * i + 4 ≤ length bank) (mask quad : List ℕ) (k : ℕ) where
  abbrev torn : List ℕ
  torn = merge_quad_of mask quad (quad_at bank i)

  abbrev Torn : ℕ → Type 0
  Torn v =
      bit k (word_at (put_quad bank i torn) v)
      ≡ pick (bit k (word_at mask (v % 4))) (bit k (word_at (put_quad bank i quad) v)) (bit k (word_at bank v))

  torn_inside : (j : ℕ) → j < 4 → Torn (4 * i + j)
  torn_inside j l =
      let low : (4 * i + j) % 4 ≡ j = omega arith in
      ap (bit k) (put_same_word bank i torn j l h)
      ∙ merge_quad_bit mask quad (quad_at bank i) j k l
      ∙ rw (low, put_same_word bank i quad j l h, quad_word bank i j l)

  torn_outside : (v : ℕ) → (v < 4 * i) ⊎ (4 * i + 4 ≤ v) → Torn v
  torn_outside v out = rw (put_other_word bank i torn v out, put_other_word bank i quad v out) (sym (pick_same (bit k (word_at mask (v % 4))) _))

  pub put_torn : (v : ℕ) → Torn v
  put_torn v = go (dec_lt v (4 * i)) (dec_le (4 * i + 4) v)
    where
      go : Dec (v < 4 * i) → Dec (4 * i + 4 ≤ v) → Torn v
      go (yes low) high = torn_outside v (inl low)
      go (no low) (yes high) = torn_outside v (inr high)
      go (no low) (no high) =
          let e : 4 * i + (v - 4 * i) ≡ v = omega arith in
          rw e at (torn_inside (v - 4 * i) (omega arith))

-- ---- blank quads

pub blank_word : (quad : List ℕ) → is_blank_of quad ≡ true → (j : ℕ) → j < 4 → word_at quad j ≡ all_ones
blank_word quad h =
    let ones : ℕ → Bool = λ j. eqb (word_at quad j) all_ones in
    let (first, rest) = and_both (ones 0) (ones 1 && (ones 2 && ones 3)) h in
    let (second, last) = and_both (ones 1) (ones 2 && ones 3) rest in
    let (third, fourth) = and_both (ones 2) (ones 3) last in
    below_four _ (eqb-true _ _ first) (eqb-true _ _ second) (eqb-true _ _ third) (eqb-true _ _ fourth)

-- a word other than all ones
pub record OtherWord (quad : List ℕ) : Type 0 where
  pub word : ℕ
  pub below : word < 4
  pub not_ones : word_at quad word ≡ all_ones → ⊥

pub other_word : (quad : List ℕ) → is_blank_of quad ≡ false → OtherWord quad
other_word quad h = go (eqb (word_at quad 0) all_ones) refl (eqb (word_at quad 1) all_ones) refl (eqb (word_at quad 2) all_ones) refl
  where
    word : (j : ℕ) → j < 4 → eqb (word_at quad j) all_ones ≡ false → OtherWord quad
    word j l e = record { word = j; below = l; not_ones = eqb-false _ _ e }

    go : (a : Bool) → eqb (word_at quad 0) all_ones ≡ a → (b : Bool) → eqb (word_at quad 1) all_ones ≡ b → (c : Bool) → eqb (word_at quad 2) all_ones ≡ c
        → OtherWord quad
    go false ea b eb c ec = word 0 (omega arith) ea
    go true ea false eb c ec = word 1 (omega arith) eb
    go true ea true eb false ec = word 2 (omega arith) ec
    go true ea true eb true ec = word 3 (omega arith) (simp (ea, eb, ec) at h)
