-- Lists of words that are the same but for one: what is written to both, and what is merged into both, leaves them so.
-- Assumes nothing.
use mathlib.Core.Path.{◌≡◌, refl, sym, ap, ◌∙◌}
use mathlib.Core.List.{List}
use Prim.Native.Nat.{ℕ, ◌+◌, ◌*◌, ◌<◌}
use native.Mathlib.Decide.{ℕ_discrete, dec_lt}
use native.Mathlib.Omega.{arith}
use lib.ListN.{length, set, length-set}
use lib.Seq.{get_or-set_same, get_or-set_other, set_out, ext_get_or}
use Rattle.words.specs.Word.{merge_of}
use Rattle.words.specs.Quad.{word_at, quad_at, put_quad, merge_quad_of}
use Rattle.words.proofs.QuadLaws.{merge_quad_word, quad_word}
use Rattle.reach_update.specs.Near.{SameBut}

pub same_self : (i : ℕ) (l : List ℕ) → SameBut i l l
same_self i l = record { long = refl; same = λ j ne. refl }

-- with word i the same, too, the lists are
pub same_all : (i : ℕ) (l m : List ℕ) → SameBut i l m → word_at l i ≡ word_at m i → l ≡ m
same_all i l m h e = ext_get_or 0 l m h.long (λ j l. go j (ℕ_discrete j i))
  where
    go : (j : ℕ) → Dec (j ≡ i) → word_at l j ≡ word_at m j
    go j (yes is) = rw is e
    go j (no ne) = h.same j ne

-- a word of a list after a store
module _ (l : List ℕ) (y v : ℕ) where
  at_word : y < length l → word_at (set l y v) y ≡ v
  at_word h = get_or-set_same l y v 0 h

  other_word : (j : ℕ) → (j ≡ y → ⊥) → word_at (set l y v) j ≡ word_at l j
  other_word j ne = get_or-set_other l y j v 0 ne

-- both get the same word, or word i any
pub set_near : (i : ℕ) (l m : List ℕ) → SameBut i l m → (y v w : ℕ) → ((y ≡ i → ⊥) → v ≡ w) → SameBut i (set l y v) (set m y w)
set_near i l m h y v w e =
    record { long = length-set l y v ∙ h.long ∙ sym (length-set m y w); same = λ j ne. go j ne (ℕ_discrete j y) (dec_lt y (length l)) }
  where
    go : (j : ℕ) → (j ≡ i → ⊥) → Dec (j ≡ y) → Dec (y < length l) → word_at (set l y v) j ≡ word_at (set m y w) j
    go j ne (no off) at = other_word l y v j off ∙ h.same j ne ∙ sym (other_word m y w j off)
    go j ne (yes on) (yes at) =
        rw on (at_word l y v at ∙ e (λ is. ne (on ∙ is)) ∙ sym (at_word m y w (rw h.long at at)))
    go j ne (yes on) (no out) =
        rw (set_out l y v (omega arith), set_out m y w (omega (arith, h.long))) (h.same j ne)

-- a quad of both, whose words are the same but for word i of the bank
pub put_near : (i : ℕ) (l m : List ℕ) → SameBut i l m → (j : ℕ) (q r : List ℕ) → ((y : ℕ) → y < 4 → (4 * j + y ≡ i → ⊥) → word_at q y ≡ word_at r y)
    → SameBut i (put_quad l j q) (put_quad m j r)
put_near i l m h j q r e =
    let first : 4 * j ≡ 4 * j + 0 = omega arith in
    set_near i _ _
    (set_near i _ _
    (set_near i _ _ (set_near i l m h (4 * j) (word_at q 0) (word_at r 0) (λ ne. e 0 (omega arith) (λ is. ne (first ∙ is))))
    (4 * j + 1) (word_at q 1) (word_at r 1)
    (e 1 (omega arith)))
    (4 * j + 2) (word_at q 2) (word_at r 2) (e 2 (omega arith)))
    (4 * j + 3) (word_at q 3) (word_at r 3) (e 3 (omega arith))

-- the same of quads merged into what is there
pub merge_near : (i : ℕ) (l m : List ℕ) → SameBut i l m → (j : ℕ) (q r mask : List ℕ)
    → ((y : ℕ) → y < 4 → (4 * j + y ≡ i → ⊥) → word_at q y ≡ word_at r y)
    → SameBut i (put_quad l j (merge_quad_of mask q (quad_at l j))) (put_quad m j (merge_quad_of mask r (quad_at m j)))
merge_near i l m h j q r mask e =
    put_near i l m h j (merge_quad_of mask q (quad_at l j)) (merge_quad_of mask r (quad_at m j))
    (λ y few ne.
    merge_quad_word mask q (quad_at l j) y few
    ∙ ap (λ (a : ℕ). merge_of (word_at mask y) a (word_at (quad_at l j) y)) (e y few ne)
    ∙ ap (merge_of (word_at mask y) (word_at r y)) (quad_word l j y few ∙ h.same (4 * j + y) ne ∙ sym (quad_word m j y few))
    ∙ sym (merge_quad_word mask r (quad_at m j) y few))
