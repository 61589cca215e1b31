-- "a quad is four words": a list of four, and the quads of a bank. Assumes nothing.
use Rattle.std.specs.Prelude.{ℕ, ◌+◌, ◌*◌, Bool, ◌&&◌, List, [], ◌∷◌, eqb, get_or, set}
use Rattle.words.specs.Word.{merge_of, all_ones}

-- word i of a bank or of a quad
abbrev pub word_at : List ℕ → ℕ → ℕ
word_at words i = get_or words i 0

-- the four words from word w on
abbrev pub quad_from : List ℕ → ℕ → List ℕ
quad_from bank w = word_at bank w ∷ word_at bank (w + 1) ∷ word_at bank (w + 2) ∷ word_at bank (w + 3) ∷ []

-- quad i of a bank
abbrev pub quad_at : List ℕ → ℕ → List ℕ
quad_at bank i = quad_from bank (4 * i)

-- a bank with the four words from word w on replaced
abbrev pub put_from : List ℕ → ℕ → List ℕ → List ℕ
put_from bank w quad =
    set (set (set (set bank w (word_at quad 0)) (w + 1) (word_at quad 1)) (w + 2) (word_at quad 2)) (w + 3) (word_at quad 3)

-- a bank with quad i replaced
abbrev pub put_quad : List ℕ → ℕ → List ℕ → List ℕ
put_quad bank i quad = put_from bank (4 * i) quad

-- four words of all ones, as erasing leaves a quad
abbrev pub blank_quad : List ℕ
blank_quad = all_ones ∷ all_ones ∷ all_ones ∷ all_ones ∷ []

-- "four words of all ones"
abbrev pub is_blank_of : List ℕ → Bool
is_blank_of quad =
    eqb (word_at quad 0) all_ones && (eqb (word_at quad 1) all_ones && (eqb (word_at quad 2) all_ones && eqb (word_at quad 3) all_ones))

-- word j of two quads merged
abbrev pub merge_word : List ℕ → List ℕ → List ℕ → ℕ → ℕ
merge_word mask a b j = merge_of (word_at mask j) (word_at a j) (word_at b j)

-- "the four words of the torn mask choose, bit by bit": of a where the mask is 1, else of b
abbrev pub merge_quad_of : List ℕ → List ℕ → List ℕ → List ℕ
merge_quad_of mask a b = merge_word mask a b 0 ∷ merge_word mask a b 1 ∷ merge_word mask a b 2 ∷ merge_word mask a b 3 ∷ []
