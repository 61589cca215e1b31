-- Where an entry is when one of the list leaves it, and when others join its end. Assumes nothing.
use mathlib.Core.Path.{◌≡◌, ap, ◌∙◌}
use mathlib.Core.List.{List, ◌++◌}
use Prim.Native.Nat.{ℕ, suc, ◌+◌, ◌-◌, ◌≤◌, ◌<◌, min}
use native.Mathlib.Decide.{dec_lt}
use native.Mathlib.Omega.{arith}
use lib.ListN.{length, get_or, take, drop, length-append, length-drop, get_or-append}
use Rattle.row_signs.specs.Signs.{left_of}
use lib.Seq.{length-take-le, get_or-append-add, get_or-take, get_or-drop}

-- ---- others join

pub after_seam : (l m : List ℕ) (p : ℕ) → length l ≤ p → get_or (l ++ m) p 0 ≡ get_or m (p - length l) 0
after_seam l m p h = let e : p ≡ length l + (p - length l) = omega arith in ap (λ (k : ℕ). get_or (l ++ m) k 0) e ∙ get_or-append-add l m (p - length l) 0

-- ---- one leaves

-- where the entry was that is at p then: those after i moved up by one
abbrev pub place_of : ℕ → ℕ → ℕ
place_of i p = p + min 1 (suc p - i)

module _ (l : List ℕ) (i : ℕ) (inside : i < length l) where
  front : length (take i l) ≡ i
  front = length-take-le i l (omega arith)

  pub left_one_fewer : suc (length (left_of l i)) ≡ length l
  left_one_fewer = omega (arith, length-append (take i l) (drop (i + 1) l), front, length-drop (i + 1) l)

  pub left_at : (p : ℕ) → get_or (left_of l i) p 0 ≡ get_or l (place_of i p) 0
  left_at p = go (dec_lt p i)
    where
      go : Dec (p < i) → get_or (left_of l i) p 0 ≡ get_or l (place_of i p) 0
      go (yes before) =
          let e : p ≡ place_of i p = omega arith in
          get_or-append (take i l) (drop (i + 1) l) 0 p (omega (arith, front)) ∙ get_or-take i l p 0 before ∙ ap (λ (k : ℕ). get_or l k 0) e
      go (no after) =
          let e : i + 1 + (p - length (take i l)) ≡ place_of i p = omega (arith, front) in
          after_seam (take i l) (drop (i + 1) l) p (omega (arith, front))
          ∙ get_or-drop (i + 1) l (p - length (take i l)) 0
          ∙ ap (λ (k : ℕ). get_or l k 0) e
