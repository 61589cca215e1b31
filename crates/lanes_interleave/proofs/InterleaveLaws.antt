-- A round writes one element of each of two lists. First and third by turns, second and fourth by turns, and then these two by turns, are all four by turns.
-- Assumes nothing.
use mathlib.Core.Path.{◌≡◌, ◌∙◌}
use mathlib.Core.List.{List, [], ◌∷◌}
use Prim.Native.Nat.{ℕ, ◌+◌, ◌*◌, ◌≤◌, ◌<◌}
use native.Mathlib.Omega.{arith}
use lib.ListN.{length, get_or, set, take}
use lib.Seq.{get_or-take, length-take-le}
use Rattle.words.proofs.CaseLaws.{below_four}
use Rattle.lanes_interleave.specs.Interleave.{Interleaved}
use Rattle.lanes_interleave.proofs.RoundLaws.{moved_next}

pub two_next : (first second target : List ℕ) (n i : ℕ) → 2 * n ≤ length target → i < n → Interleaved (first ∷ second ∷ []) target i
    → Interleaved (first ∷ second ∷ []) (set (set target (2 * i) (get_or first i 0)) (2 * i + 1) (get_or second i 0)) (i + 1)
two_next first second target n i room h moved =
    let place : 2 * i + 0 ≡ 2 * i = omega arith in
    rw place at
    (moved_next 2 n (λ k j. 2 * j + k) (λ k j. get_or (get_or (first ∷ second ∷ []) k []) j 0) target i
    (λ k j l m hk hl hj hm e. (omega arith, omega arith)) (λ k l. omega arith) h moved)

-- element j of list k = 2×a + b is element 2×j + a of even, where b = 0, or of odd, where b = 1
pub four_of_two : (first second third fourth even odd target : List ℕ) (n : ℕ)
    → 2 * n ≤ length even → Interleaved (first ∷ third ∷ []) even n → Interleaved (second ∷ fourth ∷ []) odd n
    → Interleaved (take (2 * n) even ∷ take (2 * n) odd ∷ []) target (length (take (2 * n) even))
    → Interleaved (first ∷ second ∷ third ∷ fourth ∷ []) target n
four_of_two first second third fourth even odd target n room evens odds both = at
  where
    stage : (k a b j : ℕ) → (k ≡ 2 * a + b) × (a < 2) × (b < 2) → j < n
        → get_or target (4 * j + k) 0 ≡ get_or (get_or (take (2 * n) even ∷ take (2 * n) odd ∷ []) b []) (2 * j + a) 0
    stage k a b j (e, ha, hb) h =
        let place : 4 * j + k ≡ 2 * (2 * j + a) + b = omega arith in
        rw place (both b (2 * j + a) hb (omega (arith, length-take-le (2 * n) even room)))

    at : Interleaved (first ∷ second ∷ third ∷ fourth ∷ []) target n
    at k j hk h =
        below_four (λ k. get_or target (4 * j + k) 0 ≡ get_or (get_or (first ∷ second ∷ third ∷ fourth ∷ []) k []) j 0)
        (stage 0 0 0 j (omega arith) h ∙ get_or-take (2 * n) even (2 * j + 0) 0 (omega arith) ∙ evens 0 j (omega arith) h)
        (stage 1 0 1 j (omega arith) h ∙ get_or-take (2 * n) odd (2 * j + 0) 0 (omega arith) ∙ odds 0 j (omega arith) h)
        (stage 2 1 0 j (omega arith) h ∙ get_or-take (2 * n) even (2 * j + 1) 0 (omega arith) ∙ evens 1 j (omega arith) h)
        (stage 3 1 1 j (omega arith) h ∙ get_or-take (2 * n) odd (2 * j + 1) 0 (omega arith) ∙ odds 1 j (omega arith) h)
        k hk
