-- The block's part of each lane, by turns, is the block's words: byte k of word j is byte j of lane k.
-- Assumes nothing.
use mathlib.Core.Path.{◌≡◌, ◌∙◌}
use mathlib.Core.List.{List, [], ◌∷◌, ◌++◌}
use Prim.Native.Nat.{ℕ, ◌+◌, ◌*◌, ◌-◌, ◌≤◌, ◌<◌}
use native.Mathlib.Omega.{arith}
use lib.ListN.{length, get_or, take, drop, length-take, length-drop, get_or-append}
use lib.Seq.{get_or-append-add, get_or-take, get_or-drop, length-take-le}
use Rattle.words.proofs.CaseLaws.{below_four}
use Rattle.lanes_interleave.specs.Interleave.{Interleaved}
use Rattle.lanes_interleave.specs.Blocks.{WordsBack}

-- the part of a list from a to e
abbrev part : List ℕ → ℕ → ℕ → List ℕ
part l a e = take (e - a) (drop a l)

part_at : (l : List ℕ) (a e m i : ℕ) → m < e - a → a + m ≡ i → get_or (part l a e) m 0 ≡ get_or l i 0
part_at l a e m i h same = get_or-take (e - a) (drop a l) m 0 h ∙ get_or-drop a l m 0 ∙ rw same

-- a block's part of each lane
abbrev lanes_of_block : List ℕ → ℕ → ℕ → ℕ → List (List ℕ)
lanes_of_block source n from to =
    part source from to ∷ part source (n + from) (n + to) ∷ part source (2 * n + from) (2 * n + to) ∷ part source (3 * n + from) (3 * n + to) ∷ []

lane_at : (source : List ℕ) (n from to k j : ℕ) → k < 4 → from ≤ j → j < to
    → get_or (get_or (lanes_of_block source n from to) k []) (j - from) 0 ≡ get_or source (k * n + j) 0
lane_at source n from to k j hk h l =
    below_four (λ k. get_or (get_or (lanes_of_block source n from to) k []) (j - from) 0 ≡ get_or source (k * n + j) 0)
    (part_at source from to _ _ (omega arith) (omega arith))
    (part_at source (n + from) (n + to) _ _ (omega arith) (omega arith))
    (part_at source (2 * n + from) (2 * n + to) _ _ (omega arith) (omega arith))
    (part_at source (3 * n + from) (3 * n + to) _ _ (omega arith) (omega arith))
    k hk

-- the target with the block's bytes from its first word on
pub block_back : (source target bytes rest : List ℕ) (n from to : ℕ)
    → 4 * from ≤ length target → to ≤ length source → 4 * (to - from) ≤ length bytes
    → Interleaved (lanes_of_block source n from to) bytes (length (part source from to))
    → WordsBack source target (take (4 * from) target ++ (bytes ++ rest)) n from to
block_back source target bytes rest n from to begins given fits turns = record { back = back; earlier = earlier }
  where
    front : length (take (4 * from) target) ≡ 4 * from
    front = length-take-le (4 * from) target begins

    count : length (part source from to) ≡ to - from
    count = simp (length-take, length-drop) (omega arith)

    back : (k j : ℕ) → k < 4 → from ≤ j → j < to → get_or (take (4 * from) target ++ (bytes ++ rest)) (4 * j + k) 0 ≡ get_or source (k * n + j) 0
    back k j hk h l =
        let place : 4 * j + k ≡ length (take (4 * from) target) + (4 * (j - from) + k) = omega (arith, front) in
        rw place
        (get_or-append-add (take (4 * from) target) (bytes ++ rest) (4 * (j - from) + k) 0
        ∙ get_or-append bytes rest 0 (4 * (j - from) + k) (omega arith)
        ∙ turns k (j - from) hk (omega (arith, count))
        ∙ lane_at source n from to k j hk h l)

    earlier : (i : ℕ) → i < 4 * from → get_or (take (4 * from) target ++ (bytes ++ rest)) i 0 ≡ get_or target i 0
    earlier i h = get_or-append (take (4 * from) target) (bytes ++ rest) 0 i (omega (arith, front)) ∙ get_or-take (4 * from) target i 0 h
