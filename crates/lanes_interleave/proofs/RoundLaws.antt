-- A round of a loop moves some bytes: it writes their places and no other, so that the bytes moved before stay.
-- Assumes nothing.
use mathlib.Core.Path.{◌≡◌, ◌∙◌}
use mathlib.Core.List.{List}
use Prim.Native.Nat.{ℕ, ◌+◌, ◌≤◌, ◌<◌}
use native.Mathlib.Decide.{dec_le}
use native.Mathlib.Omega.{arith}
use lib.ListN.{length, get_or}
use Rattle.lanes_interleave.proofs.PutLaws.{put, put_other, put_same}

-- after i rounds of c stores: the place `to k j` of the target has the value `value k j`
abbrev pub Moved : ℕ → (ℕ → ℕ → ℕ) → (ℕ → ℕ → ℕ) → List ℕ → ℕ → Type 0
Moved c to value target i = (k j : ℕ) → k < c → j < i → get_or target (to k j) 0 ≡ value k j

-- the rounds before `from` stay, and those from there on are moved
pub moved_further : (c : ℕ) (to value : ℕ → ℕ → ℕ) (before after : List ℕ) (from i : ℕ)
    → ((k j : ℕ) → k < c → j < from → get_or after (to k j) 0 ≡ get_or before (to k j) 0)
    → ((k j : ℕ) → k < c → from ≤ j → j < i → get_or after (to k j) 0 ≡ value k j)
    → Moved c to value before from → Moved c to value after i
moved_further c to value before after from i stays new moved k j hk hj = go (dec_le from j)
  where
    go : Dec (from ≤ j) → get_or after (to k j) 0 ≡ value k j
    go (yes now) = new k j hk now hj
    go (no earlier) = stays k j hk (omega arith) ∙ moved k j hk (omega arith)

-- no two stores of n rounds are to one place
abbrev pub Apart : ℕ → ℕ → (ℕ → ℕ → ℕ) → Type 0
Apart c n to = (k j l m : ℕ) → k < c → l < c → j < n → m < n → to k j ≡ to l m → (k ≡ l) × (j ≡ m)

-- the target after round i
abbrev round : ℕ → (ℕ → ℕ → ℕ) → (ℕ → ℕ → ℕ) → List ℕ → ℕ → List ℕ
round c to value target i = put target (λ k. to k i) (λ k. value k i) c

pub moved_next : (c n : ℕ) (to value : ℕ → ℕ → ℕ) (target : List ℕ) (i : ℕ) → Apart c n to
    → ((k : ℕ) → k < c → to k i < length target) → i < n → Moved c to value target i
    → Moved c to value (round c to value target i) (i + 1)
moved_next c n to value target i apart inside h = moved_further c to value target (round c to value target i) i (i + 1) stays new
  where
    places : ℕ → ℕ
    places k = to k i

    values : ℕ → ℕ
    values k = value k i

    stays : (k j : ℕ) → k < c → j < i → get_or (round c to value target i) (to k j) 0 ≡ get_or target (to k j) 0
    stays k j hk hj = put_other target places values c (to k j) (λ l hl same. omega (arith, (apart k j l i hk hl (omega arith) h same).1))

    new : (k j : ℕ) → k < c → i ≤ j → j < i + 1 → get_or (round c to value target i) (to k j) 0 ≡ value k j
    new k j hk now hj =
        let e : j ≡ i = omega arith in
        rw e (put_same target places values c k (λ a b ha hb same. (apart a i b i ha hb h h same).0) (inside k hk) hk)
