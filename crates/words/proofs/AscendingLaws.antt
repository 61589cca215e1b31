-- The numbers of which something holds, one number more: n comes to the end of the list where it holds of n, else the list stays.
-- Assumes nothing.
use Prim.Native.Nat.{ℕ, suc, ◌+◌, ◌<◌}
use mathlib.Core.Path.{◌≡◌, refl, sym}
use mathlib.Core.List.{List, [], ◌∷◌, ◌++◌}
use native.Mathlib.Decide.{dec_lt}
use native.Mathlib.Omega.{arith}
use lib.ListN.{length, get_or, length-append, get_or-append}
use lib.Seq.{get_or_at}
use Rattle.words.specs.Lists.{In, Rising, Ascending}

pub ascending_none : (P : ℕ → Type 0) → Ascending P 0 []
ascending_none P = record { only = λ k h. absurd (omega arith); rising = λ p q h inside. absurd (omega arith); all = λ i h holds. absurd (omega arith) }

module _ (P : ℕ → Type 0) (n : ℕ) (l : List ℕ) (a : Ascending P n l) where
  pub ascending_stays : (P n → ⊥) → Ascending P (suc n) l
  ascending_stays none =
      record {
        only = λ k h. let (below, holds) = a.only k h in (omega (arith, below), holds);
        rising = a.rising;
        all = λ i h holds. go i h holds (dec_lt i n);
      }
    where
      go : (i : ℕ) → i < suc n → P i → Dec (i < n) → In l i
      go i h holds (yes below) = a.all i below holds
      go i h holds (no not_below) = let e : i ≡ n = omega arith in absurd (none (rw e at holds))

  longer : length (l ++ (n ∷ [])) ≡ length l + 1
  longer = length-append l (n ∷ [])

  -- what the list had stands where it stood, and n after it
  old : (k : ℕ) → k < length l → get_or (l ++ (n ∷ [])) k 0 ≡ get_or l k 0
  old k h = get_or-append l (n ∷ []) 0 k h

  new : (k : ℕ) → k ≡ length l → get_or (l ++ (n ∷ [])) k 0 ≡ n
  new k e = get_or_at l n [] 0 k (sym e)

  only_more : P n → (k : ℕ) → k < length (l ++ (n ∷ [])) → (get_or (l ++ (n ∷ [])) k 0 < suc n) × P (get_or (l ++ (n ∷ [])) k 0)
  only_more holds k h = go (dec_lt k (length l))
    where
      go : Dec (k < length l) → (get_or (l ++ (n ∷ [])) k 0 < suc n) × P (get_or (l ++ (n ∷ [])) k 0)
      go (yes i) = rw (old k i) (let (below, held) = a.only k i in (omega (arith, below), held))
      go (no i) = rw (new k (omega (arith, longer))) (omega arith, holds)

  rising_more : Rising (l ++ (n ∷ []))
  rising_more p q h inside = go (dec_lt q (length l))
    where
      go : Dec (q < length l) → get_or (l ++ (n ∷ [])) p 0 < get_or (l ++ (n ∷ [])) q 0
      go (yes i) = rw (old p (omega arith), old q i) (a.rising p q h i)
      go (no i) =
          let before : p < length l = omega (arith, longer) in
          rw (old p before, new q (omega (arith, longer))) (a.only p before).0

  all_more : (i : ℕ) → i < suc n → P i → In (l ++ (n ∷ [])) i
  all_more i h holds = go (dec_lt i n)
    where
      go : Dec (i < n) → In (l ++ (n ∷ [])) i
      go (yes below) =
          let m = a.all i below holds in
          record { at = m.at; inside = omega (arith, m.inside, longer); is = rw (old m.at m.inside) m.is }
      go (no not_below) =
          let e : n ≡ i = omega arith in
          record { at = length l; inside = omega (arith, longer); is = rw (new (length l) refl) e }

  pub ascending_more : P n → Ascending P (suc n) (l ++ (n ∷ []))
  ascending_more holds = record { only = only_more holds; rising = rising_more; all = all_more }
