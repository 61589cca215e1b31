-- Two rising lists with the same members are the same, and so are two that have what holds below a number. Assumes nothing.
use Prim.Native.Nat.{ℕ, zero, suc, ◌<◌, ◌≤◌}
use mathlib.Core.Path.{◌≡◌, refl, subst}
use mathlib.Core.List.{List, [], ◌∷◌}
use native.Mathlib.Omega.{arith}
use lib.ListN.{length, get_or}
use Rattle.words.specs.Lists.{In, Rising, Ascending}

tail_rises : (a : ℕ) (l : List ℕ) → Rising (a ∷ l) → Rising l
tail_rises a l up p q h inside = up (suc p) (suc q) (omega (arith, h)) (omega (arith, inside))

least : (b : ℕ) (m : List ℕ) → Rising (b ∷ m) → (j : ℕ) → In (b ∷ m) j → b ≤ j
least b m up j i = go i.at i.inside i.is
  where
    go : (k : ℕ) → k < length (b ∷ m) → get_or (b ∷ m) k 0 ≡ j → b ≤ j
    go zero inside is = omega (arith, is)
    go (suc k) inside is = omega (arith, up 0 (suc k) (omega arith) inside, is)

above : (a : ℕ) (l : List ℕ) → Rising (a ∷ l) → (j : ℕ) → In l j → a < j
above a l up j i = let h = up 0 (suc i.at) (omega arith) (omega (arith, i.inside)) in omega (arith, h, i.is)

further : (a : ℕ) (l : List ℕ) (j : ℕ) → In l j → In (a ∷ l) j
further a l j i = record { at = suc i.at; inside = omega (arith, i.inside); is = i.is }

inner : (b : ℕ) (m : List ℕ) (j : ℕ) → b < j → In (b ∷ m) j → In m j
inner b m j h i = go i.at i.inside i.is
  where
    go : (k : ℕ) → k < length (b ∷ m) → get_or (b ∷ m) k 0 ≡ j → In m j
    go zero inside is = absurd (omega (arith, is, h))
    go (suc k) inside is = record { at = k; inside = omega (arith, inside); is = is }

none : (j : ℕ) → In [] j → ⊥
none j i = omega (arith, i.inside)

first : (a : ℕ) (l : List ℕ) → In (a ∷ l) a
first a l = record { at = 0; inside = omega arith; is = refl }

pub rising_same : (l m : List ℕ) → Rising l → Rising m → ((j : ℕ) → In l j → In m j) → ((j : ℕ) → In m j → In l j) → l ≡ m
rising_same [] [] u v to from = refl
rising_same [] (b ∷ m) u v to from = absurd (none b (from b (first b m)))
rising_same (a ∷ l) [] u v to from = absurd (none a (to a (first a l)))
rising_same (a ∷ l) (b ∷ m) u v to from =
    let down = least b m v a (to a (first a l)) in
    let up = least a l u b (from b (first b m)) in
    let same : a ≡ b = omega (arith, down, up) in
    let tails : l ≡ m =
    rising_same l m (tail_rises a l u) (tail_rises b m v)
    (λ j i. inner b m j (omega (arith, above a l u j i, same)) (to j (further a l j i)))
    (λ j i. inner a l j (omega (arith, above b m v j i, same)) (from j (further b m j i))) in
    λ i. same i ∷ tails i

member : (P : ℕ → Type 0) (n : ℕ) (l : List ℕ) → Ascending P n l → (j : ℕ) → In l j → (j < n) × P j
member P n l a j i = subst (λ (k : ℕ). (k < n) × P k) i.is (a.only i.at i.inside)

pub ascending_same : (P : ℕ → Type 0) (n : ℕ) (l m : List ℕ) → Ascending P n l → Ascending P n m → l ≡ m
ascending_same P n l m a b =
    rising_same l m a.rising b.rising
    (λ j i. let (below, holds) = member P n l a j i in b.all j below holds)
    (λ j i. let (below, holds) = member P n m b j i in a.all j below holds)
