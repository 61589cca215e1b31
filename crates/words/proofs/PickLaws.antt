-- Choosing by a test. Assumes nothing.
use mathlib.Core.Path.{◌≡◌, refl}
use mathlib.Core.Bool.{Bool, true, false, ◌&&◌, and-false}
use Prim.Native.Nat.{ℕ, zero, suc, ◌<◌}
use native.Mathlib.Nat.{not-suc-le-zero}
use native.Mathlib.Decide.{dec_le}
use native.Mathlib.Omega.{arith}
use Rattle.words.specs.Word.{pick, all_below}

pub pick_same : {A : Type 0} (t : Bool) (x : A) → pick t x x ≡ x
pick_same true x = refl
pick_same false x = refl

-- what holds of both holds of the one that is chosen
pub pick_both : {A : Type 0} (P : A → Type 0) (t : Bool) {x y : A} → P x → P y → P (pick t x y)
pick_both P true p q = p
pick_both P false p q = q

-- each may use what the test says
pub pick_each : {A : Type 0} (P : A → Type 0) (t : Bool) {x y : A} → (t ≡ true → P x) → (t ≡ false → P y) → P (pick t x y)
pick_each P true p q = p refl
pick_each P false p q = q refl

-- a test that cannot hold, and one that cannot fail
pub never_true : (t : Bool) → (t ≡ true → ⊥) → t ≡ false
never_true true h = absurd (h refl)
never_true false h = refl

pub never_false : (t : Bool) → (t ≡ false → ⊥) → t ≡ true
never_false true h = refl
never_false false h = absurd (h refl)

-- both parts of a test hold
pub and_both : (a b : Bool) → (a && b) ≡ true → (a ≡ true) × (b ≡ true)
and_both true b h = (refl, h)
and_both false b h = let z : ◌≡◌ {A = ℕ} 0 1 = cc in absurd (omega arith)

-- what is tested of every number below n holds of each
pub all-below : (p : ℕ → Bool) (n : ℕ) → all_below p n ≡ true → (k : ℕ) → k < n → p k ≡ true
all-below p zero h k l = absurd (not-suc-le-zero l)
all-below p (suc n) h k l = go (dec_le (suc k) n) (all-below p n (and_both (all_below p n) (p n) h).0 k)
  where
    go : Dec (k < n) → (k < n → p k ≡ true) → p k ≡ true
    go (yes i) below = below i
    go (no i) below = let e : k ≡ n = omega arith in rw e (and_both (all_below p n) (p n) h).1

-- and what holds of each is so tested
pub all_hold : (p : ℕ → Bool) (n : ℕ) → ((k : ℕ) → k < n → p k ≡ true) → all_below p n ≡ true
all_hold p zero h = refl
all_hold p (suc n) h = rw (all_hold p n (λ k l. h k (omega arith))) (h n (omega arith))

-- where it fails of one, it does not hold of every number below n
pub not_all_below : (p : ℕ → Bool) (n k : ℕ) → k < n → p k ≡ false → all_below p n ≡ false
not_all_below p zero k l h = absurd (not-suc-le-zero l)
not_all_below p (suc n) k l h = go (dec_le (suc k) n) (not_all_below p n k)
  where
    go : Dec (k < n) → (k < n → p k ≡ false → all_below p n ≡ false) → all_below p (suc n) ≡ false
    go (yes i) below = rw (below i h)
    go (no i) below = let e : k ≡ n = omega arith in rw (rw e at h) (and-false (all_below p n))
