-- The starts of a row's banks in a list: how it is filled, and that by such a list the banks stand as by the records. Assumes nothing.
use Prim.Native.Nat.{ℕ, zero, suc, ◌+◌, ◌*◌, ◌<◌}
use mathlib.Core.Path.{◌≡◌, refl, ap, ◌∙◌}
use mathlib.Core.Bool.{Bool}
use mathlib.Core.List.{List}
use native.Mathlib.Decide.{ℕ_discrete}
use native.Mathlib.Omega.{arith}
use lib.ListN.{length, get_or, set, replicate, length-set, length-replicate}
use lib.Seq.{get_or-set_same, get_or-set_other}
use Rattle.words.specs.Word.{all_below}
use Rattle.row_signs.specs.declared.sign.Sign.{Sign}
use Rattle.row_signs.specs.Signs.{sign_at}
use Rattle.row_judge.specs.Judge.{start_of, StartsOf, apart_of, bank_stands_of, banks_stand_of}
use Rattle.row_judge.proofs.JudgeLaws.{one_start, two_start}

-- ---- how the list is filled

-- a list of 64 numbers that has the starts of i records
abbrev pub Starting : List Sign → ℕ → List ℕ → Type 0
Starting signs i starts = (length starts ≡ 64) × StartsOf signs i starts

pub starts_begin : (signs : List Sign) → Starting signs 0 (replicate 64 0)
starts_begin signs = (length-replicate {A = ℕ} 64 0, λ b l. absurd (omega arith))

-- with the two starts of record i it has those of i + 1
pub starts_next : (signs : List Sign) (i : ℕ) (starts : List ℕ) → i < 32 → Starting signs i starts
    → Starting signs (i + 1) (set (set starts (2 * i) (sign_at signs i).one) (2 * i + 1) (sign_at signs i).two)
starts_next signs i starts few (long, so_far) =
    (length-set first (2 * i + 1) (sign_at signs i).two ∙ first_long, λ b l. go b l (ℕ_discrete b (2 * i + 1)) (ℕ_discrete b (2 * i)))
  where
    first : List ℕ
    first = set starts (2 * i) (sign_at signs i).one

    first_long : length first ≡ 64
    first_long = length-set starts (2 * i) (sign_at signs i).one ∙ long

    go : (b : ℕ) → b < 2 * (i + 1) → Dec (b ≡ 2 * i + 1) → Dec (b ≡ 2 * i)
        → get_or (set first (2 * i + 1) (sign_at signs i).two) b 0 ≡ start_of signs b
    go b l (yes two) one =
        rw (two, two_start signs i) (get_or-set_same first (2 * i + 1) (sign_at signs i).two 0 (omega (arith, first_long, few)))
    go b l (no two) (yes one) =
        get_or-set_other first (2 * i + 1) b (sign_at signs i).two 0 two
        ∙ rw (one, one_start signs i) (get_or-set_same starts (2 * i) (sign_at signs i).one 0 (omega (arith, long, few)))
    go b l (no two) (no one) =
        get_or-set_other first (2 * i + 1) b (sign_at signs i).two 0 two
        ∙ get_or-set_other starts (2 * i) b (sign_at signs i).one 0 one
        ∙ so_far b (omega (arith, l, two, one))

-- ---- banks by starts that agree

-- tests that agree below n hold there of every number alike
all_same : (p q : ℕ → Bool) (n : ℕ) → ((j : ℕ) → j < n → p j ≡ q j) → all_below p n ≡ all_below q n
all_same p q zero same = refl
all_same p q (suc n) same = rw (all_same p q n (λ j l. same j (omega arith)), same n (omega arith)) refl

-- by starts that agree below m each bank below m stands alike
module _ (start other : ℕ → ℕ) (m words store : ℕ) (same : (b : ℕ) → b < m → start b ≡ other b) where
  bank_same : (b : ℕ) → b < m → bank_stands_of start words store b ≡ bank_stands_of other words store b
  unfolding bank_stands_of
  bank_same b l =
      rw (
        same b l,
        all_same
            (λ e. apart_of words (start e) (other b))
            (λ e. apart_of words (other e) (other b))
            b
            (λ e before. ap (λ (s : ℕ). apart_of words s (other b)) (same e (omega (arith, before, l)))),
      )
      refl

  pub stand_alike : all_below (bank_stands_of start words store) m ≡ all_below (bank_stands_of other words store) m
  stand_alike = all_same (bank_stands_of start words store) (bank_stands_of other words store) m bank_same

-- so by the list as by the records
pub by_starts : (signs : List Sign) (n words store : ℕ) (starts : List ℕ) → StartsOf signs n starts
    → all_below (bank_stands_of (λ b. get_or starts b 0) words store) (2 * n) ≡ banks_stand_of signs n words store
unfolding banks_stand_of
by_starts signs n words store starts h = stand_alike (λ b. get_or starts b 0) (start_of signs) (2 * n) words store h
