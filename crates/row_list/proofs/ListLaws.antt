-- What the layers above need of a list that is gathered, and of one that is kept.
use mathlib.Core.Path.{◌≡◌, refl, sym, ap, ◌∙◌, subst}
use mathlib.Core.List.{List, [], ◌∷◌, ◌++◌}
use mathlib.Core.Logic.{◌⊎◌, inl, inr, ⊎_elim}
use Prim.Native.Nat.{ℕ, zero, suc, ◌+◌, ◌≤◌, ◌<◌}
use native.Mathlib.Nat.{not-suc-le-zero, le_of_suc-le-suc}
use native.Mathlib.Omega.{arith}
use lib.ListN.{length, set, take, drop, replicate, length-set, length-replicate}
use Rattle.std.proofs.Common.{add-one}
use Rattle.std.proofs.lemmas.List.Edits.{paste_more}
use lib.Seq.{get_or-set_same, get_or-set_other}
use Rattle.row_signs.specs.declared.sign.Sign.{Sign}
use Rattle.row_signs.specs.Signs.{no_sign, sign_at}
use Rattle.row_list.specs.List.{gathered}

-- what is read past the end of a list
abbrev pub past_end : Sign
past_end = sign_at [] 0

-- a row has 32 records
length-gathered : (xs : List Sign) (n : ℕ) → length (gathered xs n).signs ≡ 32
length-gathered xs zero = length-replicate 32 no_sign
length-gathered xs (suc n) = length-set (gathered xs n).signs n _ ∙ length-gathered xs n

-- below the next number: below, or the number
below_next : (i m : ℕ) → i < suc m → (i < m) ⊎ (i ≡ m)
below_next i zero h = inr (omega arith)
below_next zero (suc m) h = inl (omega arith)
below_next (suc i) (suc m) h = ⊎_elim (λ l. inl (omega arith)) (λ e. inr (ap suc e)) (below_next i m (omega arith))

-- the record gathered last
gathered_last : (xs : List Sign) (n : ℕ) → n < 32 → sign_at (gathered xs (suc n)).signs n ≡ sign_at xs n
gathered_last xs n few =
    get_or-set_same (gathered xs n).signs n (sign_at xs n) past_end (subst (λ (m : ℕ). n < m) (sym (length-gathered xs n)) few)

-- each record that was gathered is the list's
pub gathered_at : (xs : List Sign) (n j : ℕ) → n ≤ 32 → j < n → sign_at (gathered xs n).signs j ≡ sign_at xs j
gathered_at xs zero j few less = absurd (not-suc-le-zero less)
gathered_at xs (suc n) j few less =
    ⊎_elim
    (λ l. get_or-set_other (gathered xs n).signs n j (sign_at xs n) past_end (λ e. omega arith) ∙ gathered_at xs n j (omega arith) l)
    (λ e. subst (λ (i : ℕ). sign_at (gathered xs (suc n)).signs i ≡ sign_at xs i) (sym e) (gathered_last xs n few))
    (below_next j n less)

-- the row has the list's first n records, and then free places
pub gathered_is : (xs : List Sign) (n : ℕ) → n ≤ length xs → n ≤ 32 → (gathered xs n).signs ≡ take n xs ++ drop n (replicate 32 no_sign)
gathered_is xs zero has few = refl
gathered_is xs (suc n) has few =
    let here : 0 + n ≡ n = omega arith in
    let next : 0 + suc n ≡ suc n = omega arith in
    ap (λ (row : List Sign). set row n (sign_at xs n)) (gathered_is xs n (omega arith) (omega arith))
    ∙ rw (add-one n, here, next) at (paste_more (replicate 32 no_sign) 0 xs n past_end (omega (arith, length-replicate {A = Sign} 32 no_sign)) (omega arith))

pub gathered_from : (xs : List Sign) (n : ℕ) → n ≤ length xs → n ≤ 32 → (front : List Sign) → front ≡ take n xs → (none : Sign) → none ≡ no_sign
    → front ++ drop n (replicate 32 none) ≡ (gathered xs n).signs
gathered_from xs n has few front ef none en = rw (ef, en) (sym (gathered_is xs n has few))

-- with nobody served the list stays as it was
pub set_past : (xs : List Sign) (i : ℕ) (s : Sign) → length xs ≤ i → xs ≡ set xs i s
set_past [] i s h = refl
set_past (x ∷ xs) zero s h = absurd (not-suc-le-zero h)
set_past (x ∷ xs) (suc i) s h = ap (λ (ys : List Sign). x ∷ ys) (set_past xs i s (le_of_suc-le-suc h))
