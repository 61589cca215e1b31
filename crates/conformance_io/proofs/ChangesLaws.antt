-- The changes of a bank word by word, and what is printed of them. Assumes nothing.
use mathlib.Core.Path.{◌≡◌, refl, sym, ap, ◌∙◌}
use mathlib.Core.List.{List, [], ◌∷◌, ◌++◌, append_assoc}
use Prim.Native.Nat.{ℕ, zero, suc, ◌+◌, ◌-◌, ◌<◌, min}
use native.Mathlib.Omega.{arith}
use lib.ListN.{length, length-append, get_or, take, drop}
use Rattle.std.proofs.Common.{nat_eq, true, false, Bool, if◌then◌else◌}
use Rattle.std.specs.Fmt.{decimal}
use Rattle.std.proofs.lemmas.Bool.Decides.{nat_tests}
use Rattle.std.proofs.lemmas.List.{append-nil, take_more}
use Rattle.std.proofs.Math.Seq.{drop-nil, drop-cons}
use Rattle.conformance_io.specs.declared.banks.Change.{Change}
use Rattle.conformance_io.specs.Changes.{changes_from}
use Rattle.conformance_io.specs.Text.{following, changes_following, changes_text}

-- the changes of one bank after those of another
changes_joined : (first rest : List Change) → changes_following (first ++ rest) ≡ changes_following first ++ changes_following rest
changes_joined [] rest = refl
changes_joined (change ∷ first) rest =
    let front = following (change.bank ∷ change.index ∷ change.word ∷ []) in
    ap (λ (text : List ℕ). front ++ text) (changes_joined first rest) ∙ sym (append_assoc front (changes_following first) (changes_following rest))

-- one change more
change_after : (first : List Change) (change : Change)
    → changes_following first ++ following (change.bank ∷ change.index ∷ change.word ∷ []) ≡ changes_following (first ++ (change ∷ []))
change_after first change =
    let printed = following (change.bank ∷ change.index ∷ change.word ∷ []) in
    sym (changes_joined first (change ∷ []) ∙ ap (λ (text : List ℕ). changes_following first ++ text) (append-nil printed))

pub change_next : (changes : List Change) (i : ℕ) (d : Change) → i < length changes
    → let change = get_or changes i d in
    changes_following (take i changes) ++ following (change.bank ∷ change.index ∷ change.word ∷ []) ≡ changes_following (take (i + 1) changes)
change_next changes i d l = change_after (take i changes) (get_or changes i d) ∙ sym (ap changes_following (take_more changes i d l))

-- one word more, before a list that it does not touch
onto : (same : Bool) (change : Change) (all front back : List Change) → all ≡ front ++ back
    → if same then all else (change ∷ all) ≡ (if same then front else (change ∷ front)) ++ back
onto true change all front back e = e
onto false change all front back e = ap (λ (changes : List Change). change ∷ changes) e

changes_more : (bank k i : ℕ) (now before : List ℕ) → i < length now
    → changes_from bank k (take (suc i) now) before
    ≡ changes_from bank k (take i now) before ++ changes_from bank (k + i) (get_or now i 0 ∷ []) (drop i before)
changes_more bank k i [] before l = absurd (omega (arith, l))
changes_more bank k zero (word ∷ now) before l = ap (λ (m : ℕ). changes_from bank m (word ∷ []) before) (omega arith)
changes_more bank k (suc i) (word ∷ now) [] l =
    let front = changes_from bank (k + 1) (take i now) [] in
    let at : k + 1 + i ≡ k + suc i = omega arith in
    ap (λ (changes : List Change). record { bank = bank; index = k; word = word } ∷ changes)
    (changes_more bank (k + 1) i now [] (omega (arith, l))
    ∙ ap (λ (rest : List ℕ). front ++ changes_from bank (k + 1 + i) (get_or now i 0 ∷ []) rest) (drop-nil i)
    ∙ ap (λ (m : ℕ). front ++ changes_from bank m (get_or now i 0 ∷ []) []) at)
changes_more bank k (suc i) (word ∷ now) (old ∷ before) l =
    onto (nat_eq old word) _ _ _ _
    (changes_more bank (k + 1) i now before (omega (arith, l))
    ∙ ap (λ (m : ℕ). changes_from bank (k + 1) (take i now) before ++ changes_from bank m (get_or now i 0 ∷ []) (drop i before)) (omega arith))

-- how many there are with one more
sized : (same : Bool) (change : Change) (all : List Change) → length (if same then all else (change ∷ all)) ≡ length all + (if same then 0 else 1)
sized true change all = omega arith
sized false change all = omega arith

one : (same : Bool) (change : Change) → length (if same then [] else (change ∷ [])) ≡ if same then 0 else 1
one true change = refl
one false change = refl

-- the first words and one more, by what that one changed
module _ (bank i : ℕ) (now before : List ℕ) (l : i < length now) where
  pub next : (changes : List Change) → changes_from bank i (get_or now i 0 ∷ []) (drop i before) ≡ changes
      → changes_from bank 0 (take (i + 1) now) before ≡ changes_from bank 0 (take i now) before ++ changes
  next changes e =
      let first = changes_from bank 0 (take i now) before in
      let more : i + 1 ≡ suc i = omega arith in
      let at : 0 + i ≡ i = omega arith in
      ap (λ (m : ℕ). changes_from bank 0 (take m now) before) more
      ∙ changes_more bank 0 i now before l
      ∙ ap (λ (m : ℕ). first ++ changes_from bank m (get_or now i 0 ∷ []) (drop i before)) at
      ∙ ap (λ (rest : List Change). first ++ rest) e

  pub as_before : changes_from bank i (get_or now i 0 ∷ []) (drop i before) ≡ []
      → changes_from bank 0 (take (i + 1) now) before ≡ changes_from bank 0 (take i now) before
  as_before e = next [] e ∙ append-nil (changes_from bank 0 (take i now) before)

  pub one_more : (change : Change) → changes_from bank i (get_or now i 0 ∷ []) (drop i before) ≡ change ∷ []
      → changes_following (changes_from bank 0 (take i now) before) ++ following (change.bank ∷ change.index ∷ change.word ∷ [])
      ≡ changes_following (changes_from bank 0 (take (i + 1) now) before)
  one_more change e = change_after (changes_from bank 0 (take i now) before) change ∙ sym (ap changes_following (next (change ∷ []) e))

  pub counted : i < length before
      → length (changes_from bank 0 (take (i + 1) now) before)
      ≡ length (changes_from bank 0 (take i now) before) + (if nat_eq (get_or before i 0) (get_or now i 0) then 0 else 1)
  counted h =
      let first = changes_from bank 0 (take i now) before in
      ap length (next _ refl)
      ∙ length-append first (changes_from bank i (get_or now i 0 ∷ []) (drop i before))
      ∙ ap (λ (words : List ℕ). length first + length (changes_from bank i (get_or now i 0 ∷ []) words)) (drop-cons before i 0 h)
      ∙ ap (λ (n : ℕ). length first + n) (one (nat_eq (get_or before i 0) (get_or now i 0)) _)

-- each word that had none before it is changed
all_new : (bank k : ℕ) (now : List ℕ) → length (changes_from bank k now []) ≡ length now
all_new bank k [] = refl
all_new bank k (word ∷ now) = ap suc (all_new bank (k + 1) now)

-- the words that had one before, and those that had none
pub counted_all : (bank k i : ℕ) (now before : List ℕ) → i ≡ min (length now) (length before)
    → (length now - length before) + length (changes_from bank k (take i now) before) ≡ length (changes_from bank k now before)
counted_all bank k zero [] before e = omega arith
counted_all bank k (suc i) [] before e = absurd (omega (arith, e))
counted_all bank k zero (word ∷ now) [] e = omega (arith, all_new bank (k + 1) now)
counted_all bank k (suc i) (word ∷ now) [] e = absurd (omega (arith, e))
counted_all bank k zero (word ∷ now) (old ∷ before) e = absurd (omega (arith, e))
counted_all bank k (suc i) (word ∷ now) (old ∷ before) e =
    let others = counted_all bank (k + 1) i now before (omega (arith, e)) in
    let short = sized (nat_eq old word) (record { bank = bank; index = k; word = word }) (changes_from bank (k + 1) (take i now) before) in
    let long = sized (nat_eq old word) (record { bank = bank; index = k; word = word }) (changes_from bank (k + 1) now before) in
    omega (arith, others, short, long)

-- the changes of both banks after their count
pub both_printed : (one two : List Change) (count_one count_two : ℕ) → count_one ≡ length one → count_two ≡ length two
    → decimal (count_one + count_two) ++ (changes_following one ++ changes_following two) ≡ changes_text (one ++ two)
both_printed one two count_one count_two e f =
    rw (e, f, length-append one two, changes_joined one two) refl

same : (n : ℕ) → nat_eq n n ≡ true
same n = grind (arith, nat_tests)

-- a bank that was the same before
pub unchanged : (bank k : ℕ) (words : List ℕ) → changes_from bank k words words ≡ []
unchanged bank k [] = refl
unchanged bank k (word ∷ words) = rw (same word) (unchanged bank (k + 1) words)
