-- Counting records, and the entries of a queue as a list. Assumes nothing.
use Prim.Native.Nat.{ℕ, zero, suc, ◌+◌, ◌<◌, ◌≤◌}
use mathlib.Core.Path.{◌≡◌, refl, sym, ap, ◌∙◌}
use mathlib.Core.Bool.{Bool, true, false}
use mathlib.Core.List.{List, [], ◌∷◌}
use native.Mathlib.Omega.{arith}
use native.Mathlib.Decide.{dec_lt}
use lib.Dec.{ltb}
use borrow.Author.Tests.{ltb-true, lt-ltb}
use Rattle.std.proofs.Common.{Option, Some, None, count_by, add-one}
use Rattle.std.proofs.lemmas.List.Sums.{count_by_more_yes, count_by_more_no}
use lib.ListN.{length, get_or, take, get_or-append}
use lib.Seq.{get_or-append_seam}
use Rattle.words.specs.Word.{pick, first_from}
use Rattle.words.proofs.FirstLaws.{first_is}
use Rattle.row_signs.specs.declared.queue.Queue.{Queue}
use Rattle.row_signs.specs.declared.sign.Sign.{Sign}
use Rattle.row_signs.specs.Signs.{past_end, sign_at, entries_of, waiting_of}
use Rattle.row_queue.proofs.QueueLaws.{entries_length}
use Rattle.row_choice.specs.Choice.{count_of}
use Rattle.row_schedule.specs.Calls.{some_below}

pub counted : (p : ℕ → Bool) (i : ℕ) → p i ≡ true → count_of p (suc i) ≡ count_of p i + 1
counted p i e = rw e

pub not_counted : (p : ℕ → Bool) (i : ℕ) → p i ≡ false → count_of p (suc i) ≡ count_of p i
not_counted p i e = rw e (omega arith)

-- of the first n elements of a list, in the words of the library
pub counted_taken : (p : Sign → Bool) (signs : List Sign) (n : ℕ) → n ≤ length signs → count_by p (take n signs) ≡ count_of (λ j. p (sign_at signs j)) n
counted_taken p signs zero few = refl
counted_taken p signs (suc n) few = go (p (sign_at signs n)) refl (counted_taken p signs n (omega arith))
  where
    go : (t : Bool) → p (sign_at signs n) ≡ t → count_by p (take n signs) ≡ count_of (λ j. p (sign_at signs j)) n
        → count_by p (take (suc n) signs) ≡ count_of (λ j. p (sign_at signs j)) (suc n)
    go true e earlier =
        rw (add-one n) at (count_by_more_yes p signs n past_end (omega arith) e)
        ∙ ap (λ (m : ℕ). m + 1) earlier ∙ sym (counted (λ j. p (sign_at signs j)) n e)
    go false e earlier =
        rw (add-one n) at (count_by_more_no p signs n past_end (omega arith) e) ∙ earlier ∙ sym (not_counted (λ j. p (sign_at signs j)) n e)

-- a number where it is below n, and none where it is not
pub below_some : (i n p : ℕ) → ◌≡◌ {A = Option ℕ} (Some p) (some_below i n) → (p ≡ i) × (i < n)
below_some i n p e = go (ltb i n) refl e
  where
    go : (t : Bool) → ltb i n ≡ t → ◌≡◌ {A = Option ℕ} (Some p) (pick t (Some i) None) → (p ≡ i) × (i < n)
    go true l s = (cc, ltb-true _ _ l)
    go false l s = cc

pub below_none : (i n : ℕ) → ◌≡◌ {A = Option ℕ} None (some_below i n) → n ≤ i
below_none i n e = go (dec_lt i n) e
  where
    go : Dec (i < n) → ◌≡◌ {A = Option ℕ} None (some_below i n) → n ≤ i
    go (yes l) s = let some : ◌≡◌ {A = Option ℕ} None (Some i) = rw (lt-ltb i n l) at s in cc
    go (no more) s = omega (arith, more)

-- ---- the entries of a queue

pub entry_is : (numbers : List ℕ) (n p : ℕ) → p < n → get_or (entries_of numbers n) p 0 ≡ get_or numbers p 0
entry_is numbers zero p l = absurd (omega arith)
entry_is numbers (suc n) p l = go (dec_lt p n) (entry_is numbers n p)
  where
    go : Dec (p < n) → (p < n → get_or (entries_of numbers n) p 0 ≡ get_or numbers p 0) → get_or (entries_of numbers (suc n)) p 0 ≡ get_or numbers p 0
    go (yes below) earlier =
        get_or-append (entries_of numbers n) (get_or numbers n 0 ∷ []) 0 p (omega (arith, entries_length numbers n, below)) ∙ earlier below
    go (no last) earlier =
        let at : length (entries_of numbers n) ≡ p = omega (arith, entries_length numbers n, l, last) in
        let same : n ≡ p = omega (arith, l, last) in
        ap (λ (k : ℕ). get_or (entries_of numbers (suc n)) k 0) (sym at)
        ∙ get_or-append_seam (entries_of numbers n) (get_or numbers n 0) [] 0
        ∙ ap (λ (k : ℕ). get_or numbers k 0) same

-- the first entry of a queue of which a test holds
pub first_entry : (queue : Queue) (can : ℕ → Bool) (p : ℕ) → p ≤ queue.count → (p < queue.count → can (get_or queue.numbers p 0) ≡ true)
    → ((q : ℕ) → q < p → can (get_or queue.numbers q 0) ≡ false)
    → p ≡ first_from (λ q. can (get_or (waiting_of queue) q 0)) 0 (length (waiting_of queue))
first_entry queue can p within found before =
    first_is (λ q. can (get_or (waiting_of queue) q 0)) queue.count p
    (record {
      within = within;
      found = λ l. ap can (entry_is queue.numbers queue.count p l) ∙ found l;
      before = λ q l. ap can (entry_is queue.numbers queue.count q (omega (arith, l, within))) ∙ before q l;
    })
    ∙ ap (λ (n : ℕ). first_from (λ q. can (get_or (waiting_of queue) q 0)) 0 n) (sym (entries_length queue.numbers queue.count))

-- what failed below i and fails at i fails below i + 1
pub none_more : (p : ℕ → Bool) (i : ℕ) → ((k : ℕ) → k < i → p k ≡ false) → p i ≡ false → (k : ℕ) → k < i + 1 → p k ≡ false
none_more p i none at k l = go (dec_lt k i)
  where
    go : Dec (k < i) → p k ≡ false
    go (yes below) = none k below
    go (no last) = let same : k ≡ i = omega (arith, l, last) in rw same at
