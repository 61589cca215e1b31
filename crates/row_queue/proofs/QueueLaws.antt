-- Entries that join a queue, one that leaves it, and what is past them. Assumes nothing.
use Prim.Native.Nat.{ℕ, zero, suc, ◌+◌, ◌-◌, ◌<◌, ◌≤◌}
use mathlib.Core.Path.{◌≡◌, refl, sym, ap, ◌∙◌}
use mathlib.Core.List.{List, [], ◌∷◌, ◌++◌, append-nil}
use native.Mathlib.Omega.{arith}
use native.Mathlib.Decide.{dec_lt}
use lib.ListN.{length, get_or, set, take, drop, replicate, length-append, length-take, length-drop, length-replicate, drop_of_length-le}
use lib.ListN.{get_or-replicate, get_or-eq_default}
use lib.Seq.{paste, take_all, length-take-le, set-append_seam, append_snoc, get_or-append-add}
use borrow.Rule.Slice.PartMut.{put_mid}
use Rattle.std.proofs.lemmas.List.{take-take, drop-take}
use Rattle.std.proofs.lemmas.List.Edits.{take-paste}
use Rattle.row_signs.specs.declared.queue.Queue.{Queue}
use Rattle.row_signs.specs.Signs.{entries_of, left_of, queue_of}
use Rattle.row_signs.proofs.ListLaws.{entries_taken}
use Rattle.row_queue.specs.Waiting.{joined}

-- ---- the queue of a list with an entry more

zeros_more : (n m : ℕ) → n ≡ suc m → ◌≡◌ {A = List ℕ} (replicate n 0) (0 ∷ replicate m 0)
zeros_more n m e = ap (λ (k : ℕ). replicate k 0) e

pub joined_is : (l : List ℕ) (x : ℕ) → length l < 32 → joined (queue_of l) x ≡ queue_of (l ++ (x ∷ []))
joined_is l x room = rw (count, sym numbers) refl
  where
    count : length (l ++ (x ∷ [])) ≡ length l + 1
    count = length-append l (x ∷ [])

    numbers : set (l ++ replicate (32 - length l) 0) (length l) x ≡ (l ++ (x ∷ [])) ++ replicate (32 - (length l + 1)) 0
    numbers =
        ap (λ (zeros : List ℕ). set (l ++ zeros) (length l) x) (zeros_more (32 - length l) (32 - (length l + 1)) (omega (arith, room)))
        ∙ set-append_seam l 0 (replicate (32 - (length l + 1)) 0) x
        ∙ sym (append_snoc l x (replicate (32 - (length l + 1)) 0))

-- ---- the entries of a queue

pub entries_length : (numbers : List ℕ) (n : ℕ) → length (entries_of numbers n) ≡ n
entries_length numbers zero = refl
entries_length numbers (suc n) = length-append (entries_of numbers n) (get_or numbers n 0 ∷ []) ∙ omega (arith, entries_length numbers n)

pub queue_length : (l : List ℕ) (q : Queue) → q ≡ queue_of l → q.count ≡ length l
queue_length l q e = ap (λ (q : Queue). q.count) e

-- ---- the queue of a list: it has room for 32 entries, and those past the count are 0

pub queue_room : (l : List ℕ) → length l ≤ 32 → length (queue_of l).numbers ≡ 32
queue_room l few =
    omega (arith, few, length-append l (replicate (32 - length l) 0), length-replicate {A = ℕ} (32 - length l) 0)

zeros_at : (n i : ℕ) → get_or {A = ℕ} (replicate n 0) i 0 ≡ 0
zeros_at n i = go (dec_lt i n)
  where
    go : Dec (i < n) → get_or {A = ℕ} (replicate n 0) i 0 ≡ 0
    go (yes below) = get_or-replicate n i 0 0 below
    go (no past) = get_or-eq_default (replicate n 0) 0 (omega (arith, past, length-replicate {A = ℕ} n 0))

pub queue_zeros : (l : List ℕ) (p : ℕ) → length l ≤ p → get_or (queue_of l).numbers p 0 ≡ 0
queue_zeros l p past =
    let e : p ≡ length l + (p - length l) = omega (arith, past) in
    ap (λ (k : ℕ). get_or (queue_of l).numbers k 0) e
    ∙ get_or-append-add l (replicate (32 - length l) 0) (p - length l) 0
    ∙ zeros_at (32 - length l) (p - length l)

-- ---- an entry leaves

module _ (numbers : List ℕ) (room : length numbers ≡ 32) where
  -- the numbers up to the count, with zeros after it
  pub cleared : (count : ℕ) → count ≤ 32 → (l : List ℕ) → take count numbers ≡ l → (zeros : List ℕ)
      → zeros ≡ replicate (length (take (32 - count) (drop count numbers))) 0
      → record { count = count; numbers = put_mid count (32 - count) numbers zeros } ≡ queue_of l
  cleared count few l e zeros z = rw (← e, z, past, none, long, append-nil {A = ℕ} (replicate (32 - count) 0)) refl
    where
      long : length (take count numbers) ≡ count
      long = length-take-le count numbers (omega (arith, room))

      past : length (take (32 - count) (drop count numbers)) ≡ 32 - count
      past = omega (arith, length-take (32 - count) (drop count numbers), length-drop count numbers, room)

      none : drop (32 - count) (drop count numbers) ≡ []
      none = drop_of_length-le (drop count numbers) {i = 32 - count} (omega (arith, length-drop count numbers, room))

  -- those after it move up
  pub moved_up : (count p : ℕ) → count ≤ 32 → p < count
      → take (count - 1) (paste numbers p (drop (p + 1) numbers) (count - (p + 1))) ≡ left_of (entries_of numbers count) p
  moved_up count p few inside =
      ap (λ (k : ℕ). take k (paste numbers p (drop (p + 1) numbers) after)) sum
      ∙ take-paste numbers p (drop (p + 1) numbers) after (omega (arith, room)) (omega (arith, length-drop (p + 1) numbers, room))
      ∙ sym (rw (entries_taken numbers count (omega (arith, room)), take-take p count numbers (omega arith), rest) refl)
    where
      after : ℕ
      after = count - (p + 1)

      sum : count - 1 ≡ p + after
      sum = omega arith

      rest : drop (p + 1) (take count numbers) ≡ take after (drop (p + 1) numbers)
      rest = let whole : count ≡ (p + 1) + after = omega arith in ap (λ (k : ℕ). drop (p + 1) (take k numbers)) whole ∙ drop-take (p + 1) after numbers

  -- none does where it lies past the last
  pub none_left : (count p : ℕ) → count ≤ 32 → count ≤ p → take count numbers ≡ left_of (entries_of numbers count) p
  none_left count p few past =
      sym (entries_taken numbers count (omega (arith, room)))
      ∙ sym (rw (take_all p (entries_of numbers count) (omega (arith, entries_length numbers count)), beyond) (append-nil (entries_of numbers count)))
    where
      beyond : drop (p + 1) (entries_of numbers count) ≡ []
      beyond = drop_of_length-le (entries_of numbers count) {i = p + 1} (omega (arith, entries_length numbers count))
