-- W-206, decline 19: "a list length, K or last served out of range, a queue that repeats a record or oversteps the list, or overlapping or overhanging
-- banks". Assumes nothing.
use Rattle.std.specs.Prelude.{ℕ, ◌+◌, ◌*◌, ◌/◌, ◌%◌, ◌≤◌, ◌<◌, ◌≡◌, ◌⊎◌, Bool, true, not, ◌&&◌, ◌||◌, List, [], ◌∷◌, eqb, leb, ltb, get_or, Ok, Err}
use Rattle.words.specs.Word.{pick, all_below, any_below}
use Rattle.words.specs.declared.decline.Decline.{Decline}
use Rattle.words.specs.Decline.{Verdict, first_of}
use Rattle.geometry.specs.declared.banks.Geometry.{Geometry}
use Rattle.geometry.specs.Banks.{in_range_of, bank_words_of}
use Rattle.geometry.specs.Lent.{most_sram, lent_decline_of}
use Rattle.row_signs.specs.declared.sign.Sign.{Sign}
use Rattle.row_signs.specs.declared.queue.Queue.{Queue}
use Rattle.row_signs.specs.Signs.{sign_at}

-- "1 to 32"
abbrev pub most : ℕ
most = 32

abbrev pub in_row_of : ℕ → Bool
in_row_of n = ltb 0 n && leb n most

-- entry p of the queue is a record of the list, and no entry before it is the same
unfoldable pub entry_stands_of : Queue → ℕ → ℕ → Bool
entry_stands_of q n p = ltb (get_or q.numbers p 0) n && not (any_below (λ e. eqb (get_or q.numbers e 0) (get_or q.numbers p 0)) p)

-- no "queue that repeats a record or oversteps the list"; it has room for 32 entries
unfoldable pub queue_stands_of : Queue → ℕ → Bool
queue_stands_of q n = leb q.count most && all_below (entry_stands_of q n) q.count

-- where bank b of the row starts, bank 1 and bank 2 of each record by turns
unfoldable pub start_of : List Sign → ℕ → ℕ
start_of signs b = let s = sign_at signs (b / 2) in pick (eqb (b % 2) 0) s.one s.two

-- a list that has at b where bank b starts, for the banks of n records
abbrev pub StartsOf : List Sign → ℕ → List ℕ → Type 0
StartsOf signs n starts = (b : ℕ) → b < 2 * n → get_or starts b 0 ≡ start_of signs b

-- two banks of so many words do not overlap
unfoldable pub apart_of : ℕ → ℕ → ℕ → Bool
apart_of words a b = leb (a + words) b || leb (b + words) a

-- by where each bank starts: bank b lies in a store of so many words, apart from those before it
unfoldable pub bank_stands_of : (ℕ → ℕ) → ℕ → ℕ → ℕ → Bool
bank_stands_of start words store b = leb (start b + words) store && all_below (λ e. apart_of words (start e) (start b)) b

-- no "overlapping or overhanging banks" of n records
unfoldable pub banks_stand_of : List Sign → ℕ → ℕ → ℕ → Bool
banks_stand_of signs n words store = all_below (bank_stands_of (start_of signs) words store) (2 * n)

-- none of the conditions of 19 applies
unfoldable pub row_stands_of : Geometry → ℕ → List Sign → ℕ → Queue → ℕ → ℕ → Bool
row_stands_of g k signs n queue last store =
    in_row_of n && (in_row_of k && (ltb last n && (queue_stands_of queue n && banks_stand_of signs n (bank_words_of g) store)))

-- declines 1 and 2, by the image and the SRAM, and then 19
unfoldable pub row_decline_of : Geometry → ℕ → List Sign → ℕ → Queue → ℕ → ℕ → ℕ → ℕ → Verdict
row_decline_of g k signs n queue last store image sram =
    first_of (lent_decline_of g (image ∷ []) sram) (pick (row_stands_of g k signs n queue last store) (Ok tt) (Err Decline.Row))

-- ---- the same as facts (`stands` of proofs/JudgeLaws)
-- two banks of so many words do not overlap
abbrev pub Apart : ℕ → ℕ → ℕ → Type 0
Apart words a b = (a + words ≤ b) ⊎ (b + words ≤ a)

-- nor do the banks of one sign and those of another
pub record SignsApart (words : ℕ) (s t : Sign) : Type 0 where
  pub one_one : Apart words s.one t.one
  pub one_two : Apart words s.one t.two
  pub two_one : Apart words s.two t.one
  pub two_two : Apart words s.two t.two

-- none of declines 1, 2 and 19 applies
pub record Judged (g : Geometry) (k : ℕ) (signs : List Sign) (n : ℕ) (queue : Queue) (last store image sram : ℕ) : Type 0 where
  pub listed : in_range_of g ≡ true
  pub image_length : image ≡ bank_words_of g
  pub sram_room : sram ≤ most_sram
  pub n_low : 0 < n
  pub n_high : n ≤ most
  pub k_low : 0 < k
  pub k_high : k ≤ most
  pub last_below : last < n
  -- the queue: its count, each entry, and two of them
  pub count_high : queue.count ≤ most
  pub entry_below : (p : ℕ) → p < queue.count → get_or queue.numbers p 0 < n
  pub entries_differ : (p q : ℕ) → p < q → q < queue.count → get_or queue.numbers p 0 ≡ get_or queue.numbers q 0 → ⊥
  -- the banks of each record, and those of two records
  pub one_lies : (j : ℕ) → j < n → (sign_at signs j).one + bank_words_of g ≤ store
  pub two_lies : (j : ℕ) → j < n → (sign_at signs j).two + bank_words_of g ≤ store
  pub own_apart : (j : ℕ) → j < n → Apart (bank_words_of g) (sign_at signs j).one (sign_at signs j).two
  pub signs_apart : (i j : ℕ) → i < n → j < n → (i ≡ j → ⊥) → SignsApart (bank_words_of g) (sign_at signs i) (sign_at signs j)
