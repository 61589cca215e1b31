-- W-206: which sign a call serves, and who waits then. Assumes nothing.
use Rattle.std.specs.Prelude.{ℕ, zero, suc, ◌+◌, ◌-◌, ◌%◌, Bool, not, ◌&&◌, List, [], ◌∷◌, ◌++◌, leb, ltb, length, get_or}
use Rattle.words.specs.Word.{pick, first_from}
use Rattle.row_signs.specs.Signs.{left_of, waits_of}

-- how many of the first n records a test holds of
abbrev pub count_of : (ℕ → Bool) → ℕ → ℕ
count_of p zero = 0
count_of p (suc n) = count_of p n + pick (p n) 1 0

-- those of the first n records that a test holds of, "in record order"
abbrev pub records_of : (ℕ → Bool) → ℕ → List ℕ
records_of p zero = []
records_of p (suc n) = records_of p n ++ pick (p n) (n ∷ []) []

-- "the first after the last served, round the list": the record that the search meets after i others
abbrev pub met_of : ℕ → ℕ → ℕ → ℕ
met_of n last i = (last + 1 + i) % n

-- how many others it meets before record j
abbrev pub before_of : ℕ → ℕ → ℕ → ℕ
before_of n last j = (j + (n - 1 - last)) % n

-- what is known of a row of n records: K, how many have WR set, of each record whether it can be served and whether its turn would set WR, who waits, and the
-- record last served
pub record Known : Type 0 where
  pub n : ℕ
  pub k : ℕ
  pub set : ℕ
  pub can : ℕ → Bool
  pub sets : ℕ → Bool
  pub waiting : List ℕ
  pub last : ℕ

-- "K or more are set"
abbrev pub full_of : Known → Bool
full_of r = leb r.k r.set

-- "a waiting sign that isn't passed over .. the first of these in the queue": its position; the queue's length where there is none
abbrev pub ready_of : Known → ℕ
ready_of r = first_from (λ p. r.can (get_or r.waiting p 0)) 0 (length r.waiting)

-- "With fewer than K set and a waiting sign that isn't passed over"
abbrev pub from_queue_of : Known → Bool
from_queue_of r = not (full_of r) && ltb (ready_of r) (length r.waiting)

-- "unfinished and not waiting", and not passed over
abbrev pub open_of : Known → ℕ → Bool
open_of r j = r.can j && not (waits_of r.waiting j)

-- "whose turn would set WR while K or more are set"
abbrev pub held_of : Known → ℕ → Bool
held_of r j = r.sets j && full_of r

-- how many records the search meets before the one it serves; n where it serves none
abbrev pub found_of : Known → ℕ
found_of r = first_from (λ i. open_of r (met_of r.n r.last i) && not (held_of r (met_of r.n r.last i))) 0 r.n

-- "begins to wait, and the search goes on": met before the one that is served
abbrev pub begins_of : Known → ℕ → Bool
begins_of r j = ltb (before_of r.n r.last j) (found_of r) && (open_of r j && held_of r j)

-- the record that is served; n where nobody is
unfoldable pub served_of : Known → ℕ
served_of r =
    pick (from_queue_of r) (get_or r.waiting (ready_of r) 0)
    (pick (ltb (found_of r) r.n) (met_of r.n r.last (found_of r)) r.n)

-- who waits then: the one that is served "leaves" the queue; else those that begin to wait join its end, "those of one call in record order"
unfoldable pub waiters_of : Known → List ℕ
waiters_of r =
    pick (from_queue_of r) (left_of r.waiting (ready_of r)) (r.waiting ++ records_of (begins_of r) r.n)
