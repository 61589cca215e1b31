-- The records of actions are read back one by one: record i of their bytes says the action of place i, so they are a script.
-- Assumes nothing.
use mathlib.Core.Path.{◌≡◌, refl, sym, ap, ◌∙◌}
use mathlib.Core.Bool.{true}
use mathlib.Core.List.{List, [], ◌∷◌, ◌++◌}
use Prim.Native.Nat.{ℕ, zero, suc, ◌+◌, ◌*◌, ◌%◌, ◌≤◌, ◌<◌}
use native.Mathlib.Omega.{arith}
use lib.ListN.{length, get_or, take, length-take}
use lib.Seq.{take-append-add, get_or-take}
use borrow.Author.Tests.{eq-eqb}
use Rattle.words.proofs.PickLaws.{all_hold}
use Rattle.script_format.specs.Records.{value_of, record_of, records_of, bytes_of, is_record_of, is_script_of}
use Rattle.update.specs.declared.actions.Action.{Action}
use Rattle.update.specs.declared.actions.Action.TheVariants.{Step}
use Rattle.update.specs.Actions.{recorded}
use Rattle.update.proofs.LargerTotals.{FitsRecord, read_back, known, record_bytes}
use Rattle.script_write.specs.Script.{record_bytes_of}
use Rattle.script_write.proofs.ScriptLaws.{record_length, records_length, record_byte}

-- two lists with the same eight bytes have the same record
same_record : (xs ys : List ℕ) (i : ℕ) → ((k : ℕ) → k < 8 → get_or xs (8 * i + k) 0 ≡ get_or ys k 0) → record_of xs i ≡ record_of ys 0
unfolding record_of value_of
same_record xs ys i h =
    rw (h 0 (omega arith), h 1 (omega arith), h 2 (omega arith), h 3 (omega arith), h 4 (omega arith), h 5 (omega arith), h 6 (omega arith), h 7 (omega arith))

-- every number of such a list is a byte
small_append : (xs ys : List ℕ) → ((k : ℕ) → get_or xs k 0 < 256) → ((k : ℕ) → get_or ys k 0 < 256) → (k : ℕ) → get_or (xs ++ ys) k 0 < 256
small_append [] ys a b k = b k
small_append (x ∷ xs) ys a b zero = a 0
small_append (x ∷ xs) ys a b (suc k) = small_append xs ys (λ j. a (suc j)) b k

pub all_bytes : (l : List Action) (k : ℕ) → get_or (record_bytes_of l) k 0 < 256
all_bytes [] k = go k
  where
    go : (k : ℕ) → get_or {A = ℕ} [] k 0 < 256
    go zero = omega arith
    go (suc k) = omega arith
all_bytes (a ∷ l) k = small_append (bytes_of (recorded a)) (record_bytes_of l) (record_bytes a) (all_bytes l) k

-- actions whose numbers fit a record
abbrev pub AllFit : List Action → Type 0
AllFit l = (i : ℕ) → i < length l → FitsRecord (get_or l i Step)

pub record_read : (l : List Action) → AllFit l → (i : ℕ) → i < length l → record_of (record_bytes_of l) i ≡ recorded (get_or l i Step)
record_read l fits i m =
    same_record (record_bytes_of l) (bytes_of (recorded (get_or l i Step))) i (λ k n. record_byte l i k m n) ∙ read_back (get_or l i Step) (fits i m)

pub records_counted : (l : List Action) → records_of (record_bytes_of l) ≡ length l
records_counted l = rw (records_length l) (omega arith)

pub records_script : (l : List Action) → AllFit l → is_script_of (record_bytes_of l) ≡ true
unfolding is_script_of
records_script l fits =
    rw (eq-eqb (length (record_bytes_of l) % 8) 0 (rw (records_length l) (omega arith)), records_counted l)
    (all_hold (λ i. is_record_of (record_of (record_bytes_of l) i)) (length l)
    (λ i m. ap is_record_of (record_read l fits i m) ∙ known (get_or l i Step) (fits i m)))

-- the first i records are those of the first i actions
pub first_records_lem : (l : List Action) (i : ℕ) → i ≤ length l → take (8 * i) (record_bytes_of l) ≡ record_bytes_of (take i l)
first_records_lem l zero m = refl
first_records_lem [] (suc i) m = absurd (omega arith)
first_records_lem (a ∷ l) (suc i) m =
    let far : 8 * suc i ≡ length (bytes_of (recorded a)) + 8 * i = rw (record_length (recorded a)) (omega arith) in
    rw far (take-append-add (bytes_of (recorded a)) (record_bytes_of l) (8 * i)
    ∙ ap (λ (m : List ℕ). bytes_of (recorded a) ++ m) (first_records_lem l i (omega arith)))

module _ (l : List Action) (fits : AllFit l) (n : ℕ) (few : n ≤ length l) where
  first_length : length (take n l) ≡ n
  first_length = omega (arith, length-take n l)

  pub first_fit : AllFit (take n l)
  first_fit i h = let m : i < n = omega (arith, first_length) in rw (get_or-take n l i Step m) (fits i (omega arith))

  -- and say the same
  pub first_read : (i : ℕ) → i < n → record_of (record_bytes_of (take n l)) i ≡ record_of (record_bytes_of l) i
  first_read i m =
      record_read (take n l) first_fit i (omega (arith, first_length)) ∙ ap recorded (get_or-take n l i Step m) ∙ sym (record_read l fits i (omega arith))
