-- A script without one of its records, and the dropping of records. Assumes nothing.
use Prim.Native.Nat.{ℕ, ◌+◌, ◌*◌, ◌-◌, ◌<◌, ◌≤◌}
use mathlib.Core.Path.{◌≡◌, refl, ap, ◌∙◌}
use mathlib.Core.List.{List}
use native.Mathlib.Omega.{arith}
use lib.ListN.{length, get_or, take, drop, length-drop, length-append, get_or-append}
use lib.Seq.{get_or-append-add, get_or-take, get_or-drop, length-take-le}
use Rattle.script_format.specs.Records.{byte_of, value_of, record_of, records_of}
use Rattle.script_smallest.specs.Smallest.{without_of}
use Rattle.script_smallest.specs.SmallestScripts.{Without}

-- a record is its eight bytes
pub same_record : (y z : List ℕ) (k m : ℕ) → ((b : ℕ) → b < 8 → byte_of y k b ≡ byte_of z m b) → record_of y k ≡ record_of z m
unfolding record_of value_of
same_record y z k m same =
    rw (
      same 0 (omega arith),
      same 1 (omega arith),
      same 2 (omega arith),
      same 3 (omega arith),
      same 4 (omega arith),
      same 5 (omega arith),
      same 6 (omega arith),
      same 7 (omega arith),
    ) refl

module _ (x : List ℕ) (i : ℕ) (h : 8 * i ≤ length x) where
  front : length (take (8 * i) x) ≡ 8 * i
  front = length-take-le (8 * i) x h

  pub without_length : length (without_of x i) ≡ 8 * i + (length x - (8 * i + 8))
  without_length = length-append (take (8 * i) x) (drop (8 * i + 8) x) ∙ rw (front, length-drop (8 * i + 8) x) refl

  byte_below : (j : ℕ) → j < 8 * i → get_or (without_of x i) j 0 ≡ get_or x j 0
  byte_below j l = get_or-append (take (8 * i) x) (drop (8 * i + 8) x) 0 j (omega (arith, front, l)) ∙ get_or-take (8 * i) x j 0 l

  pub byte_above : (j : ℕ) → 8 * i ≤ j → get_or (without_of x i) j 0 ≡ get_or x (j + 8) 0
  byte_above j l =
      ap (λ (m : ℕ). get_or (without_of x i) m 0) (omega (arith, front, l))
      ∙ get_or-append-add (take (8 * i) x) (drop (8 * i + 8) x) (j - 8 * i) 0
      ∙ get_or-drop (8 * i + 8) x (j - 8 * i) 0
      ∙ ap (λ (m : ℕ). get_or x m 0) (omega (arith, l))

  pub record_below : (k : ℕ) → k < i → record_of (without_of x i) k ≡ record_of x k
  record_below k l = same_record (without_of x i) x k k (λ b c. byte_below (8 * k + b) (omega (arith, l, c)))

  pub record_above : (k : ℕ) → i ≤ k → record_of (without_of x i) k ≡ record_of x (k + 1)
  record_above k l =
      same_record (without_of x i) x k (k + 1) (λ b c. byte_above (8 * k + b) (omega (arith, l)) ∙ ap (λ (m : ℕ). get_or x m 0) (omega arith))

module _ (x : List ℕ) (i : ℕ) (h : i < records_of x) where
  -- a record fewer
  pub shorter : length (without_of x i) + 8 ≡ length x
  shorter = omega (arith, without_length x i (omega (arith, h)), h)

  pub without : Without x i
  without =
      record {
        fewer = omega (arith, shorter, h);
        below = record_below x i (omega (arith, h));
        above = λ k l last. record_above x i (omega (arith, h)) k l;
      }
