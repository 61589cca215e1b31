-- A record removed from a buffer: those after it move down, and zeros follow. Assumes nothing.
use Prim.Native.Nat.{ℕ, ◌+◌, ◌*◌, ◌-◌, ◌<◌, ◌≤◌}
use mathlib.Core.Path.{◌≡◌, sym, ap, ◌∙◌}
use mathlib.Core.List.{List, [], ◌∷◌, ◌++◌, append_assoc}
use native.Mathlib.Omega.{arith}
use lib.ListN.{length, get_or, set, take, drop, replicate, replicate-append-replicate}
use lib.Seq.{take-append-le, drop-append-le, take_at, set_at, length-take-le, get_or-append-add, get_or-drop}
use Rattle.std.proofs.lemmas.List.{drop_more, take_more}
use Rattle.script_format.specs.Records.{records_of}
use Rattle.script_smallest.specs.Smallest.{without_of, with_zeros}
use Rattle.script_smallest.proofs.WithoutLaws.{without_length, byte_above, shorter}

abbrev pub removed_bytes : List ℕ → ℕ → List ℕ
removed_bytes x i = without_of x i ++ replicate 8 0

-- ---- byte by byte

-- the bytes before k are those without the record, the others as before, and byte k is set
pub remove_next : (x y : List ℕ) (i k v : ℕ) → 8 * i + 8 ≤ length x → 8 * i ≤ k → k + 8 < length x → y ≡ take k (without_of x i) ++ drop k x
    → v ≡ get_or y (k + 8) 0 → set y k v ≡ take (k + 1) (without_of x i) ++ drop (k + 1) x
remove_next x y i k v h from inside stands e =
    let r = without_of x i in
    let there : k < length r = omega (arith, without_length x i (omega (arith, h)), inside) in
    let long : length (take k r) ≡ k = length-take-le k r (omega (arith, there)) in
    let byte : v ≡ get_or r k 0 =
    e ∙ ap (λ (l : List ℕ). get_or l (k + 8) 0) stands ∙ ap (λ (n : ℕ). get_or (take k r ++ drop k x) (n + 8) 0) (sym long)
    ∙ get_or-append-add (take k r) (drop k x) 8 0 ∙ get_or-drop k x 8 0 ∙ sym (byte_above x i (omega (arith, h)) k from) in
    ap (λ (l : List ℕ). set l k v) (stands ∙ ap (λ (l : List ℕ). take k r ++ l) (drop_more x k 0 (omega (arith, inside))))
    ∙ set_at (take k r) (get_or x k 0) (drop (k + 1) x) v k long
    ∙ rw (byte, take_more r k 0 there) (sym (append_assoc (take k r) (get_or r k 0 ∷ []) (drop (k + 1) x)))

-- ---- in a buffer that holds a script and zeros

module _ (x : List ℕ) (i : ℕ) (h : i < records_of x) where
  without_append : (rest : List ℕ) → without_of (x ++ rest) i ≡ without_of x i ++ rest
  without_append rest =
      rw (
        take-append-le (8 * i) x rest (omega (arith, h)),
        drop-append-le (8 * i + 8) x rest (omega (arith, h)),
      ) (sym (append_assoc (take (8 * i) x) (drop (8 * i + 8) x) rest))

  zeros : (n m : ℕ) → n + 8 ≡ m → ◌++◌ {A = ℕ} (replicate n 0) (replicate 8 0) ≡ replicate m 0
  zeros n m e = replicate-append-replicate n 8 0 ∙ ap (λ (k : ℕ). replicate k 0) e

  -- what is left is the script without the record, and zeros
  pub removed_zeros : (l : ℕ) → length x ≤ l → removed_bytes (with_zeros x l) i ≡ with_zeros (without_of x i) l
  removed_zeros l room =
      ap (λ (y : List ℕ). y ++ replicate 8 0) (without_append (replicate (l - length x) 0))
      ∙ append_assoc (without_of x i) (replicate (l - length x) 0) (replicate 8 0)
      ∙ ap (λ (y : List ℕ). without_of x i ++ y) (zeros (l - length x) (l - length (without_of x i)) (omega (arith, shorter x i h, room)))

  -- the records but one in front of the buffer without a record are the script without it
  pub trial_is : (l n : ℕ) → 8 * n + 8 ≡ length x → take (8 * n) (without_of (with_zeros x l) i) ≡ without_of x i
  trial_is l n e =
      ap (λ (y : List ℕ). take (8 * n) y) (without_append (replicate (l - length x) 0))
      ∙ take_at (without_of x i) (replicate (l - length x) 0) (8 * n) (omega (arith, shorter x i h, e))
