-- Bytes written one after another into a buffer, and how many of them have room.
-- Assumes nothing.
use mathlib.Core.Path.{◌≡◌, refl, sym, ap, ◌∙◌}
use mathlib.Core.List.{List, [], ◌∷◌, ◌++◌}
use Prim.Native.Nat.{ℕ, suc, ◌+◌, ◌-◌, ◌≤◌, min}
use native.Mathlib.Decide.{dec_le}
use native.Mathlib.Omega.{arith}
use lib.ListN.{length, set, take, drop, take-append-drop, drop_of_length-le}
use lib.Seq.{sets, set_comm, set_out, take_all, take-append_seam, length-take-le, length-sets}
use borrow.Rule.Slice.PartMut.{put_mid}
use Rattle.words.proofs.PartLaws.{put_part}
use Rattle.text.specs.Buffer.{put_first}

-- two runs of bytes are one
pub sets_append : (xs : List ℕ) (at : ℕ) (cs bs : List ℕ) → sets xs at (cs ++ bs) ≡ sets (sets xs at cs) (at + length cs) bs
sets_append xs at [] bs = let e : at + 0 ≡ at = omega arith in rw e
sets_append xs at (a ∷ cs) bs =
    let e : suc at + length cs ≡ at + suc (length cs) = omega arith in
    rw e at (sets_append (set xs at a) (suc at) cs bs)

-- so where the second run's place is known
pub sets_after : (xs : List ℕ) (at next : ℕ) (cs bs : List ℕ) → at + length cs ≡ next → sets xs at (cs ++ bs) ≡ sets (sets xs at cs) next bs
sets_after xs at next cs bs e = rw (sets_append xs at cs bs, e)

-- a byte past a run of bytes may come first
pub sets_past : (xs : List ℕ) (at : ℕ) (cs : List ℕ) (j b : ℕ) → at + length cs ≤ j → sets (set xs j b) at cs ≡ set (sets xs at cs) j b
sets_past xs at [] j b past = refl
sets_past xs at (a ∷ cs) j b past =
    rw (set_comm xs j at b a (λ e. omega arith)) (sets_past (set xs at a) (suc at) cs j b (omega arith))

-- bytes past the buffer are not written
pub sets_out : (xs : List ℕ) (at : ℕ) (bs : List ℕ) → length xs ≤ at → sets xs at bs ≡ xs
sets_out xs at [] past = refl
sets_out xs at (b ∷ bs) past = rw (set_out xs at b past) (sets_out xs (suc at) bs (omega arith))

-- bytes after the first leave it
sets_tail : (x : ℕ) (xs : List ℕ) (at : ℕ) (bs : List ℕ) → sets (x ∷ xs) (suc at) bs ≡ x ∷ sets xs at bs
sets_tail x xs at [] = refl
sets_tail x xs at (b ∷ bs) = sets_tail x (set xs at b) (suc at) bs

-- bytes from the first on are the output's front as far as the buffer goes, and then what was there
pub sets_front : (xs bs : List ℕ) → sets xs 0 bs ≡ put_first bs xs
sets_front [] [] = refl
sets_front [] (b ∷ bs) = sets_out [] 0 (b ∷ bs) (omega arith)
sets_front (x ∷ xs) [] = refl
sets_front (x ∷ xs) (b ∷ bs) = rw (sets_tail b xs 0 bs) (ap (λ (l : List ℕ). b ∷ l) (sets_front xs bs))

-- where there is room, the first bytes are the output
pub front_whole : (output buffer : List ℕ) → length output ≤ length buffer → take (length output) (put_first output buffer) ≡ output
front_whole output buffer room = rw (take_all (length buffer) output room) (take-append_seam output (drop (length output) buffer))

pub sets_whole : (xs bs : List ℕ) (n : ℕ) → n ≡ length bs → length bs ≤ length xs → take n (sets xs 0 bs) ≡ bs
sets_whole xs bs n e room = rw (e, sets_front xs bs) (front_whole bs xs room)

-- ---- a write to a part of the buffer

-- what has no room is not written
put_ends : (out bytes : List ℕ) (at count : ℕ) → count ≡ min (length bytes) (length out - at) → sets out (at + count) (drop count bytes) ≡ out
put_ends out bytes at count e = go (dec_le (length bytes) count)
  where
    go : Dec (length bytes ≤ count) → sets out (at + count) (drop count bytes) ≡ out
    go (yes l) = rw (drop_of_length-le bytes l)
    go (no l) = sets_out out (at + count) (drop count bytes) (omega arith)

-- so that the bytes that have room, in the part that they fill, are all that is written
pub put-front : (out bytes : List ℕ) (at from count : ℕ) → from ≡ min at (length out) → count ≡ min (length bytes) (length out - from)
    → put_mid from (from + count - from) out (take count bytes) ≡ sets out at bytes
put-front out bytes at from count e n =
    put_part out first from (from + count - from) (omega (arith, long)) (omega arith) ∙ go (dec_le (length out) at)
  where
    first : List ℕ
    first = take count bytes

    long : length first ≡ count
    long = length-take-le count bytes (omega arith)

    go : Dec (length out ≤ at) → sets out from first ≡ sets out at bytes
    go (yes past) = sets_out out from first (omega arith) ∙ sym (sets_out out at bytes past)
    go (no l) =
        let same : from ≡ at = omega arith in
        let ends = put_ends (sets out at first) bytes at count (rw length-sets (omega arith)) in
        let parts = sets_after out at (at + count) first (drop count bytes) (omega (arith, long)) in
        rw same (sym ends ∙ sym parts ∙ ap (sets out at) (take-append-drop count bytes))
