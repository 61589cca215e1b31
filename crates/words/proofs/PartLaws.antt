-- A write to a part of a list is a write of each of its elements in turn. Assumes nothing.
use mathlib.Core.Path.{◌≡◌, refl, sym, ◌∙◌}
use mathlib.Core.List.{List}
use Prim.Native.Nat.{ℕ, ◌+◌, ◌≤◌}
use native.Mathlib.Omega.{arith}
use borrow.Rule.Slice.PartMut.{put_mid}
use lib.ListN.{length}
use lib.Seq.{sets, sets-eq, paste, take_all}
use Rattle.std.proofs.lemmas.Slice.{put_mid-paste}

pub put_part : (xs ys : List ℕ) (at count : ℕ) → length ys ≡ count → at + count ≤ length xs → put_mid at count xs ys ≡ sets xs at ys
put_part xs ys at count long room = put_mid-paste at count xs ys ys count refl refl (sym long) ∙ pasted
  where
    pasted : paste xs at ys count ≡ sets xs at ys
    pasted = rw (sets-eq ys xs at (omega (arith, long)), long, take_all count ys (omega (arith, long)))
