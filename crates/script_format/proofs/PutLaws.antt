-- A record's bytes: the first four one by one, and then those of its value. Assumes nothing.
use mathlib.Core.Path.{◌≡◌, ◌∙◌}
use mathlib.Core.List.{List}
use Prim.Native.Nat.{ℕ, suc, ◌+◌, ◌-◌, ◌/◌, ◌%◌, ◌≤◌}
use native.Mathlib.Omega.{arith}
use borrow.Rule.Slice.PartMut.{put_mid}
use lib.ListN.{length, set, length-set}
use lib.Seq.{sets}
use Rattle.words.proofs.PartLaws.{put_part}
use Rattle.script_format.specs.declared.Record.{Record}
use Rattle.script_format.specs.Records.{low_bytes, bytes_of}

-- the four bytes at a position
abbrev four : List ℕ → ℕ → Record → List ℕ
four out at r = set (set (set (set out at (r.kind % 256)) (at + 1) (r.number % 256)) (at + 2) (r.form % 256)) (at + 3) (r.unused % 256)

pub put-record : (out : List ℕ) (at : ℕ) (r : Record) → at + 8 ≤ length out
    → put_mid (at + 4) (at + 8 - (at + 4)) (four out at r) (low_bytes r.value (r.value / 256) (r.value / 65536) (r.value / 16777216))
    ≡ sets out at (bytes_of r)
unfolding bytes_of
put-record out at r room =
    let count : at + 8 - (at + 4) ≡ 4 = omega arith in
    let second : at + 1 ≡ suc at = omega arith in
    let third : at + 2 ≡ suc (suc at) = omega arith in
    let fourth : at + 3 ≡ suc (suc (suc at)) = omega arith in
    let after : at + 4 ≡ suc (suc (suc (suc at))) = omega arith in
    let value = low_bytes r.value (r.value / 256) (r.value / 65536) (r.value / 16777216) in
    let part = put_part (four out at r) value (at + 4) 4 (omega arith) (simp length-set (omega arith)) in
    let whole : sets (four out at r) (at + 4) value ≡ sets out at (bytes_of r) = rw (second, third, fourth, after) in
    rw count (part ∙ whole)
