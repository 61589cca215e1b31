-- Where each byte goes: byte k of word j and byte j of lane k are the same byte, on the way out and on the way back.
-- Assumes nothing.
use mathlib.Core.Path.{◌≡◌, ◌∙◌}
use mathlib.Core.List.{List, ◌++◌}
use Prim.Native.Nat.{ℕ, ◌+◌, ◌*◌, ◌/◌, ◌%◌, ◌<◌}
use native.Mathlib.Nat.{div-add-mod', div-lt_iff_lt-mul, mod-lt}
use native.Mathlib.Omega.{arith}
use lib.ListN.{length, get_or, length-append, get_or-append}
use lib.Seq.{get_or-append-add, ext_get_or}
use Rattle.words.proofs.CaseLaws.{below_four}
use Rattle.lanes.specs.Lanes.{words_in, lane_of, lanes_out_of, lanes_back_of}
use Rattle.lanes.specs.RoundTrip.{in_words, in_lanes}
use Rattle.lanes.proofs.TabulateLaws.{tabulate_length, tabulate_at}

lane_length : (bytes : List ℕ) (k : ℕ) → length (lane_of bytes k) ≡ words_in bytes
lane_length bytes k = tabulate_length _ (words_in bytes)

pub out_length : (bytes : List ℕ) → length (lanes_out_of bytes) ≡ 4 * words_in bytes
unfolding lanes_out_of
out_length bytes = simp (length-append, lane_length) (omega arith)

-- a byte of the first lane, and one past it
first : (bytes rest : List ℕ) (k j : ℕ) → j < words_in bytes → get_or (lane_of bytes k ++ rest) j 0 ≡ get_or bytes (in_words k j) 0
first bytes rest k j h =
    get_or-append (lane_of bytes k) rest 0 j (omega (arith, lane_length bytes k)) ∙ tabulate_at _ (words_in bytes) j h

past : (bytes rest : List ℕ) (k i j : ℕ) → i ≡ words_in bytes + j → get_or (lane_of bytes k ++ rest) i 0 ≡ get_or rest j 0
past bytes rest k i j e =
    let from : i ≡ length (lane_of bytes k) + j = omega (arith, lane_length bytes k) in rw from (get_or-append-add (lane_of bytes k) rest j 0)

pub out_at : (bytes : List ℕ) (k j : ℕ) → k < 4 → j < words_in bytes
    → get_or (lanes_out_of bytes) (in_lanes (words_in bytes) k j) 0 ≡ get_or bytes (in_words k j) 0
unfolding lanes_out_of
out_at bytes k j h l =
    let n = words_in bytes in
    let e : 0 * n + j ≡ j = omega arith in
    below_four (λ k. get_or (lanes_out_of bytes) (in_lanes n k j) 0 ≡ get_or bytes (in_words k j) 0)
    (rw e (first bytes _ 0 j l))
    (past bytes _ 0 _ j (omega arith) ∙ first bytes _ 1 j l)
    (past bytes _ 0 _ (n + j) (omega arith) ∙ past bytes _ 1 _ j (omega arith) ∙ first bytes _ 2 j l)
    (past bytes _ 0 _ (n + (n + j)) (omega arith) ∙ past bytes _ 1 _ (n + j) (omega arith) ∙ past bytes _ 2 _ j (omega arith) ∙ tabulate_at _ n j l)
    k h

pub back_length : (lanes : List ℕ) → length (lanes_back_of lanes) ≡ 4 * words_in lanes
unfolding lanes_back_of
back_length lanes = tabulate_length _ (4 * words_in lanes)

pub back_at : (lanes : List ℕ) (k j : ℕ) → k < 4 → j < words_in lanes
    → get_or (lanes_back_of lanes) (in_words k j) 0 ≡ get_or lanes (in_lanes (words_in lanes) k j) 0
unfolding lanes_back_of
back_at lanes k j h l =
    let word : (4 * j + k) / 4 ≡ j = omega arith in
    let byte : (4 * j + k) % 4 ≡ k = omega arith in
    tabulate_at _ (4 * words_in lanes) (4 * j + k) (omega arith) ∙ rw (word, byte)

-- ---- two lists of 4×n bytes are equal by the bytes of their words, or of their lanes

pub by_words : (n : ℕ) (a b : List ℕ) → length a ≡ 4 * n → length b ≡ 4 * n
    → ((k j : ℕ) → k < 4 → j < n → get_or a (in_words k j) 0 ≡ get_or b (in_words k j) 0) → a ≡ b
by_words n a b la lb same =
    ext_get_or 0 a b (omega arith) (λ i h. let e : i ≡ 4 * (i / 4) + i % 4 = omega arith in rw e (same (i % 4) (i / 4) (omega arith) (omega arith)))

pub by_lanes : (n : ℕ) (a b : List ℕ) → length a ≡ 4 * n → length b ≡ 4 * n
    → ((k j : ℕ) → k < 4 → j < n → get_or a (in_lanes n k j) 0 ≡ get_or b (in_lanes n k j) 0) → a ≡ b
by_lanes n a b la lb same = ext_get_or 0 a b (omega arith) at
  where
    at : (i : ℕ) → i < length a → get_or a i 0 ≡ get_or b i 0
    at i h =
        let some : 0 < n = omega arith in
        let lane : i / n < 4 = (div-lt_iff_lt-mul some).1 (omega arith) in
        let e : i ≡ i / n * n + i % n = omega (arith, div-add-mod' i n) in
        rw e (same (i / n) (i % n) lane (mod-lt i some))
