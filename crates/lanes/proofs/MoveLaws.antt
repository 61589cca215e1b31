-- A round of each way's loop moves words to their lanes, or back, and after the last word all are moved.
-- Assumes nothing.
use mathlib.Core.Path.{◌≡◌, sym, ap, ◌∙◌}
use mathlib.Core.List.{List}
use Prim.Native.Nat.{ℕ, ◌+◌, ◌*◌, ◌/◌, ◌%◌, ◌<◌}
use native.Mathlib.Omega.{arith}
use lib.Arith.{digits_div, digits_mod, digits_lt}
use lib.ListN.{length, get_or, set}
use Rattle.lanes_interleave.specs.Blocks.{WordsBack}
use Rattle.lanes_interleave.proofs.RoundLaws.{Moved, moved_further, Apart, moved_next}
use Rattle.lanes.specs.Lanes.{words_in, lanes_out_of, lanes_back_of}
use Rattle.lanes.specs.RoundTrip.{in_words, in_lanes}
use Rattle.lanes.proofs.LaneLaws.{out_length, out_at, back_length, back_at, by_words, by_lanes}

-- the words before word i, of n, are moved to their lanes, and back
abbrev pub MovedOut : ℕ → List ℕ → List ℕ → ℕ → Type 0
MovedOut n source target i = Moved 4 (in_lanes n) (λ k j. get_or source (in_words k j) 0) target i

abbrev pub MovedBack : ℕ → List ℕ → List ℕ → ℕ → Type 0
MovedBack n source target i = Moved 4 in_words (λ k j. get_or source (in_lanes n k j) 0) target i

-- ---- a round in the words of the code

pub out_next : (source target : List ℕ) (n i : ℕ) → length target ≡ 4 * n → i < n → MovedOut n source target i
    → let first = set target i (get_or source (4 * i) 0) in
    let second = set first (n + i) (get_or source (4 * i + 1) 0) in
    let third = set second (2 * n + i) (get_or source (4 * i + 2) 0) in
    let fourth = set third (3 * n + i) (get_or source (4 * i + 3) 0) in
    MovedOut n source fourth (i + 1)
out_next source target n i kept h moved =
    rw (first_lane, second_lane, first_byte) at
    (moved_next 4 n (in_lanes n) (λ k j. get_or source (in_words k j) 0) target i apart (λ k l. rw kept (digits_lt l h)) h moved)
  where
    apart : Apart 4 n (in_lanes n)
    apart k j l m hk hl hj hm e =
        (sym (digits_div k hj) ∙ ap (λ (x : ℕ). x / n) e ∙ digits_div l hm, sym (digits_mod k hj) ∙ ap (λ (x : ℕ). x % n) e ∙ digits_mod l hm)

    -- the code writes no sum with 0 and no product with 0 or 1
    first_lane : in_lanes n 0 i ≡ i
    first_lane = omega arith

    second_lane : in_lanes n 1 i ≡ n + i
    second_lane = omega arith

    first_byte : in_words 0 i ≡ 4 * i
    first_byte = omega arith

pub back_further : (source before after : List ℕ) (n from to : ℕ) → WordsBack source before after n from to
    → MovedBack n source before from → MovedBack n source after to
back_further source before after n from to words =
    moved_further 4 in_words _ before after from to (λ k j hk hj. words.earlier (in_words k j) (omega arith)) words.back

-- ---- after the last word

pub out_ends : (source target : List ℕ) → length target ≡ 4 * words_in source
    → MovedOut (words_in source) source target (words_in source) → target ≡ lanes_out_of source
out_ends source target kept moved =
    by_lanes (words_in source) target (lanes_out_of source) kept (out_length source) (λ k j hk hj. moved k j hk hj ∙ sym (out_at source k j hk hj))

pub back_ends : (source target : List ℕ) → length target ≡ 4 * words_in source
    → MovedBack (words_in source) source target (words_in source) → target ≡ lanes_back_of source
back_ends source target kept moved =
    by_words (words_in source) target (lanes_back_of source) kept (back_length source) (λ k j hk hj. moved k j hk hj ∙ sym (back_at source k j hk hj))
