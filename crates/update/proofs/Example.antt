-- The example's start is accepted by computation, its words are of 32 bits, and its run is that of power-fail safety.
-- Assumes nothing.
use mathlib.Core.Path.{◌≡◌, refl, ◌∙◌}
use mathlib.Core.Bool.{true}
use mathlib.Core.List.{List, [], ◌∷◌}
use Prim.Native.Nat.{ℕ, zero, suc, ◌^◌, ◌≤◌, ◌<◌}
use native.Mathlib.Omega.{arith}
use lib.Dec.{lit<}
use lib.ListN.{length, get_or, replicate, set, length-replicate}
use Rattle.words.specs.Word.{all_ones}
use Rattle.geometry.specs.Banks.{bank_words_of}
use Rattle.sequence.specs.Sequence.{sequence_index_of, complement_of, sequence_word_of, next_sequence_of}
use Rattle.update.specs.Actions.{total_of}
use Rattle.update.specs.PowerFail.{after_turns, place_after, Cut, restarted, Runs, new_bank_of, Words, Update}
use Rattle.update.specs.Bench.{smallest, bench_bank}
use Rattle.update.specs.Example.{example_state, example_image, empty_srams, Example}
use Rattle.update.proofs.PowerFail.{power_fail}
use Rattle.update.proofs.Bench.{bench}

-- lists of words of 32 bits
words_replicate : (n a : ℕ) → a < 2 ^ 32 → Words (replicate n a)
words_replicate zero a h v = lit< tt
words_replicate (suc n) a h zero = h
words_replicate (suc n) a h (suc v) = words_replicate n a h v

pub words_set : (l : List ℕ) (i a : ℕ) → a < 2 ^ 32 → Words l → Words (set l i a)
words_set [] i a h words v = words v
words_set (x ∷ l) zero a h words zero = h
words_set (x ∷ l) zero a h words (suc v) = words (suc v)
words_set (x ∷ l) (suc i) a h words zero = words zero
words_set (x ∷ l) (suc i) a h words (suc v) = words_set l i a h (λ u. words (suc u)) v

words_bank : (word : ℕ) → word < 2 ^ 32 → Words (bench_bank word)
words_bank word h =
    let words = bank_words_of smallest in
    words_set (replicate words all_ones) (sequence_index_of smallest) word h (words_replicate words all_ones (lit< tt))

pub example_update : Update smallest example_state example_image
example_update =
    record {
      accepted = bench.other_erased example_image refl;
      one_words = words_bank 0xFFFE_0001 (lit< tt);
      two_words = words_bank 0xFFFF_FFFF (lit< tt);
      new_words_lem = words_replicate (bank_words_of smallest) all_ones (lit< tt);
      quad = refl;
    }

-- its 252 turns
pub total_is : total_of smallest ≡ 252
total_is = bench.total_small smallest refl refl

pub empty_short : (n i : ℕ) → length (get_or (empty_srams n) i []) ≤ 16384
empty_short zero i = omega arith
empty_short (suc n) zero = omega arith
empty_short (suc n) (suc i) = empty_short n i

reached : place_after smallest example_state example_image (empty_srams 252) ≡ total_of smallest
reached = (power_fail smallest example_image).reaches example_state example_update (empty_srams 252) (empty_short 252) (rw (length-replicate, total_is))

-- the new bank, by computation
pub new_bank_lem : new_bank_of smallest example_state example_image ≡ bench_bank 0xFFFD_0002
unfolding next_sequence_of sequence_word_of complement_of
new_bank_lem = refl

new_runs : (c : Cut) → length c.sram ≤ 16384 → c.kind ≤ 2
    → Runs (restarted smallest (after_turns smallest example_state example_image (empty_srams 252)) c) true (bench_bank 0xFFFD_0002)
new_runs c short kind =
    let claims = (power_fail smallest example_image).claims example_state example_update (empty_srams 252) (empty_srams 252) reached in
    let runs = claims.new_runs c (claims.restarts c short kind).0 in
    (runs.0, runs.1 ∙ new_bank_lem)

pub example : Example
example = record { update = example_update; reaches = reached ∙ total_is; new_runs = new_runs }
