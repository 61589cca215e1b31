-- Byte k of word i and byte i of lane k are the same byte, so each way undoes the other; and what goes to all these places is one list.
-- Assumes nothing.
use mathlib.Core.Path.{◌≡◌, refl, sym, ap, ◌∙◌}
use Rattle.std.specs.Prelude.{Ok}
use mathlib.Core.Bool.{Bool, true, false}
use mathlib.Core.List.{List}
use Prim.Native.Nat.{ℕ, ◌*◌, ◌<◌}
use native.Mathlib.Omega.{arith}
use lib.ListN.{length, get_or}
use Rattle.words.specs.Decline.{Verdict, number_of, accepted_of}
use Rattle.words.proofs.BitLaws.{true_not_false}
use Rattle.words.proofs.Numbers.{numbers}
use Rattle.lanes.specs.Lanes.{words_in, lanes_out_of, lanes_back_of, lanes_decline_of, target_of}
use Rattle.lanes.specs.RoundTrip.{in_words, in_lanes, Way, RoundTrip}
use Rattle.lanes.proofs.DeclineLaws.{even_accepted, accepted_lengths, declined_lengths}
use Rattle.lanes.proofs.LaneLaws.{out_length, out_at, back_length, back_at, by_words, by_lanes}
use Rattle.lanes.proofs.ImageBytesLaws.{bytes_length, byte_at, words_back}

-- ---- each way undoes the other

restores : (n : ℕ) (bytes : List ℕ) → length bytes ≡ 4 * n → lanes_back_of (lanes_out_of bytes) ≡ bytes
restores n bytes len =
    let kept : words_in (lanes_out_of bytes) ≡ words_in bytes = omega (arith, out_length bytes) in
    by_words (words_in bytes) (lanes_back_of (lanes_out_of bytes)) bytes (back_length (lanes_out_of bytes) ∙ rw kept) (omega arith)
    (λ k j hk hj. back_at (lanes_out_of bytes) k j hk (rw kept hj) ∙ rw kept (out_at bytes k j hk hj))

undoes : (n : ℕ) (lanes : List ℕ) → length lanes ≡ 4 * n → lanes_out_of (lanes_back_of lanes) ≡ lanes
undoes n lanes len =
    let kept : words_in (lanes_back_of lanes) ≡ words_in lanes = omega (arith, back_length lanes) in
    by_lanes (words_in lanes) (lanes_out_of (lanes_back_of lanes)) lanes (out_length (lanes_back_of lanes) ∙ rw kept) (omega arith)
    (λ k j hk hj. rw (← kept) (out_at (lanes_back_of lanes) k j hk (rw kept hj)) ∙ back_at lanes k j hk hj)

-- ---- what a call answers and leaves

-- a way, by what it makes of n words: it fixes the target where a list of 4×n bytes is known by the bytes at the places that it goes to
module _ (from to : ℕ → ℕ → ℕ → ℕ) (way : List ℕ → List ℕ) (long : (source : List ℕ) → length (way source) ≡ 4 * words_in source)
    (goes : (source : List ℕ) (k i : ℕ) → k < 4 → i < words_in source
    → get_or (way source) (to (words_in source) k i) 0 ≡ get_or source (from (words_in source) k i) 0)
    (known : (n : ℕ) (a b : List ℕ) → length a ≡ 4 * n → length b ≡ 4 * n
    → ((k i : ℕ) → k < 4 → i < n → get_or a (to n k i) 0 ≡ get_or b (to n k i) 0) → a ≡ b) (source target : List ℕ) where
  abbrev judged : Verdict
  judged = lanes_decline_of (length source) (length target)

  fits : (n : ℕ) → length source ≡ 4 * n → length target ≡ 4 * n → judged ≡ Ok tt
  fits n s t = even_accepted (length source) (length target) (s ∙ sym t) (omega (arith, s))

  written : (n : ℕ) → length source ≡ 4 * n → length target ≡ 4 * n → target_of way source target ≡ way source
  written n s t = rw (fits n s t)

  count : (n : ℕ) → length source ≡ 4 * n → words_in source ≡ n
  count n s = omega (arith, s)

  way_meets : Way from to source target judged (target_of way source target)
  way_meets =
      record {
        declined = λ none. let e = declined_lengths (length source) (length target) none in (ap number_of e, rw e);
        accepted = λ n s t. ap number_of (fits n s t);
        long = λ n s t. ap length (written n s t) ∙ long source ∙ rw (count n s);
        bytes = λ n s t k i hk hi.
            ap (λ (l : List ℕ). get_or l (to n k i) 0) (written n s t) ∙ rw (count n s) at (goes source k i hk (omega (arith, s, hi)));
      }

  way_fixes : (decline : Verdict) (after : List ℕ) → Way from to source target decline after
      → (decline ≡ judged) × (after ≡ target_of way source target)
  way_fixes decline after w = go (accepted_of judged) refl
    where
      go : (t : Bool) → accepted_of judged ≡ t → (decline ≡ judged) × (after ≡ target_of way source target)
      go true ok =
          let n = words_in source in
          let (s, t) = accepted_lengths (length source) (length target) ok in (
            numbers.one decline judged (w.accepted n s t ∙ sym (way_meets.accepted n s t)),
            known n after (target_of way source target) (w.long n s t) (way_meets.long n s t)
                (λ k i hk hi. w.bytes n s t k i hk hi ∙ sym (way_meets.bytes n s t k i hk hi)),
          )
      go false off =
          let none : (n : ℕ) → length source ≡ 4 * n → length target ≡ 4 * n → ⊥ = λ n s t. true_not_false (sym (ap accepted_of (fits n s t)) ∙ off) in
          let (number, kept) = w.declined none in
          let (own, same) = way_meets.declined none in
          (numbers.one decline judged (number ∙ sym own), kept ∙ sym same)

pub round_trip : RoundTrip
round_trip =
    record {
      out_meets = way_meets (λ n. in_words) in_lanes lanes_out_of out_length out_at by_lanes;
      out_fixes = way_fixes (λ n. in_words) in_lanes lanes_out_of out_length out_at by_lanes;
      back_meets = way_meets in_lanes (λ n. in_words) lanes_back_of back_length back_at by_words;
      back_fixes = way_fixes in_lanes (λ n. in_words) lanes_back_of back_length back_at by_words;
      back_restores = restores;
      out_undoes = undoes;
      bytes_length = bytes_length;
      bytes_at = byte_at;
      words_back = words_back;
    }
