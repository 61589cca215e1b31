-- W-213, "Byte lanes in the archive": where each byte goes, what a call answers and leaves, and that this fixes both calls. Assumes nothing.
use Rattle.std.specs.Prelude.{◌≡◌, List, ℕ, ◌+◌, ◌*◌, ◌/◌, ◌%◌, ◌^◌, ◌<◌, length, get_or}
use Rattle.words.specs.Quad.{word_at}
use Rattle.words.specs.Decline.{Verdict, number_of}
use Rattle.lanes.specs.Lanes.{lanes_out_of, lanes_back_of, lanes_decline_of, target_of}
use Rattle.lanes.specs.ImageBytes.{bytes_of, words_of}

-- where byte k of word i is, in an image's bytes, and in the lanes of n words: "all first bytes, then all second, third and fourth"
abbrev pub in_words : ℕ → ℕ → ℕ
in_words k i = 4 * i + k

abbrev pub in_lanes : ℕ → ℕ → ℕ → ℕ
in_lanes n k i = k * n + i

-- of a way by which each byte goes from its place in the source to its place in the target: the answer, and the target after it
pub record Way (from to : ℕ → ℕ → ℕ → ℕ) (source target : List ℕ) (decline : Verdict) (after : List ℕ) : Type 0 where
  -- "22, the two lengths differ or aren't a multiple of 4"; then the target is as before
  pub declined : ((n : ℕ) → length source ≡ 4 * n → length target ≡ 4 * n → ⊥) → (number_of decline ≡ 22) × (after ≡ target)
  pub accepted : (n : ℕ) → length source ≡ 4 * n → length target ≡ 4 * n → number_of decline ≡ 0
  pub long : (n : ℕ) → length source ≡ 4 * n → length target ≡ 4 * n → length after ≡ 4 * n
  pub bytes : (n : ℕ) → length source ≡ 4 * n → length target ≡ 4 * n
      → (k i : ℕ) → k < 4 → i < n → get_or after (to n k i) 0 ≡ get_or source (from n k i) 0

-- the way out, and the way back
abbrev pub WayOut : List ℕ → List ℕ → Verdict → List ℕ → Type 0
WayOut = Way (λ n. in_words) in_lanes

abbrev pub WayBack : List ℕ → List ℕ → Verdict → List ℕ → Type 0
WayBack = Way in_lanes (λ n. in_words)

pub record RoundTrip : Type 0 where
  -- both calls are answered so, and nothing else is as asked
  pub out_meets : (source target : List ℕ) → WayOut source target (lanes_decline_of (length source) (length target)) (target_of lanes_out_of source target)
  pub out_fixes : (source target : List ℕ) (decline : Verdict) (after : List ℕ) → WayOut source target decline after
      → (decline ≡ lanes_decline_of (length source) (length target)) × (after ≡ target_of lanes_out_of source target)
  pub back_meets : (source target : List ℕ) → WayBack source target (lanes_decline_of (length source) (length target)) (target_of lanes_back_of source target)
  pub back_fixes : (source target : List ℕ) (decline : Verdict) (after : List ℕ) → WayBack source target decline after
      → (decline ≡ lanes_decline_of (length source) (length target)) × (after ≡ target_of lanes_back_of source target)
  -- "The way back restores it"
  pub back_restores : (n : ℕ) (bytes : List ℕ) → length bytes ≡ 4 * n → lanes_back_of (lanes_out_of bytes) ≡ bytes
  -- "the way out undoes the way back, for each n from 0"
  pub out_undoes : (n : ℕ) (lanes : List ℕ) → length lanes ≡ 4 * n → lanes_out_of (lanes_back_of lanes) ≡ lanes
  -- "n words, as 4×n little-endian bytes": so many, byte k of word i the one of 256^k, and words of 32 bits again
  pub bytes_length : (words : List ℕ) → length (bytes_of words) ≡ 4 * length words
  pub bytes_at : (words : List ℕ) (i k : ℕ) → i < length words → k < 4 → get_or (bytes_of words) (4 * i + k) 0 ≡ word_at words i / 256 ^ k % 256
  pub words_back : (words : List ℕ) → ((i : ℕ) → word_at words i < 2 ^ 32) → words_of (bytes_of words) ≡ words
