-- The byte lanes of an image, and decline 22. Assumes nothing.
use Rattle.std.specs.Prelude.{ℕ, zero, suc, ◌+◌, ◌*◌, ◌/◌, ◌%◌, ◌&&◌, List, [], ◌∷◌, ◌++◌, eqb, length, get_or, Ok, Err}
use Rattle.words.specs.Word.{pick}
use Rattle.words.specs.declared.decline.Decline.{Decline}
use Rattle.words.specs.Decline.{Verdict, accepted_of}

-- the first n values of f, from f 0
abbrev pub tabulate : (ℕ → ℕ) → ℕ → List ℕ
tabulate f zero = []
tabulate f (suc n) = f 0 ∷ tabulate (λ i. f (suc i)) n

-- n of 4×n bytes
abbrev pub words_in : List ℕ → ℕ
words_in bytes = length bytes / 4

-- byte k of every word: k = 0 for "all first bytes"
abbrev pub lane_of : List ℕ → ℕ → List ℕ
lane_of bytes k = tabulate (λ i. get_or bytes (4 * i + k) 0) (words_in bytes)

-- "all first bytes, then all second, third and fourth"
unfoldable pub lanes_out_of : List ℕ → List ℕ
lanes_out_of bytes = lane_of bytes 0 ++ (lane_of bytes 1 ++ (lane_of bytes 2 ++ lane_of bytes 3))

-- "The way back restores it": byte i of the image is byte i mod 4 of word i / 4, so byte i / 4 of lane i mod 4
unfoldable pub lanes_back_of : List ℕ → List ℕ
lanes_back_of lanes = tabulate (λ i. get_or lanes (i % 4 * words_in lanes + i / 4) 0) (4 * words_in lanes)

-- "22, the two lengths differ or aren't a multiple of 4"
unfoldable pub lanes_decline_of : ℕ → ℕ → Verdict
lanes_decline_of source target = pick (eqb source target && eqb (source % 4) 0) (Ok tt) (Err Decline.Lanes)

-- "only the target is written": the target after a way out or back; as before where that is declined
abbrev pub target_of : (List ℕ → List ℕ) → List ℕ → List ℕ → List ℕ
target_of way source target = pick (accepted_of (lanes_decline_of (length source) (length target))) (way source) target
