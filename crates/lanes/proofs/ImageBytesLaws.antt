-- The bytes of a word are its digits in base 256, and four of them hold a word of 32 bits.
-- Assumes nothing.
use mathlib.Core.Path.{◌≡◌, ◌∙◌}
use mathlib.Core.List.{List}
use Prim.Native.Nat.{ℕ, ◌+◌, ◌*◌, ◌/◌, ◌%◌, ◌^◌, ◌<◌}
use native.Mathlib.Nat.{div-div-eq-div-mul, mod-eq_of_lt}
use native.Mathlib.Omega.{arith}
use lib.ListN.{length, get_or}
use lib.Seq.{ext_get_or}
use Rattle.words.specs.Quad.{word_at}
use Rattle.lanes.specs.Lanes.{words_in}
use Rattle.lanes.specs.ImageBytes.{byte_of, bytes_of, word_from, words_of}
use Rattle.lanes.proofs.TabulateLaws.{tabulate_length, tabulate_at}

pub bytes_length : (words : List ℕ) → length (bytes_of words) ≡ 4 * length words
unfolding bytes_of
bytes_length words = tabulate_length _ (4 * length words)

-- byte k of word i
pub byte_at : (words : List ℕ) (i k : ℕ) → i < length words → k < 4 → get_or (bytes_of words) (4 * i + k) 0 ≡ byte_of (word_at words i) k
unfolding bytes_of
byte_at words i k h l =
    let word : (4 * i + k) / 4 ≡ i = omega arith in
    let byte : (4 * i + k) % 4 ≡ k = omega arith in
    tabulate_at _ (4 * length words) (4 * i + k) (omega arith) ∙ rw (word, byte)

-- the word of its four bytes
bytes_make_word : (w : ℕ) → w < 2 ^ 32 → byte_of w 0 + 256 * byte_of w 1 + 65536 * (byte_of w 2 + 256 * byte_of w 3) ≡ w
bytes_make_word w small =
    let top : w / 16777216 % 256 ≡ w / 16777216 = mod-eq_of_lt (omega arith) in
    let second : w / 256 / 256 ≡ w / 65536 = div-div-eq-div-mul w 256 256 in
    let third : w / 65536 / 256 ≡ w / 16777216 = div-div-eq-div-mul w 65536 256 in
    rw (top, ← third, ← second) (omega arith)

word_again : (words : List ℕ) (i : ℕ) → i < length words → word_at words i < 2 ^ 32 → word_from (bytes_of words) (4 * i) ≡ word_at words i
word_again words i h small =
    let e : 4 * i + 0 ≡ 4 * i = omega arith in
    omega (
      arith,
      bytes_make_word (word_at words i) small,
      rw e at (byte_at words i 0 h (omega arith)),
      byte_at words i 1 h (omega arith),
      byte_at words i 2 h (omega arith),
      byte_at words i 3 h (omega arith),
    )

pub words_back : (words : List ℕ) → ((i : ℕ) → word_at words i < 2 ^ 32) → words_of (bytes_of words) ≡ words
unfolding words_of
words_back words small =
    let count : words_in (bytes_of words) ≡ length words = omega (arith, bytes_length words) in
    let same : length (words_of (bytes_of words)) ≡ length words = tabulate_length _ (words_in (bytes_of words)) ∙ count in
    ext_get_or 0 (words_of (bytes_of words)) words same
    (λ i h. tabulate_at _ (words_in (bytes_of words)) i (omega arith) ∙ word_again words i (omega arith) (small i))
