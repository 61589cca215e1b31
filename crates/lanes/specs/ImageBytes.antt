-- An image's words as bytes, and back. Assumes nothing.
use Rattle.std.specs.Prelude.{ℕ, ◌+◌, ◌*◌, ◌/◌, ◌%◌, ◌^◌, List, length, get_or}
use Rattle.words.specs.Quad.{word_at}
use Rattle.lanes.specs.Lanes.{tabulate, words_in}

-- byte k of a word, the lowest first
abbrev pub byte_of : ℕ → ℕ → ℕ
byte_of word k = word / 256 ^ k % 256

-- "An image of n words, as 4×n little-endian bytes": byte i is byte i mod 4 of word i / 4
unfoldable pub bytes_of : List ℕ → List ℕ
bytes_of words = tabulate (λ i. byte_of (word_at words (i / 4)) (i % 4)) (4 * length words)

-- the word of the four bytes from byte i on
abbrev pub word_from : List ℕ → ℕ → ℕ
word_from bytes i = get_or bytes i 0 + 256 * get_or bytes (i + 1) 0 + 65536 * (get_or bytes (i + 2) 0 + 256 * get_or bytes (i + 3) 0)

-- the words of such bytes
unfoldable pub words_of : List ℕ → List ℕ
words_of bytes = tabulate (λ i. word_from bytes (4 * i)) (words_in bytes)
