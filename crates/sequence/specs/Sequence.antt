-- "Banks and map", the sequence word. Assumes nothing.
use Rattle.std.specs.Prelude.{ℕ, ◌+◌, ◌-◌, ◌*◌, ◌/◌, ◌%◌, Bool, List, [], ◌∷◌, eqb}
use Rattle.std.specs.Int.Bits.{bit_xor}
use Rattle.words.specs.Word.{all_ones}
use Rattle.geometry.specs.declared.banks.Geometry.{Geometry}
use Rattle.geometry.specs.Banks.{boot_quads_of}

-- "The sequence word is word 0 of the last quad of the last boot page."
abbrev pub sequence_quad_of : Geometry → ℕ
sequence_quad_of g = boot_quads_of g - 1

abbrev pub sequence_index_of : Geometry → ℕ
sequence_index_of g = 4 * sequence_quad_of g

-- "Its low 16 bits are T, its high 16 bits C.": TSEQ and CSEQ of the data sheet
abbrev pub tseq_of : ℕ → ℕ
tseq_of w = w % 65536

abbrev pub cseq_of : ℕ → ℕ
cseq_of w = w / 65536

-- the bitwise complement of 16 bits (`complement_bit` of proofs/SequenceLaws says so of each bit)
unfoldable pub complement_of : ℕ → ℕ
complement_of half = bit_xor half 0xFFFF

-- "It is valid when C is the bitwise complement of T (house)."
unfoldable pub valid_of : ℕ → Bool
valid_of w = eqb (cseq_of w) (complement_of (tseq_of w))

-- T with its complement as C
unfoldable pub sequence_word_of : ℕ → ℕ
sequence_word_of t = complement_of t * 65536 + t

-- "the new sequence quad is T = t+1 (modulo 65,536), its complement, then three words of all ones"
unfoldable pub next_sequence_of : ℕ → List ℕ
next_sequence_of w = sequence_word_of ((tseq_of w + 1) % 65536) ∷ all_ones ∷ all_ones ∷ all_ones ∷ []
