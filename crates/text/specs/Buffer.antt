-- An output in a lent buffer of any length (ours: the paper gives a play no buffer). Assumes nothing.
use Rattle.std.specs.Prelude.{ℕ, ◌-◌, ◌^◌, min, List, ◌++◌, length, take, drop}

-- the buffer with as much of the front of the output as fits; bytes past the output as before
abbrev pub put_first : List ℕ → List ℕ → List ℕ
put_first output buffer = take (length buffer) output ++ drop (length output) buffer

-- a number as a count of 64 bits: the largest one where it is larger
abbrev pub saturated_of : ℕ → ℕ
saturated_of n = min n (2 ^ 64 - 1)
