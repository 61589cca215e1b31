-- The worked example of "Service script". Assumes nothing.
use Rattle.std.specs.Prelude.{ℕ, ◌/◌, ◌%◌, ◌≡◌, List, [], ◌∷◌, ◌++◌}
use Prim.Native.Char.{code}
use Prim.Native.String.{String, [] as endOfText, ◌∷◌ as ◌then◌}
use Rattle.script_program.specs.Program.{printed_of}

-- the bytes of a text in ASCII
abbrev pub ascii : String → List ℕ
ascii endOfText = []
ascii (c then text) = code c ∷ ascii text

-- the bytes of a record
abbrev pub store_record : ℕ → ℕ → ℕ → List ℕ
store_record register form value = 0 ∷ register ∷ form ∷ 0 ∷ value % 256 ∷ value / 256 % 256 ∷ value / 65536 % 256 ∷ value / 16777216 ∷ []

abbrev pub step_record : List ℕ
step_record = 1 ∷ 0 ∷ 0 ∷ 0 ∷ 0 ∷ 0 ∷ 0 ∷ 0 ∷ []

-- "Stores NVMADDR 0x1D000080, NVMCON plain 2, set 0x4000, three keys, set 0x8000, then two steps"
abbrev pub worked_script : List ℕ
worked_script =
    store_record 2 0 0x1D00_0080
    ++ store_record 0 0 2
    ++ store_record 0 2 0x4000
    ++ store_record 1 0 0
    ++ store_record 1 0 0xAA99_6655
    ++ store_record 1 0 0x5566_99AA
    ++ store_record 0 2 0x8000
    ++ step_record
    ++ step_record

-- "print:"
abbrev pub worked_output : List ℕ
worked_output =
    ascii "0 0 00000000 0\n"
    ++ ascii "1 0 00000002 0\n"
    ++ ascii "2 0 00004002 0\n"
    ++ ascii "3 0 00004002 0\n"
    ++ ascii "4 0 00004002 0\n"
    ++ ascii "5 0 00004002 0\n"
    ++ ascii "6 0 0000E002 0\n"
    ++ ascii "7 0 00004002 1\n"
    ++ ascii "8 6 00004002 0\n"

-- what the paper says of it, and of the empty script
pub record WorkedExample : Type 0 where
  pub worked : printed_of worked_script ≡ worked_output
  -- "An empty script prints nothing."
  pub empty : printed_of [] ≡ []
