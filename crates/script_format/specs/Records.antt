-- "Service script": records of 8 bytes, and decline 14. Assumes nothing.
use Rattle.std.specs.Prelude.{ℕ, ◌+◌, ◌*◌, ◌/◌, ◌%◌, ◌<◌, Bool, false, ◌&&◌, List, [], ◌∷◌, ◌++◌, eqb, leb, length, get_or}
use Rattle.words.specs.Word.{pick, all_below}
use Rattle.script_format.specs.declared.Record.{Record}

-- every element is a byte
abbrev pub Bytes : List ℕ → Type 0
Bytes script = (k : ℕ) → get_or script k 0 < 256

-- byte k of record i
abbrev pub byte_of : List ℕ → ℕ → ℕ → ℕ
byte_of script i k = get_or script (8 * i + k) 0

-- "value little-endian"
unfoldable pub value_of : List ℕ → ℕ → ℕ
value_of script i =
    byte_of script i 4 + 256 * byte_of script i 5 + 65536 * (byte_of script i 6 + 256 * byte_of script i 7)

-- "Records of 8 bytes, no header: kind (0 store, 1 step, 2 reset), register or reset kind, form, 0, value little-endian."
unfoldable pub record_of : List ℕ → ℕ → Record
record_of script i =
    record {
      kind = byte_of script i 0;
      number = byte_of script i 1;
      form = byte_of script i 2;
      unused = byte_of script i 3;
      value = value_of script i;
    }

-- the lowest bytes of four numbers
abbrev pub low_bytes : ℕ → ℕ → ℕ → ℕ → List ℕ
low_bytes a b c d = a % 256 ∷ b % 256 ∷ c % 256 ∷ d % 256 ∷ []

-- the bytes of a record (W-202): "kind .., register or reset kind, form, 0, value little-endian"
unfoldable pub bytes_of : Record → List ℕ
bytes_of r =
    low_bytes r.kind r.number r.form r.unused
    ++ low_bytes r.value (r.value / 256) (r.value / 65536) (r.value / 16777216)

-- "0 store": a known register and form; NVMKEY with form 1 to 3 is one, too
unfoldable pub is_store_of : Record → Bool
is_store_of r = leb r.number 10 && leb r.form 3

-- "1 step": "Unused bytes are 0."
unfoldable pub is_step_of : Record → Bool
is_step_of r = eqb r.number 0 && (eqb r.form 0 && eqb r.value 0)

-- "2 reset": a known reset kind, unused bytes 0
unfoldable pub is_reset_of : Record → Bool
is_reset_of r = leb r.number 2 && (eqb r.form 0 && eqb r.value 0)

-- no "unknown kind, register, form or reset kind or an unused byte not 0"
unfoldable pub is_record_of : Record → Bool
is_record_of r =
    pick (eqb r.unused 0)
    (pick (eqb r.kind 0) (is_store_of r) (pick (eqb r.kind 1) (is_step_of r) (pick (eqb r.kind 2) (is_reset_of r) false)))
    false

-- the records of a script
abbrev pub records_of : List ℕ → ℕ
records_of script = length script / 8

-- 14 does not apply: "A script whose length isn't a multiple of 8, or a record with .."
unfoldable pub is_script_of : List ℕ → Bool
is_script_of script = eqb (length script % 8) 0 && all_below (λ i. is_record_of (record_of script i)) (records_of script)
