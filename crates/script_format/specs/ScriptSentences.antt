-- "Service script" and 14, byte by byte: which bytes are a script. Assumes nothing.
use Rattle.std.specs.Prelude.{ℕ, ◌+◌, ◌*◌, ◌%◌, ◌≤◌, ◌<◌, ◌≡◌, true, List, length, get_or}
use Rattle.script_format.specs.Records.{is_script_of, record_of}

-- the eight bytes of a record: "kind (0 store, 1 step, 2 reset), register or reset kind, form, 0, value little-endian. Unused bytes are 0."
pub data RecordBytes (byte : ℕ → ℕ) : Type 0 where
  store : byte 0 ≡ 0 → byte 1 ≤ 10 → byte 2 ≤ 3 → byte 3 ≡ 0 → RecordBytes byte
  step : byte 0 ≡ 1 → ((k : ℕ) → 0 < k → k < 8 → byte k ≡ 0) → RecordBytes byte
  reset : byte 0 ≡ 2 → byte 1 ≤ 2 → ((k : ℕ) → 1 < k → k < 8 → byte k ≡ 0) → RecordBytes byte

-- "14. A script whose length isn't a multiple of 8, or a record with an unknown kind, register, form or reset kind or an unused byte not 0": none of it
pub record Script (script : List ℕ) : Type 0 where
  pub whole : length script % 8 ≡ 0
  pub each : (i : ℕ) → 8 * i < length script → RecordBytes (λ k. get_or script (8 * i + k) 0)

pub record ScriptSentences : Type 0 where
  pub scripts : (script : List ℕ) → is_script_of script ≡ true → Script script
  pub no_others : (script : List ℕ) → Script script → is_script_of script ≡ true
  -- the parts of a record by its bytes, "value little-endian"
  pub kind : (script : List ℕ) (i : ℕ) → (record_of script i).kind ≡ get_or script (8 * i) 0
  pub number : (script : List ℕ) (i : ℕ) → (record_of script i).number ≡ get_or script (8 * i + 1) 0
  pub form : (script : List ℕ) (i : ℕ) → (record_of script i).form ≡ get_or script (8 * i + 2) 0
  pub value : (script : List ℕ) (i : ℕ) → let byte : ℕ → ℕ = λ k. get_or script (8 * i + k) 0 in
      (record_of script i).value ≡ byte 4 + 0x100 * byte 5 + 0x1_0000 * byte 6 + 0x100_0000 * byte 7
