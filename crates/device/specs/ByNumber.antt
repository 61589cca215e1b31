-- A device by its registers' numbers: the table of eleven rows, and the six words that an operation was launched with. Assumes nothing.
use Rattle.std.specs.Prelude.{ℕ, ◌<◌, ◌≡◌, List, [], ◌∷◌, eqb, length}
use Rattle.words.specs.Word.{pick}
use Rattle.words.specs.Quad.{word_at}
use Rattle.device.specs.declared.record.Device.{Device}
use Rattle.device.specs.Record.{register_of}

-- the table, column "mask": "reads 0" is 0, "all" all 32 bits
abbrev pub mask_column : List ℕ
mask_column =
    0xF0CF ∷ 0 ∷ 0xFFFF_FFFF ∷ 0xFFFF_FFFF ∷ 0xFFFF_FFFF ∷ 0xFFFF_FFFF ∷ 0xFFFF_FFFF ∷ 0xFFFF_FFFF ∷ 0x80FF_FFFF ∷ 0x9FDF ∷ 0xF01F_B3C0 ∷ []

-- and "reset"
abbrev pub reset_column : List ℕ
reset_column = 0 ∷ 0 ∷ 0 ∷ 0 ∷ 0 ∷ 0 ∷ 0 ∷ 0 ∷ 0x8000_0000 ∷ 0x9FDF ∷ 0x001F_0000 ∷ []

-- W-209: "all six registers as they stood before the launching store": registers 2 to 7 as they were launched
abbrev pub launched_of : Device → ℕ → ℕ
launched_of d r =
    pick (eqb r 2) d.launched.nvmaddr
    (pick (eqb r 3) (word_at d.launched.nvmdata 0)
    (pick (eqb r 4) (word_at d.launched.nvmdata 1)
    (pick (eqb r 5) (word_at d.launched.nvmdata 2)
    (pick (eqb r 6) (word_at d.launched.nvmdata 3)
    d.launched.nvmsrcaddr))))

-- NVMDATA has four words, and so have the data that were launched, as every caller's do
pub record FourWords (d : Device) : Type 0 where
  pub data_words : length d.nvmdata ≡ 4
  pub launched_words : length d.launched.nvmdata ≡ 4

-- two devices that agree in everything that has a number
pub record SameByNumber (d e : Device) : Type 0 where
  pub registers : (r : ℕ) → r < 11 → register_of d r ≡ register_of e r
  pub launched : (r : ℕ) → 1 < r → r < 8 → launched_of d r ≡ launched_of e r
  pub keystep : d.keystep ≡ e.keystep
  pub step : d.step ≡ e.step

-- are the same
abbrev pub KnownByNumbers : Type 0
KnownByNumbers = (d e : Device) → FourWords d → FourWords e → SameByNumber d e → d ≡ e
