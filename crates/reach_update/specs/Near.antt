-- W-214: what two updates may differ in whose images differ in word i of the image. Assumes nothing.
use Rattle.std.specs.Prelude.{ℕ, ◌%◌, ◌≡◌, Bool, not, List, length}
use Rattle.words.specs.Quad.{word_at}
use Rattle.device.specs.declared.record.Device.{Device}
use Rattle.device.specs.Builders.{with_launched, with_operands}
use Rattle.device.specs.State.{State, bank_of}

-- lists of words that are the same but for word i
pub record SameBut (i : ℕ) (l m : List ℕ) : Type 0 where
  pub long : length l ≡ length m
  pub same : (j : ℕ) → (j ≡ i → ⊥) → word_at l j ≡ word_at m j

-- the device with other words in NVMDATA, and other words of data launched
abbrev pub with_data_words : Device → List ℕ → List ℕ → Device
with_data_words d quad launched =
    with_launched (with_operands d (record { nvmaddr = d.nvmaddr; nvmdata = quad; nvmsrcaddr = d.nvmsrcaddr }))
    (record { nvmaddr = d.launched.nvmaddr; nvmdata = launched; nvmsrcaddr = d.launched.nvmsrcaddr })

-- devices that are the same but for NVMDATA x, and what was launched of it
pub record NearDevice (x : ℕ) (d e : Device) : Type 0 where
  pub rest : e ≡ with_data_words d e.nvmdata e.launched.nvmdata
  pub words : SameBut x d.nvmdata e.nvmdata
  pub launched : SameBut x d.launched.nvmdata e.launched.nvmdata

-- states of two updates whose old bank is bank 2 where `second`: "the banks differ in at most that one word", of the new bank
pub record NearState (second : Bool) (i : ℕ) (s t : State) : Type 0 where
  pub device : NearDevice (i % 4) s.device t.device
  pub old_bank : bank_of s second ≡ bank_of t second
  pub new_bank_lem : SameBut i (bank_of s (not second)) (bank_of t (not second))
