-- A flash read, sentence by sentence, with W-207's waiting, and that the sentences fix it. Assumes nothing.
use Rattle.std.specs.Prelude.{ℕ, ◌%◌, ◌≡◌, Bool, true, false, List, [], ◌∷◌, length}
use Rattle.words.specs.Word.{bit}
use Rattle.words.specs.Quad.{word_at}
use Rattle.words.specs.Decline.{number_of}
use Rattle.geometry.specs.declared.banks.Geometry.{Geometry}
use Rattle.map.specs.Mapped.{Mapped}
use Rattle.device.specs.declared.record.Device.{Device}
use Rattle.device.specs.Record.{register_of}
use Rattle.device.specs.State.{State, bank_of}
use Rattle.common_declines.specs.CommonDecline.{Usable, CommonDeclines}
use Rattle.flash.specs.Step.{step_of}
use Rattle.flash.specs.StepSentences.{nvmop, StepPlace}
use Rattle.reads.specs.Read.{Reading, flash_read_of}

-- word w of bank 1 or, where second, of bank 2 is at the address, by BFSWAP and PFSWAP
abbrev pub At : Geometry → Device → ℕ → Bool → ℕ → Type 0
At g d address second w = Mapped g (bit 6 (register_of d 0)) (bit 7 (register_of d 0)) address second w

-- "a bank that the running operation targets (NVMOP 7: both)"
pub data Targets (g : Geometry) (d : Device) (second : Bool) : Type 0 where
  quad : (w : ℕ) → StepPlace g d second w → Targets g d second
  both : nvmop d ≡ 7 → Targets g d second

-- "A flash read from" such a bank
pub record Stalls (g : Geometry) (d : Device) (address : ℕ) : Type 0 where
  pub runs : bit 15 (register_of d 0) ≡ true
  pub second : Bool
  pub word : ℕ
  pub there : At g d address second word
  pub target : Targets g d second

-- "the remaining steps, up to an abort if one comes": steps lead from s to t, and WR is 0 after the last alone
pub data StepsTo (g : Geometry) (sram : List ℕ) (t : State) : State → Type 0 where
  last : (s : State) → bit 15 (register_of (step_of g s sram).state.device 0) ≡ false → t ≡ (step_of g s sram).state → StepsTo g sram t s
  more : (s : State) → bit 15 (register_of (step_of g s sram).state.device 0) ≡ true → StepsTo g sram t (step_of g s sram).state → StepsTo g sram t s

-- none of 1 to 3 applies to a call on these banks with this SRAM
abbrev pub Readable : Geometry → State → List ℕ → Type 0
Readable g s sram = Usable g s.device (length s.one ∷ length s.two ∷ []) (length sram)

pub record FlashReadSentences (g : Geometry) (s : State) (sram : List ℕ) (address : ℕ) (r : Reading) : Type 0 where
  -- 1 to 3 come first, an SRAM that is too long among 2
  pub declines : CommonDeclines g s.device (length s.one ∷ length s.two ∷ []) (length sram) (number_of r.after.decline)
  -- "8. A flash read outside the four windows or not on a multiple of 4"
  pub no_address : Readable g s sram → ((second : Bool) (w : ℕ) → At g s.device address second w → address % 4 ≡ 0 → ⊥) → number_of r.after.decline ≡ 8
  pub accepted : Readable g s sram → (second : Bool) (w : ℕ) → At g s.device address second w → address % 4 ≡ 0 → number_of r.after.decline ≡ 0
  -- declined it changes nothing; no event, and the word is 0 (ours)
  pub declined : (number_of r.after.decline ≡ 0 → ⊥) → (r.after.state ≡ s) × ((r.after.event ≡ false) × (r.word ≡ 0))
  -- "A flash read gives the word at its address there": of the bank that stands at the address, as the read leaves it
  pub word : number_of r.after.decline ≡ 0 → (second : Bool) (w : ℕ) → At g r.after.state.device address second w
      → r.word ≡ word_at (bank_of r.after.state second) w
  -- W-207: "Reads that were answered before keep their answers and change nothing."
  pub kept : number_of r.after.decline ≡ 0 → (Stalls g s.device address → ⊥) → (r.after.state ≡ s) × (r.after.event ≡ false)
  -- "Such a read shall carry out the remaining steps, up to an abort if one comes, and then give the word, with the event."
  pub waited : number_of r.after.decline ≡ 0 → Stalls g s.device address → StepsTo g sram r.after.state s × (r.after.event ≡ true)

pub record FlashReadsFixed : Type 0 where
  -- every flash read is so, and nothing else is
  pub meets : (g : Geometry) (s : State) (sram : List ℕ) (address : ℕ) → FlashReadSentences g s sram address (flash_read_of g s sram address)
  pub fixes : (g : Geometry) (s : State) (sram : List ℕ) (address : ℕ) (r : Reading) → FlashReadSentences g s sram address r
      → r ≡ flash_read_of g s sram address
