-- "Launch and flash steps", sentence by sentence: what a step answers and leaves, and that the sentences fix it. Assumes nothing.
use Rattle.std.specs.Prelude.{ℕ, ◌+◌, ◌*◌, ◌/◌, ◌%◌, ◌≤◌, ◌<◌, ◌≡◌, Bool, true, false, not, ◌||◌, List, [], ◌∷◌, ◌⊎◌, eqb, leb, length}
use Rattle.words.specs.Word.{pick, bit}
use Rattle.words.specs.Quad.{word_at}
use Rattle.words.specs.Decline.{number_of}
use Rattle.geometry.specs.declared.banks.Geometry.{Geometry}
use Rattle.map.specs.Mapped.{Mapped}
use Rattle.device.specs.declared.record.Device.{Device}
use Rattle.device.specs.Record.{register_of}
use Rattle.device.specs.ByNumber.{launched_of, FourWords}
use Rattle.device.specs.State.{State, bank_of, After}
use Rattle.nvmop.specs.Operation.{length_of}
use Rattle.nvmop.specs.Failing.{rounded_of, Within}
use Rattle.common_declines.specs.CommonDecline.{Usable, CommonDeclines}
use Rattle.flash.specs.Step.{step_of}

-- NVMOP of the running operation
abbrev pub nvmop : Device → ℕ
nvmop d = register_of d 0 % 16

-- "A step does one quad, ascending": the address of its quad; the target of NVMOP 2 to 4 is the launched NVMADDR, rounded down; "lower before upper
-- for NVMOP 7", the upper region being directly after the lower
abbrev pub step_address : Geometry → Device → ℕ
step_address g d =
    pick (leb (nvmop d) 4) (rounded_of g (nvmop d) (launched_of d 2))
    (pick (eqb (nvmop d) 6) (0x1D00_0000 + g.p * (128 * g.q)) 0x1D00_0000)
    + 16 * d.step

-- its quad begins at word w of bank 1 or, where second, of bank 2
abbrev pub StepPlace : Geometry → Device → Bool → ℕ → Type 0
StepPlace g d second w = Mapped g (bit 6 (register_of d 0)) (bit 7 (register_of d 0)) (step_address g d) second w

-- "In a protected boot page": "Boot page i protected: LBWPi or UBWPi of its alias."
pub data Blocked (g : Geometry) (d : Device) : Type 0 where
  lower : (i : ℕ) → i < g.b → Within (0x1FC0_0000 + i * (128 * g.q)) (128 * g.q) (step_address g d) → bit (8 + i) (register_of d 9) ≡ true → Blocked g d
  upper : (i : ℕ) → i < g.b → Within (0x1FC2_0000 + i * (128 * g.q)) (128 * g.q) (step_address g d) → bit i (register_of d 9) ≡ true → Blocked g d

-- "Row data is four words of lent SRAM .. at NVMSRCADDR + 16×step, a sum that doesn't wrap"
abbrev pub source : Device → ℕ
source d = launched_of d 7 + 16 * d.step

-- "an address not a multiple of 4 (003) or a word past the SRAM aborts": neither
abbrev pub SourceFits : Device → List ℕ → Type 0
SourceFits d sram = (source d % 4 ≡ 0) × (source d / 4 + 4 ≤ length sram)

-- "four words of all ones"
abbrev pub Blank : List ℕ → ℕ → Type 0
Blank bank w = (j : ℕ) → j < 4 → word_at bank (w + j) ≡ 0xFFFF_FFFF

-- "Programming needs four words of all ones (house), else it aborts."; and row data that do not fit
pub data Aborts (g : Geometry) (s : State) (sram : List ℕ) : Type 0 where
  not_blank : nvmop s.device ≤ 3 → (Blocked g s.device → ⊥) → (second : Bool) (w : ℕ) → StepPlace g s.device second w
      → (Blank (bank_of s second) w → ⊥) → Aborts g s sram
  no_source : nvmop s.device ≡ 3 → (Blocked g s.device → ⊥) → (SourceFits s.device sram → ⊥) → Aborts g s sram

-- ---- the banks after an accepted step whose quad is at word w of a bank
pub record StepBanks (g : Geometry) (s : State) (sram : List ℕ) (second : Bool) (w : ℕ) (t : State) : Type 0 where
  -- no other word changes
  pub other_bank : bank_of t (not second) ≡ bank_of s (not second)
  pub long : length (bank_of t second) ≡ length (bank_of s second)
  pub outside : (v : ℕ) → (v < w) ⊎ (w + 4 ≤ v) → word_at (bank_of t second) v ≡ word_at (bank_of s second) v
  -- "In a protected boot page steps count and change nothing"; "Abort: quad unchanged"
  pub unchanged : Blocked g s.device ⊎ Aborts g s sram → (j : ℕ) → j < 4 → word_at (bank_of t second) (w + j) ≡ word_at (bank_of s second) (w + j)
  -- "Erasing sets all ones."
  pub erases : 4 ≤ nvmop s.device → (Blocked g s.device → ⊥) → (j : ℕ) → j < 4 → word_at (bank_of t second) (w + j) ≡ 0xFFFF_FFFF
  -- a quad gets the launched NVMDATA0 to 3, a row the words of the SRAM
  pub programs : nvmop s.device ≡ 2 → (Blocked g s.device → ⊥) → (Aborts g s sram → ⊥)
      → (j : ℕ) → j < 4 → word_at (bank_of t second) (w + j) ≡ launched_of s.device (3 + j)
  pub programs_row : nvmop s.device ≡ 3 → (Blocked g s.device → ⊥) → (Aborts g s sram → ⊥)
      → (j : ℕ) → j < 4 → word_at (bank_of t second) (w + j) ≡ word_at sram (source s.device / 4 + j)

-- ---- the device after an accepted step, and the event
pub record StepDevice (g : Geometry) (s : State) (sram : List ℕ) (e : Device) (event : Bool) : Type 0 where
  pub four : FourWords e
  -- "Abort: quad unchanged, WR = 0, WRERR stays 1, event."
  pub abort : Aborts g s sram → (event ≡ true) × ((k : ℕ) → bit k (register_of e 0) ≡ pick (eqb k 15) false (bit k (register_of s.device 0)))
  -- "The last step clears WR and WRERR, with an event."
  pub last : (Aborts g s sram → ⊥) → s.device.step + 1 ≡ length_of g (nvmop s.device)
      → (event ≡ true) × ((k : ℕ) → bit k (register_of e 0) ≡ pick (eqb k 15 || eqb k 13) false (bit k (register_of s.device 0)))
  -- both end the operation: the step number is 0, and W-209's "all 0 while WR is 0"
  pub ends : Aborts g s sram ⊎ (s.device.step + 1 ≡ length_of g (nvmop s.device)) → (e.step ≡ 0) × ((r : ℕ) → 1 < r → r < 8 → launched_of e r ≡ 0)
  -- another step counts, and changes nothing else of the device
  pub counts : (Aborts g s sram → ⊥) → s.device.step + 1 < length_of g (nvmop s.device)
      → (event ≡ false)
      × ((e.step ≡ s.device.step + 1)
      × ((register_of e 0 ≡ register_of s.device 0) × ((r : ℕ) → 1 < r → r < 8 → launched_of e r ≡ launched_of s.device r)))
  pub registers : (r : ℕ) → 0 < r → r < 11 → register_of e r ≡ register_of s.device r
  pub key : e.keystep ≡ s.device.keystep

-- the step with an SRAM: a is its answer with what it leaves
pub record StepSentences (g : Geometry) (s : State) (sram : List ℕ) (a : After) : Type 0 where
  -- 1 to 3; "6. A step with WR = 0."
  pub declines : CommonDeclines g s.device (length s.one ∷ length s.two ∷ []) (length sram) (number_of a.decline)
  pub idle : Usable g s.device (length s.one ∷ length s.two ∷ []) (length sram) → bit 15 (register_of s.device 0) ≡ false
      → number_of a.decline ≡ 6
  pub accepted : Usable g s.device (length s.one ∷ length s.two ∷ []) (length sram) → bit 15 (register_of s.device 0) ≡ true
      → number_of a.decline ≡ 0
  -- "device and lent memory keep their contents"; no event (ours)
  pub declined : (number_of a.decline ≡ 0 → ⊥) → (a.state ≡ s) × (a.event ≡ false)
  pub banks : number_of a.decline ≡ 0 → (second : Bool) (w : ℕ) → StepPlace g s.device second w → StepBanks g s sram second w a.state
  pub device : number_of a.decline ≡ 0 → StepDevice g s sram a.state.device a.event

pub record StepsFixed : Type 0 where
  -- every step is so, and nothing else is
  pub meets : (g : Geometry) (s : State) (sram : List ℕ) → FourWords s.device → StepSentences g s sram (step_of g s sram)
  pub fixes : (g : Geometry) (s : State) (sram : List ℕ) → FourWords s.device → (a : After) → StepSentences g s sram a → a ≡ step_of g s sram
