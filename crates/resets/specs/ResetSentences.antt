-- "Resets", sentence by sentence: what a reset answers and leaves, and that the sentences fix it. Assumes nothing.
use Rattle.std.specs.Prelude.{ℕ, ◌-◌, ◌*◌, ◌%◌, ◌≤◌, ◌<◌, ◌≡◌, Bool, true, false, List, [], ◌∷◌, leb, length, get_or}
use Rattle.words.specs.Word.{pick, bit}
use Rattle.words.specs.Quad.{word_at}
use Rattle.words.specs.Decline.{number_of}
use Rattle.geometry.specs.declared.banks.Geometry.{Geometry}
use Rattle.sequence.specs.Comparison.{reason_number_of, comparison}
use Rattle.sequence.specs.Reasons.{Reasons}
use Rattle.device.specs.declared.record.Device.{Device}
use Rattle.device.specs.Record.{register_of}
use Rattle.device.specs.ByNumber.{reset_column, launched_of, FourWords}
use Rattle.device.specs.State.{State, bank_of}
use Rattle.common_declines.specs.CommonDecline.{Usable, CommonDeclines}
use Rattle.flash.specs.Step.{step_of}
use Rattle.resets.specs.Reset.{Explained, explained_of}

-- the device after a reset of this kind from d, but for BFSWAP
pub record ResetDevice (d : Device) (kind : ℕ) (e : Device) : Type 0 where
  pub four : FourWords e
  -- "Then power-on gives all reset values."
  pub power_on_lem : kind ≡ 0 → (r : ℕ) → 0 < r → r < 11 → register_of e r ≡ get_or reset_column r 0
  pub power_on_con : kind ≡ 0 → (k : ℕ) → (k ≡ 6 → ⊥) → bit k (register_of e 0) ≡ false
  -- "Kinds 1 and 2 clear WR (house, the operation being aborted), WREN, PFSWAP": bits 15, 14 and 7 of NVMCON
  pub cleared : 0 < kind → (bit 15 (register_of e 0) ≡ false) × ((bit 14 (register_of e 0) ≡ false) × (bit 7 (register_of e 0) ≡ false))
  -- "the key step and the step number"; of power-on, too
  pub steps : (e.keystep ≡ 0) × (e.step ≡ 0)
  -- "set NVMPWP, NVMBWP, NVMCON2 to reset values, and keep the rest and NVMERS": NVMERS is bits 31 to 28 of NVMCON2
  pub protection : 0 < kind → (register_of e 8 ≡ 0x8000_0000) × (register_of e 9 ≡ 0x9FDF)
  pub con2 : 0 < kind → (k : ℕ) → bit k (register_of e 10) ≡ pick (leb 28 k) (pick (leb k 31) (bit k (register_of d 10)) false) (bit k 0x001F_0000)
  pub rest : 0 < kind → (r : ℕ) → 0 < r → r < 8 → register_of e r ≡ register_of d r
  pub rest_of_con : 0 < kind → (k : ℕ) → (k ≡ 15 → ⊥) → (k ≡ 14 → ⊥) → (k ≡ 12 → ⊥) → (k ≡ 7 → ⊥) → (k ≡ 6 → ⊥)
      → bit k (register_of e 0) ≡ bit k (register_of d 0)
  -- "Kind 1 with WR = 1 also sets LVDERR.": bit 12
  pub brown_out : kind ≡ 1 → bit 15 (register_of d 0) ≡ true → bit 12 (register_of e 0) ≡ true
  pub no_brown_out : 0 < kind → (kind ≡ 1 → bit 15 (register_of d 0) ≡ true → ⊥) → bit 12 (register_of e 0) ≡ bit 12 (register_of d 0)
  -- W-209: "all 0 while WR is 0"
  pub nothing-launched : (r : ℕ) → 1 < r → r < 8 → launched_of e r ≡ 0

-- the reset of s, of a kind, with an SRAM and a mask: e is its answer with what it leaves
pub record ResetSentences (g : Geometry) (s : State) (sram : List ℕ) (kind : ℕ) (mask : List ℕ) (e : Explained) : Type 0 where
  -- 1 to 3; "7. A reset kind above 2."
  pub declines : CommonDeclines g s.device (length s.one ∷ length s.two ∷ []) (length sram) (number_of e.after.decline)
  pub no_kind : Usable g s.device (length s.one ∷ length s.two ∷ []) (length sram) → 2 < kind → number_of e.after.decline ≡ 7
  pub accepted : Usable g s.device (length s.one ∷ length s.two ∷ []) (length sram) → kind ≤ 2 → number_of e.after.decline ≡ 0
  -- "device and lent memory keep their contents"; no reason is number 4 (ours)
  pub declined : (number_of e.after.decline ≡ 0 → ⊥) → (e.after.state ≡ s) × (reason_number_of e.reason ≡ 4)
  -- "A reset gives no event."
  pub no_event : e.after.event ≡ false
  -- "With WR = 1 a reset first tears the quad of the next step: the four words of the torn mask choose, bit by bit, intended (1) or old (0). A
  -- step that would abort or hit a protected page tears nothing.": a bit is what the step would have left, or what it was
  pub torn : number_of e.after.decline ≡ 0 → (second : Bool) (v k : ℕ)
      → bit k (word_at (bank_of e.after.state second) v)
      ≡ pick (bit k (word_at mask (v % 4))) (bit k (word_at (bank_of (step_of g s sram).state second) v)) (bit k (word_at (bank_of s second) v))
  pub long : number_of e.after.decline ≡ 0 → (second : Bool) → length (bank_of e.after.state second) ≡ length (bank_of s second)
  pub device : number_of e.after.decline ≡ 0 → ResetDevice s.device kind e.after.state.device
  -- "BFSWAP is compared after the tear.": bit 6 of NVMCON and W-205's reason are those of the sequence words then, "word 0 of the last quad of the
  -- last boot page"
  pub compared : number_of e.after.decline ≡ 0
      → let t = e.after.state in
      let w = g.b * (32 * g.q) - 4 in
      Reasons (word_at t.one w) (word_at t.two w) (comparison (bit 6 (register_of t.device 0)) e.reason)

pub record ResetsFixed : Type 0 where
  -- every reset is so, and nothing else is
  pub meets : (g : Geometry) (s : State) (sram : List ℕ) (kind : ℕ) (mask : List ℕ) → FourWords s.device
      → ResetSentences g s sram kind mask (explained_of g s sram kind mask)
  pub fixes : (g : Geometry) (s : State) (sram : List ℕ) (kind : ℕ) (mask : List ℕ) → FourWords s.device → (e : Explained)
      → ResetSentences g s sram kind mask e → e ≡ explained_of g s sram kind mask
