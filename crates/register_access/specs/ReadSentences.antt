-- A register read, sentence by sentence, and that the sentences fix it. Assumes nothing.
use Rattle.std.specs.Prelude.{ℕ, ◌≤◌, ◌<◌, ◌≡◌, []}
use Rattle.words.specs.Decline.{number_of}
use Rattle.geometry.specs.declared.banks.Geometry.{Geometry}
use Rattle.device.specs.declared.record.Device.{Device}
use Rattle.device.specs.Record.{register_of}
use Rattle.device.specs.ByNumber.{launched_of, FourWords}
use Rattle.common_declines.specs.CommonDecline.{Usable, CommonDeclines}
use Rattle.register_access.specs.RegisterRead.{RegisterRead}
use Rattle.register_access.specs.Store.{register_read_of}

pub record RegisterReadSentences (g : Geometry) (d : Device) (r : ℕ) (a : RegisterRead) : Type 0 where
  -- 1 and 3; "4. A register number above 10"
  pub declines : CommonDeclines g d [] 0 (number_of a.decline)
  pub no_register : Usable g d [] 0 → 10 < r → number_of a.decline ≡ 4
  pub accepted : Usable g d [] 0 → r ≤ 10 → number_of a.decline ≡ 0
  -- "device and lent memory keep their contents"; the value is 0 (ours)
  pub declined : (number_of a.decline ≡ 0 → ⊥) → (a.device ≡ d) × (a.value ≡ 0)
  pub value : number_of a.decline ≡ 0 → a.value ≡ register_of d r
  -- W-203: "a register read at key step 1 leaves the step at 1; at 2 or 3 it still closes the key"
  pub key_kept : number_of a.decline ≡ 0 → d.keystep ≡ 1 → a.device.keystep ≡ 1
  pub key_closed : number_of a.decline ≡ 0 → (d.keystep ≡ 1 → ⊥) → a.device.keystep ≡ 0
  -- it changes nothing else
  pub four : number_of a.decline ≡ 0 → FourWords a.device
  pub registers : number_of a.decline ≡ 0 → (q : ℕ) → q < 11 → register_of a.device q ≡ register_of d q
  pub launched : number_of a.decline ≡ 0 → (q : ℕ) → 1 < q → q < 8 → launched_of a.device q ≡ launched_of d q
  pub step : number_of a.decline ≡ 0 → a.device.step ≡ d.step

pub record RegisterReadsFixed : Type 0 where
  pub meets : (g : Geometry) (d : Device) (r : ℕ) → FourWords d → RegisterReadSentences g d r (register_read_of g d r)
  pub fixes : (g : Geometry) (d : Device) (r : ℕ) → FourWords d → (a : RegisterRead) → RegisterReadSentences g d r a → a ≡ register_read_of g d r
