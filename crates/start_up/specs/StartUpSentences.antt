-- "Start-up (house)", sentence by sentence, and that the sentences fix it. Assumes nothing.
use Rattle.std.specs.Prelude.{◌≡◌, true, false, [], ℕ}
use Rattle.words.specs.Word.{bit}
use Rattle.words.specs.Decline.{number_of}
use Rattle.geometry.specs.declared.banks.Geometry.{Geometry}
use Rattle.device.specs.declared.record.Device.{Device}
use Rattle.device.specs.Record.{register_of}
use Rattle.common_declines.specs.CommonDecline.{Usable, CommonDeclines}
use Rattle.register_access.specs.Store.{store_of}
use Rattle.start_up.specs.StartedUp.{StartedUp}
use Rattle.start_up.specs.StartUp.{start_up_of}

-- the device after a store to register r
abbrev pub stored_to : Geometry → ℕ → ℕ → ℕ → Device → Device
stored_to g r form value d = (store_of g d r form value).device

-- "the three key stores and NVMCON set 0x80"
abbrev pub swapped : Geometry → Device → Device
swapped g d = stored_to g 0 2 0x80 (stored_to g 1 0 0x5566_99AA (stored_to g 1 0 0xAA99_6655 (stored_to g 1 0 0 d)))

pub record StartUpSentences (g : Geometry) (d : Device) (a : StartedUp) : Type 0 where
  -- 1 and 3; "5. .. a start-up .. with WR = 1."
  pub declines : CommonDeclines g d [] 0 (number_of a.decline)
  pub running : Usable g d [] 0 → bit 15 (register_of d 0) ≡ true → number_of a.decline ≡ 5
  pub accepted : Usable g d [] 0 → bit 15 (register_of d 0) ≡ false → number_of a.decline ≡ 0
  pub declined : (number_of a.decline ≡ 0 → ⊥) → a.device ≡ d
  -- "if BFSWAP = 1, the three key stores and NVMCON set 0x80; always then NVMCON2 set 0xC0."
  pub swaps : number_of a.decline ≡ 0 → bit 6 (register_of d 0) ≡ true → a.device ≡ stored_to g 10 2 0xC0 (swapped g d)
  pub stays : number_of a.decline ≡ 0 → bit 6 (register_of d 0) ≡ false → a.device ≡ stored_to g 10 2 0xC0 d

pub record StartUpsFixed : Type 0 where
  pub meets : (g : Geometry) (d : Device) → StartUpSentences g d (start_up_of g d)
  pub fixes : (g : Geometry) (d : Device) (a : StartedUp) → StartUpSentences g d a → a ≡ start_up_of g d
