-- "Start-up (house)": its stores in order, and the whole of it. Assumes nothing.
use Rattle.std.specs.Prelude.{ℕ, List, [], ◌∷◌, ◌++◌, Ok, Err}
use Rattle.words.specs.Word.{pick}
use Rattle.geometry.specs.declared.banks.Geometry.{Geometry}
use Rattle.words.specs.declared.decline.Decline.{Decline}
use Rattle.words.specs.Decline.{Verdict, accepted_of, first_of}
use Rattle.device.specs.declared.record.Device.{Device}
use Rattle.start_up.specs.StartedUp.{StartedUp}
use Rattle.device.specs.Record.{running, bfswap}
use Rattle.common_declines.specs.CommonDecline.{common_decline_of}
use Rattle.register_access.specs.Store.{store_of}
use Rattle.device.specs.Numbers.{NVMCON, NVMKEY, NVMCON2, plain, set, key1, key2, key3}
use Rattle.device.specs.Registers.{PFSWAP, SWAPLOCK}

-- a store by its register, form and value
pub record Access : Type 0 where
  pub register : ℕ
  pub form : ℕ
  pub value : ℕ

abbrev pub access : ℕ → ℕ → ℕ → Access
access r form value = record { register = r; form = form; value = value }

-- the device after stores in a row
abbrev pub stores_of : Geometry → Device → List Access → Device
stores_of g d [] = d
stores_of g d (a ∷ rest) = stores_of g (store_of g d a.register a.form a.value).device rest

-- "the three key stores"
abbrev pub key_stores : List Access
key_stores = access NVMKEY plain key1 ∷ access NVMKEY plain key2 ∷ access NVMKEY plain key3 ∷ []

abbrev pub unlocked_of : Geometry → Device → Device
unlocked_of g d = stores_of g d key_stores

-- "if BFSWAP = 1, the three key stores and NVMCON set 0x80"
abbrev pub swap_stores : Device → List Access
swap_stores d = pick (bfswap d) (key_stores ++ access NVMCON set PFSWAP ∷ []) []

abbrev pub swapped_of : Geometry → Device → Device
swapped_of g d = stores_of g d (swap_stores d)

-- "always then NVMCON2 set 0xC0". BFSWAP is judged once, at the beginning; a prefix of this list is a start-up that was cut
unfoldable pub start_up_stores : Device → List Access
start_up_stores d = swap_stores d ++ access NVMCON2 set SWAPLOCK ∷ []

-- declines 1, 3 and 5
unfoldable pub start_up_decline_of : Geometry → Device → Verdict
start_up_decline_of g d = first_of (common_decline_of g d [] 0) (pick (running d) (Err Decline.Running) (Ok tt))

unfoldable pub start_up_of : Geometry → Device → StartedUp
start_up_of g d =
    record {
      decline = start_up_decline_of g d;
      device = pick (accepted_of (start_up_decline_of g d)) (stores_of g d (start_up_stores d)) d;
    }
