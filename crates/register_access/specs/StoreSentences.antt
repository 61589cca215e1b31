-- "Registers" and the launch, sentence by sentence: what a store answers and leaves, and that the sentences fix it. Assumes nothing.
use Rattle.std.specs.Prelude.{ℕ, ◌%◌, ◌≤◌, ◌<◌, ◌≡◌, Bool, true, false, not, ◌&&◌, ◌||◌, [], ◌⊎◌, eqb, leb}
use Rattle.words.specs.Word.{pick, bit}
use Rattle.words.specs.Decline.{number_of}
use Rattle.geometry.specs.declared.banks.Geometry.{Geometry}
use Rattle.device.specs.declared.record.Device.{Device}
use Rattle.device.specs.Answer.{Answer}
use Rattle.device.specs.Record.{register_of}
use Rattle.device.specs.ByNumber.{launched_of, FourWords}
use Rattle.nvmop.specs.Failing.{Fails}
use Rattle.common_declines.specs.CommonDecline.{Usable, CommonDeclines}
use Rattle.register_access.specs.Store.{store_of}

-- "A store has form 0 plain, 1 clear, 2 set or 3 invert": bit k of the wanted value, by the old value and the one that is stored
abbrev pub wanted_bit : ℕ → ℕ → ℕ → ℕ → Bool
wanted_bit form old value k =
    pick (eqb form 0) (bit k value)
    (pick (eqb form 1) (bit k old && not (bit k value))
    (pick (eqb form 2) (bit k old || bit k value)
    (pick (bit k old) (not (bit k value)) (bit k value))))

-- ---- "each field takes it if its condition holds on the state before the store": bit k of a register, by the device before
abbrev pub wren : Device → Bool
wren d = bit 14 (register_of d 0)

abbrev pub key_open : Device → Bool
key_open d = eqb d.keystep 3

-- "WREN: always, by a launching store too. NVMOP: WREN = 0. PFSWAP, BFSWAP: WREN = 0, SWAPLOCK = 0, key open. WRERR and LVDERR: never. WR is never
-- cleared by a store"
abbrev pub con_takes : Device → ℕ → Bool
con_takes d k =
    eqb k 14
    || (not (wren d)
    && (leb k 3 || ((eqb k 7 || eqb k 6) && (not (bit 7 (register_of d 10)) && (not (bit 6 (register_of d 10)) && key_open d)))))

-- "NVMPWP, NVMBWP: key open; lock bits only fall; the fields under a lock bit need it to be 1."
abbrev pub pwp_takes : Device → ℕ → Bool
pwp_takes d k = key_open d && (bit 31 (register_of d 8) && (eqb k 31 || leb k 23))

abbrev pub bwp_takes : Device → ℕ → Bool
bwp_takes d k =
    key_open d
    && ((bit 15 (register_of d 9) && (eqb k 15 || (leb 8 k && leb k 12)))
    || (bit 7 (register_of d 9) && (eqb k 7 || leb k 4)))

-- "NVMCON2: NVMWS, NVMLPRD, NVMCRD, NVMVRD need the key; SWAPLOCK needs SWAPLOCK other than 3. Fields given no condition always take the wanted
-- value.": NVMERS 31 to 28, NVMRETRY 9 to 8
abbrev pub con2_takes : Device → ℕ → Bool
con2_takes d k =
    (leb 28 k && leb k 31)
    || ((eqb k 9 || eqb k 8)
    || ((key_open d && ((leb 16 k && leb k 20) || (eqb k 15 || (eqb k 13 || eqb k 12))))
    || ((eqb k 7 || eqb k 6) && not (bit 7 (register_of d 10) && bit 6 (register_of d 10)))))

-- NVMADDR, NVMDATA0 to 3 and NVMSRCADDR have no condition, and NVMKEY "reads 0"
abbrev pub takes : Device → ℕ → ℕ → Bool
takes d r k =
    pick (eqb r 0) (con_takes d k)
    (pick (eqb r 1) false
    (pick (eqb r 8) (pwp_takes d k)
    (pick (eqb r 9) (bwp_takes d k)
    (pick (eqb r 10) (con2_takes d k) true))))

-- ---- which stores are accepted
-- "A register number above 10, a form above 3, or a form other than 0 for NVMKEY.": none of these
pub record HasForm (r form : ℕ) : Type 0 where
  pub register : r ≤ 10
  pub known : form ≤ 3
  pub key : r ≡ 1 → form ≡ 0

-- W-209: "While WR is set, stores to NVMADDR, NVMDATA0 to 3 and NVMSRCADDR are accepted."
abbrev pub MayStore : Device → ℕ → Type 0
MayStore d r = (bit 15 (register_of d 0) ≡ false) ⊎ ((2 ≤ r) × (r ≤ 7))

-- "wanted 1 with WREN = 1 and key open launches"
pub record LaunchingStore (d : Device) (r form value : ℕ) : Type 0 where
  pub con : r ≡ 0
  pub wanted : wanted_bit form (register_of d 0) value 15 ≡ true
  pub enabled : wren d ≡ true
  pub opened : d.keystep ≡ 3

-- ---- the launch, "In this order"
-- NVMOP 3 to 0, WRERR or LVDERR, and a bit of NVMCON that the store gives by itself
abbrev pub nvmop : Device → ℕ
nvmop d = register_of d 0 % 16

abbrev pub failed : Device → Bool
failed d = bit 13 (register_of d 0) || bit 12 (register_of d 0)

abbrev pub stored_bit : Device → ℕ → ℕ → ℕ → Bool
stored_bit d form value k = pick (con_takes d k) (wanted_bit form (register_of d 0) value k) (bit k (register_of d 0))

-- an operation that is tried: NVMOP 2 to 7 without an error before it; it fails by NVMADDR and PWP
pub record Tried (d : Device) : Type 0 where
  pub from : 2 ≤ nvmop d
  pub to : nvmop d ≤ 7
  pub no_error : failed d ≡ false

abbrev pub FailsNow : Geometry → Device → Type 0
FailsNow g d = Fails g (nvmop d) (register_of d 2) (register_of d 8 % 0x100_0000)

-- e is the device after a launching store, with its event
pub record Launch (g : Geometry) (d : Device) (form value : ℕ) (e : Device) (event : Bool) : Type 0 where
  -- "NVMOP 0: WRERR and LVDERR become 0, no event."
  pub clears : nvmop d ≡ 0 → (event ≡ false) × ((k : ℕ) → bit k (register_of e 0) ≡ pick (eqb k 13 || eqb k 12) false (stored_bit d form value k))
  -- "WRERR or LVDERR set: no launch, no event."
  pub errors : 0 < nvmop d → failed d ≡ true → (event ≡ false) × ((k : ℕ) → bit k (register_of e 0) ≡ stored_bit d form value k)
  -- "NVMOP 1 (word; ECC is always on) and 8 to 15 (house): no launch, no event."
  pub unknown : (nvmop d ≡ 1) ⊎ (8 ≤ nvmop d) → failed d ≡ false → (event ≡ false) × ((k : ℕ) → bit k (register_of e 0) ≡ stored_bit d form value k)
  -- "failure, meaning WRERR = 1, WR = 0, event"
  pub fails : Tried d → FailsNow g d → (event ≡ true) × ((k : ℕ) → bit k (register_of e 0) ≡ pick (eqb k 13) true (stored_bit d form value k))
  -- "Otherwise WR = 1, WRERR = 1, and steps begin."; W-209: launched are "all six registers as they stood before the launching store, unrounded"
  pub begins : Tried d → (FailsNow g d → ⊥)
      → (event ≡ false) × ((k : ℕ) → bit k (register_of e 0) ≡ pick (eqb k 15 || eqb k 13) true (stored_bit d form value k))
  pub launched : Tried d → (FailsNow g d → ⊥) → (q : ℕ) → 1 < q → q < 8 → launched_of e q ≡ register_of d q
  -- in the other cases nothing is
  pub kept : (Tried d → FailsNow g d) → (q : ℕ) → 1 < q → q < 8 → launched_of e q ≡ launched_of d q

-- ---- the store of a form and a value to register r: a is its answer
pub record StoreSentences (g : Geometry) (d : Device) (r form value : ℕ) (a : Answer) : Type 0 where
  -- 1 and 3; "4. A register number above 10, a form above 3, or a form other than 0 for NVMKEY."; "5. A store .. with WR = 1."
  pub declines : CommonDeclines g d [] 0 (number_of a.decline)
  pub no_form : Usable g d [] 0 → (HasForm r form → ⊥) → number_of a.decline ≡ 4
  pub running : Usable g d [] 0 → HasForm r form → (MayStore d r → ⊥) → number_of a.decline ≡ 5
  pub accepted : Usable g d [] 0 → HasForm r form → MayStore d r → number_of a.decline ≡ 0
  -- "device and lent memory keep their contents"; no event (ours)
  pub declined : (number_of a.decline ≡ 0 → ⊥) → (a.device ≡ d) × (a.event ≡ false)
  pub four : number_of a.decline ≡ 0 → FourWords a.device
  -- "each field takes it if its condition holds on the state before the store, and else stays"; no other register changes
  pub bits : number_of a.decline ≡ 0 → (LaunchingStore d r form value → ⊥)
      → (k : ℕ) → bit k (register_of a.device r) ≡ pick (takes d r k) (wanted_bit form (register_of d r) value k) (bit k (register_of d r))
  pub others : number_of a.decline ≡ 0 → (q : ℕ) → q < 11 → (q ≡ r → ⊥) → register_of a.device q ≡ register_of d q
  -- a store that does not launch gives no event and launches nothing
  pub quiet : number_of a.decline ≡ 0 → (LaunchingStore d r form value → ⊥)
      → (a.event ≡ false) × ((q : ℕ) → 1 < q → q < 8 → launched_of a.device q ≡ launched_of d q)
  pub launch : number_of a.decline ≡ 0 → LaunchingStore d r form value → Launch g d form value a.device a.event
  -- "Key: stores of 0, 0xAA996655, 0x556699AA to NVMKEY raise the key step to 1, 2, 3"
  pub key_first : number_of a.decline ≡ 0 → r ≡ 1 → value ≡ 0 → a.device.keystep ≡ 1
  pub key_second : number_of a.decline ≡ 0 → r ≡ 1 → d.keystep ≡ 1 → value ≡ 0xAA99_6655 → a.device.keystep ≡ 2
  pub key_third : number_of a.decline ≡ 0 → r ≡ 1 → d.keystep ≡ 2 → value ≡ 0x5566_99AA → a.device.keystep ≡ 3
  -- "A key store out of turn sets it to 1 if its value is 0, else to 0."
  pub key_out : number_of a.decline ≡ 0 → r ≡ 1 → (value ≡ 0 → ⊥) → (d.keystep ≡ 1 → value ≡ 0xAA99_6655 → ⊥)
      → (d.keystep ≡ 2 → value ≡ 0x5566_99AA → ⊥) → a.device.keystep ≡ 0
  -- "Any other accepted store .. sets it to 0 afterwards."
  pub shut : number_of a.decline ≡ 0 → (r ≡ 1 → ⊥) → a.device.keystep ≡ 0
  pub step : number_of a.decline ≡ 0 → a.device.step ≡ d.step

pub record StoresFixed : Type 0 where
  -- every store is so, and nothing else is
  pub meets : (g : Geometry) (d : Device) (r form value : ℕ) → FourWords d → StoreSentences g d r form value (store_of g d r form value)
  pub fixes : (g : Geometry) (d : Device) (r form value : ℕ) → FourWords d → (a : Answer) → StoreSentences g d r form value a → a ≡ store_of g d r form value
