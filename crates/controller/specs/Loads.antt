-- W-209, "Load the next target early": stores to registers 2 to 7 while an operation runs, and a device as 01 has it. Assumes nothing.
use Rattle.std.specs.Prelude.{ℕ, ◌+◌, ◌*◌, ◌/◌, ◌%◌, ◌^◌, ◌<◌, ◌≡◌, Bool, true, false, ◌&&◌, List, [], ◌∷◌, eqb, leb, length}
use Rattle.words.specs.Word.{pick}
use Rattle.words.specs.Decline.{Verdict, number_of, accepted_of}
use Rattle.geometry.specs.declared.banks.Geometry.{Geometry}
use Rattle.geometry.specs.Banks.{one_of, in_range_of}
use Rattle.device.specs.declared.record.Device.{Device}
use Rattle.device.specs.declared.record.Operands.{Operands}
use Rattle.device.specs.Builders.{power_on, with_operands}
use Rattle.device.specs.Numbers.{NVMCON, NVMADDR, NVMDATA0, NVMDATA1, NVMDATA2, NVMDATA3, NVMSRCADDR}
use Rattle.device.specs.Record.{register_of, running, op_of, operands_of, no_operands}
use Rattle.device.specs.State.{State, state}
use Rattle.nvmop.specs.Operation.{begins_of, launched_begins_of}
use Rattle.register_fields.specs.Fields.{wanted_of}
use Rattle.common_declines.specs.Possible.{launched_fits_of, nothing_launched_of, possible_of}
use Rattle.register_access.specs.Store.{has_form_of, loads_of, store_of}
use Rattle.reads.specs.Read.{flash_read_of}
use Rattle.flash.specs.Effect.{step_at_of, step_location_of, source_word_of, source_fits_of}
use Rattle.flash.specs.Step.{step_of}
use Rattle.resets.specs.Reset.{reset_reason_of}
use Rattle.controller.specs.Controller.{Operation, answer_of, transition_of, run_of, BringsWord}
use Rattle.controller.specs.Controller.Operation.{store, register_read, flash_read, step, reset}

-- ---- steps with stores to registers 2 to 7 between them
-- a step with its SRAM; a store of a form and a value to a register
pub data Move : Type 0 where
  work : List ℕ → Move
  load : ℕ → ℕ → ℕ → Move

abbrev pub moves_of : List Move → List Operation
moves_of [] = []
moves_of (work sram ∷ rest) = step sram ∷ moves_of rest
moves_of (load r form value ∷ rest) = store r form value ∷ moves_of rest

-- the steps alone
abbrev pub works_of : List Move → List Move
works_of [] = []
works_of (work sram ∷ rest) = work sram ∷ works_of rest
works_of (load r form value ∷ rest) = works_of rest

-- each of the stores is to one of registers 2 to 7, of a word of 32 bits, and is met while an operation runs
abbrev pub Loads : Geometry → State → List Move → Type 0
Loads g s [] = Unit {0}
Loads g s (work sram ∷ rest) = Loads g (transition_of g s (step sram)) rest
Loads g s (load r form value ∷ rest) =
    (loads_of r ≡ true) × ((value < 2 ^ 32) × ((running s.device ≡ true) × Loads g (transition_of g s (store r form value)) rest))

-- the answers and events of the steps
pub record Given : Type 0 where
  pub decline : Verdict
  pub event : Bool

abbrev pub given_of : Geometry → State → List Move → List Given
given_of g s [] = []
given_of g s (work sram ∷ rest) =
    let a = step_of g s sram in record { decline = a.decline; event = a.event } ∷ given_of g a.state rest
given_of g s (load r form value ∷ rest) = given_of g (transition_of g s (store r form value)) rest

-- t is s but for registers 2 to 7: the same banks, NVMCON, step number and all else
pub record ButLoaded (s t : State) : Type 0 where
  pub operands : Operands
  pub same : t ≡ state (with_operands s.device operands) s.one s.two

-- ---- as 01 has it: what was launched is what the registers hold, and nothing at rest
abbrev pub AsLaunched : Device → Type 0
AsLaunched d = d.launched ≡ pick (running d) (operands_of d) no_operands

-- the operation that only W-209 accepts
abbrev pub loads_while_running : Device → Operation → Bool
loads_while_running d (store r form value) = running d && loads_of r
loads_while_running d (register_read r) = false
loads_while_running d (flash_read sram address) = false
loads_while_running d (step sram) = false
loads_while_running d (reset sram kind mask) = false

-- by the registers, as 01 says it: where the next step stands, whether steps begin, a quad's data, a row's data
pub record ByRegisters (g : Geometry) (d : Device) : Type 0 where
  pub location : step_location_of g d ≡ step_at_of g (op_of d) d.nvmaddr d.step
  pub target : launched_begins_of g d ≡ begins_of g d
  pub quad : d.launched.nvmdata ≡ d.nvmdata
  pub row : source_word_of d ≡ (d.nvmsrcaddr + 16 * d.step) / 4
  pub fits : (sram : ℕ) → source_fits_of d sram ≡ (eqb (d.nvmsrcaddr % 4) 0 && leb ((d.nvmsrcaddr + 16 * d.step) / 4 + 4) sram)

pub record LoadEarly : Type 1 where
  -- "While WR is set, stores to NVMADDR, NVMDATA0 to 3 and NVMSRCADDR are accepted." "Decline 5 remains for all other stores"
  pub six : (r : ℕ) → loads_of r ≡ one_of (NVMADDR ∷ NVMDATA0 ∷ NVMDATA1 ∷ NVMDATA2 ∷ NVMDATA3 ∷ NVMSRCADDR ∷ []) r
  pub answers : (g : Geometry) (s : State) (r form value : ℕ) → in_range_of g ≡ true → possible_of g s.device ≡ true → running s.device ≡ true
      → has_form_of r form ≡ true → number_of (answer_of g s (store r form value)) ≡ pick (loads_of r) 0 5
  -- such a store changes its register alone, without an event
  pub loaded : (g : Geometry) (s : State) (r form value : ℕ) → loads_of r ≡ true → running s.device ≡ true → length s.device.nvmdata ≡ 4
      → accepted_of (answer_of g s (store r form value)) ≡ true
      → let t = transition_of g s (store r form value) in
      ButLoaded s t × ((register_of t.device r ≡ wanted_of form (register_of s.device r) value)
      × ((q : ℕ) → (r ≡ q → ⊥) → register_of t.device q ≡ register_of s.device q))
  pub no_event : (g : Geometry) (d : Device) (r form value : ℕ) → loads_of r ≡ true → (store_of g d r form value).event ≡ false
  -- "The running operation uses the address, data and source it was launched with": with such stores between them, steps leave what they
  -- leave without but for these registers, and get the same answers and events, aborts too; so does a flash read after them
  pub unseen : (g : Geometry) (s : State) (l : List Move) → Loads g s l → ButLoaded (run_of g s (moves_of (works_of l))) (run_of g s (moves_of l))
  pub unseen_answers : (g : Geometry) (s : State) (l : List Move) → Loads g s l → given_of g s l ≡ given_of g s (works_of l)
  pub unseen_read : (g : Geometry) (s : State) (l : List Move) → Loads g s l → (sram : List ℕ) (address : ℕ)
      → let loaded = flash_read_of g (run_of g s (moves_of l)) sram address in
      let without = flash_read_of g (run_of g s (moves_of (works_of l))) sram address in
      ButLoaded without.after.state loaded.after.state
      × ((loaded.after.decline ≡ without.after.decline) × ((loaded.after.event ≡ without.after.event) × (loaded.word ≡ without.word)))
  -- "Any reset tears by the launched ones"
  pub torn : (g : Geometry) (s : State) (l : List Move) → Loads g s l → (sram : List ℕ) (kind : ℕ) (mask : List ℕ)
      → let without = run_of g s (moves_of (works_of l)) in
      let loaded = run_of g s (moves_of l) in
      let o = reset sram kind mask in
      ButLoaded (transition_of g without o) (transition_of g loaded o)
      × ((answer_of g loaded o ≡ answer_of g without o) × (reset_reason_of g loaded sram kind mask ≡ reset_reason_of g without sram kind mask))
  -- "a non-power-on reset keeps the new register values", and a power-on gives the reset values
  pub keeps : (g : Geometry) (s : State) (sram : List ℕ) (kind : ℕ) (mask : List ℕ) → (kind ≡ 0 → ⊥)
      → operands_of (transition_of g s (reset sram kind mask)).device ≡ operands_of s.device
  pub forgets : (g : Geometry) (s : State) (sram mask : List ℕ) → accepted_of (answer_of g s (reset sram 0 mask)) ≡ true
      → operands_of (transition_of g s (reset sram 0 mask)).device ≡ operands_of power_on
  -- "the new values serve the next launch": a step leaves the registers, and a launch takes what they hold
  pub left : (g : Geometry) (s : State) (sram : List ℕ) → operands_of (transition_of g s (step sram)).device ≡ operands_of s.device
  pub launches : (g : Geometry) (s : State) (form value : ℕ) → let t = transition_of g s (store NVMCON form value) in
      running s.device ≡ false → running t.device ≡ true → t.device.launched ≡ operands_of s.device
  -- "3 judges the launched target": no value of these registers makes a device possible or impossible
  pub judged : (g : Geometry) (d : Device) (o : Operands) → launched_fits_of o ≡ true → launched_fits_of (operands_of d) ≡ true
      → possible_of g (with_operands d o) ≡ possible_of g d
  -- "all 0 while WR is 0, else decline 3": so after the last step, an abort, a reset, a launch that fails or does not begin
  pub cleared : (g : Geometry) (s : State) (o : Operation) → possible_of g s.device ≡ true → BringsWord o
      → let d = (transition_of g s o).device in running d ≡ false → nothing_launched_of d.launched ≡ true
  -- what 01 accepts keeps the device as launched, from power-on on
  pub power_on_lem : AsLaunched power_on
  pub stays : (g : Geometry) (s : State) (o : Operation) → AsLaunched s.device → loads_while_running s.device o ≡ false
      → AsLaunched (transition_of g s o).device
  pub restored : (g : Geometry) (s : State) (sram : List ℕ) (kind : ℕ) (mask : List ℕ) → accepted_of (answer_of g s (reset sram kind mask)) ≡ true
      → AsLaunched (transition_of g s (reset sram kind mask)).device
  -- and there steps, tear, decline 3 and the bank that a read asks about are 01's, by the registers
  pub by_registers : (g : Geometry) (d : Device) → AsLaunched d → running d ≡ true → ByRegisters g d
