-- The hypotheses of LoadEarly and of Probes are met, on a sign with one page of each kind. Assumes nothing.
use Rattle.std.specs.Prelude.{◌≡◌, true, List, [], ◌∷◌, replicate}
use Rattle.words.specs.Word.{all_ones}
use Rattle.words.specs.Decline.{number_of, accepted_of}
use Rattle.geometry.specs.declared.banks.Geometry.{Geometry}
use Rattle.device.specs.Numbers.{NVMCON, NVMADDR, plain, set, key1, key2, key3, quad_program}
use Rattle.device.specs.Registers.{WR, WREN}
use Rattle.device.specs.Builders.{power_on}
use Rattle.device.specs.Record.{running}
use Rattle.device.specs.State.{State, state}
use Rattle.register_access.specs.Store.{register_read_of}
use Rattle.controller.specs.Controller.{Operation, answer_of, transition_of, run_of}
use Rattle.controller.specs.Controller.Operation.{store, register_read}
use Rattle.controller.specs.Probes.{key_store}
use Rattle.controller.specs.Loads.{Loads}
use Rattle.controller.specs.Loads.Move.{work, load}

abbrev pub small_sign : Geometry
small_sign = record { q = 1; b = 1; p = 1 }

-- after power-on, over erased banks
abbrev pub at_rest : State
at_rest = state power_on (replicate 64 all_ones) (replicate 64 all_ones)

-- the stores of 01's worked example, which launch the programming of a quad
abbrev pub launching : List Operation
launching =
    store NVMADDR plain 0x1D00_0080 ∷ store NVMCON plain quad_program ∷ store NVMCON set WREN
    ∷ key_store key1 ∷ key_store key2 ∷ key_store key3 ∷ store NVMCON set WR ∷ []

abbrev pub at_work : State
at_work = run_of small_sign at_rest launching

-- two of the three keys
abbrev pub half_open : State
half_open = run_of small_sign at_rest (key_store key1 ∷ key_store key2 ∷ [])

pub record Examples : Type 0 where
  -- LoadEarly: while WR is set a store to NVMADDR is accepted, with a step after it, and one to NVMCON is declined
  pub runs : running at_work.device ≡ true
  pub loads : Loads small_sign at_work (load NVMADDR plain 0x1D00_0000 ∷ work [] ∷ [])
  pub early : number_of (answer_of small_sign at_work (store NVMADDR plain 0x1D00_0000)) ≡ 0
  pub other : number_of (answer_of small_sign at_work (store NVMCON plain 0)) ≡ 5
  -- Probes: a register read that is met at key step 2, is answered, and closes the key
  pub half_open_lem : half_open.device.keystep ≡ 2
  pub answered : accepted_of (register_read_of small_sign half_open.device NVMCON).decline ≡ true
  pub closed : (transition_of small_sign half_open (register_read NVMCON)).device.keystep ≡ 0
