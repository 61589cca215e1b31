-- W-203, "Probes that poll": what a register read leaves of the device, and a list of operations with a probe's reads among them.
-- Assumes nothing.
use Rattle.std.specs.Prelude.{ℕ, ◌≤◌, ◌≡◌, true, List, [], ◌∷◌, ◌++◌}
use Rattle.geometry.specs.declared.banks.Geometry.{Geometry}
use Rattle.words.specs.Decline.{Verdict, accepted_of}
use Rattle.device.specs.declared.record.Device.{Device}
use Rattle.device.specs.Numbers.{NVMKEY, NVMCON2, plain, key1, key2, key3}
use Rattle.device.specs.Builders.{with_con}
use Rattle.device.specs.Record.{register_of, is_open}
use Rattle.device.specs.State.{State, state}
use Rattle.common_declines.specs.CommonDecline.{common_decline_of}
use Rattle.register_access.specs.Store.{store_decline_of, register_read_of}
use Rattle.start_up.specs.StartUp.{start_up_stores, start_up_of}
use Rattle.controller.specs.Controller.{Operation, answer_of, transition_of, run_of, store_operations}
use Rattle.controller.specs.Controller.Operation.{store, register_read}

-- an operation of the list's own, or the probe's read of a register
pub data Move : Type 0 where
  own : Operation → Move
  probe : ℕ → Move

-- every operation, and the list's own without the probe's
abbrev pub with_probe_of : List Move → List Operation
with_probe_of [] = []
with_probe_of (own o ∷ rest) = o ∷ with_probe_of rest
with_probe_of (probe r ∷ rest) = register_read r ∷ with_probe_of rest

abbrev pub without_probe_of : List Move → List Operation
without_probe_of [] = []
without_probe_of (own o ∷ rest) = o ∷ without_probe_of rest
without_probe_of (probe r ∷ rest) = without_probe_of rest

-- each of the probe's reads is met at key step 0 or 1
abbrev pub Polls : Geometry → State → List Move → Type 0
Polls g s [] = Unit {0}
Polls g s (own o ∷ rest) = Polls g (transition_of g s o) rest
Polls g s (probe r ∷ rest) = (s.device.keystep ≤ 1) × Polls g (transition_of g s (register_read r)) rest

-- the answers to a list of operations, and those to the list's own with the probe's reads among them
abbrev pub answers_of : Geometry → State → List Operation → List Verdict
answers_of g s [] = []
answers_of g s (o ∷ rest) = answer_of g s o ∷ answers_of g (transition_of g s o) rest

abbrev pub own_answers_of : Geometry → State → List Move → List Verdict
own_answers_of g s [] = []
own_answers_of g s (own o ∷ rest) = answer_of g s o ∷ own_answers_of g (transition_of g s o) rest
own_answers_of g s (probe r ∷ rest) = own_answers_of g (transition_of g s (register_read r)) rest

-- reads of these registers, and a key store
abbrev pub reads_of : List ℕ → List Operation
reads_of [] = []
reads_of (r ∷ rest) = register_read r ∷ reads_of rest

abbrev pub key_store : ℕ → Operation
key_store value = store NVMKEY plain value

-- the three key stores, with reads before the first and between it and the second
abbrev pub keys_among : List ℕ → List ℕ → List Operation
keys_among before between = reads_of before ++ (key_store key1 ∷ (reads_of between ++ (key_store key2 ∷ key_store key3 ∷ [])))

pub record Probes : Type 1 where
  -- "Our bench probe reads status whenever it likes": a read of a register that there is answers, and gives what it holds
  pub answered : (g : Geometry) (d : Device) (r : ℕ) → accepted_of (common_decline_of g d [] 0) ≡ true → r ≤ NVMCON2
      → (accepted_of (register_read_of g d r).decline ≡ true) × ((register_read_of g d r).value ≡ register_of d r)
  -- "a register read at key step 1 leaves the step at 1", and at 0 it stays 0: nothing of the device changes
  pub unchanged : (g : Geometry) (d : Device) (r : ℕ) → d.keystep ≤ 1 → (register_read_of g d r).device ≡ d
  -- "at 2 or 3 it still closes the key": the key step is 0, and the device with the key step that it had is the one before
  pub closes : (g : Geometry) (d : Device) (r : ℕ) → accepted_of (register_read_of g d r).decline ≡ true → 2 ≤ d.keystep
      → let after = (register_read_of g d r).device in (after.keystep ≡ 0) × (with_con after after.nvmcon.0 d.keystep after.step ≡ d)
  -- with such reads anywhere among them, operations leave what they leave without, and get the same answers
  pub unseen : (g : Geometry) (s : State) (l : List Move) → Polls g s l → run_of g s (with_probe_of l) ≡ run_of g s (without_probe_of l)
  pub unseen_answers : (g : Geometry) (s : State) (l : List Move) → Polls g s l → own_answers_of g s l ≡ answers_of g s (without_probe_of l)
  -- a start-up among them
  pub start_up_unseen : (g : Geometry) (s : State) (l : List Move) → without_probe_of l ≡ store_operations (start_up_stores s.device) → Polls g s l
      → run_of g s (with_probe_of l) ≡ state (start_up_of g s.device).device s.one s.two
  -- "Section 52.9 forbids other bus traffic only from the second key store on": where a key store is not declined the three of them open
  -- the key, however often a probe reads before the second, at any key step; and what follows them, as a launch, finds no difference
  pub opens : (g : Geometry) (s : State) → accepted_of (store_decline_of g s.device NVMKEY plain) ≡ true → (before between : List ℕ)
      → is_open (run_of g s (keys_among before between)).device ≡ true
  pub launches : (g : Geometry) (s : State) → accepted_of (store_decline_of g s.device NVMKEY plain) ≡ true → (before between : List ℕ)
      → (rest : List Operation) → run_of g s (keys_among before between ++ rest) ≡ run_of g s (keys_among [] [] ++ rest)
