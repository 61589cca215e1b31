-- The controller as one machine: a transition for each operation, of which each call's definition is an instance, and what holds of
-- every list of operations. Assumes nothing.
use Rattle.std.specs.Prelude.{ℕ, ◌+◌, ◌*◌, ◌^◌, ◌≤◌, ◌<◌, ◌≡◌, Bool, true, false, not, List, [], ◌∷◌, ◌⊎◌, eqb, length, take}
use Rattle.words.specs.Word.{pick}
use Rattle.words.specs.Quad.{word_at}
use Rattle.geometry.specs.declared.banks.Geometry.{Geometry}
use Rattle.geometry.specs.Banks.{bank_words_of, page_at}
use Rattle.words.specs.Decline.{Verdict, accepted_of}
use Rattle.map.specs.Windows.{quad_index_of}
use Rattle.device.specs.Registers.{within_of}
use Rattle.device.specs.Builders.{power_on}
use Rattle.device.specs.State.{State, state, bank_of}
use Rattle.device.specs.Record.{register_of, bfswap}
use Rattle.common_declines.specs.Possible.{possible_of}
use Rattle.register_access.specs.Store.{store_of, register_read_of}
use Rattle.start_up.specs.StartUp.{Access, start_up_stores, start_up_of}
use Rattle.flash.specs.Effect.{step_location_of}
use Rattle.flash.specs.Step.{step_of}
use Rattle.sequence.specs.Comparison.{Reason}
use Rattle.sequence.specs.Sequence.{sequence_index_of}
use Rattle.sequence.specs.Comparison.{reason_number_of, comparison, compare_of}
use Rattle.resets.specs.Reset.{reset_of, reset_reason_of}
use Rattle.reads.specs.Read.{second_at_of, flash_read_of}
use Rattle.controller.specs.Protection.{protected_page_of}

-- a store of a form and a value to a register; a register read; a flash read of an address, a step and a reset with their SRAM, a reset also
-- with its kind and its mask
pub data Operation : Type 0 where
  store : ℕ → ℕ → ℕ → Operation
  register_read : ℕ → Operation
  flash_read : List ℕ → ℕ → Operation
  step : List ℕ → Operation
  reset : List ℕ → ℕ → List ℕ → Operation

-- the answer to an operation
abbrev pub answer_of : Geometry → State → Operation → Verdict
answer_of g s (store r form value) = (store_of g s.device r form value).decline
answer_of g s (register_read r) = (register_read_of g s.device r).decline
answer_of g s (flash_read sram address) = (flash_read_of g s sram address).after.decline
answer_of g s (step sram) = (step_of g s sram).decline
answer_of g s (reset sram kind mask) = (reset_of g s sram kind mask).decline

-- the state after it
abbrev pub transition_of : Geometry → State → Operation → State
transition_of g s (store r form value) = state (store_of g s.device r form value).device s.one s.two
transition_of g s (register_read r) = state (register_read_of g s.device r).device s.one s.two
transition_of g s (flash_read sram address) = (flash_read_of g s sram address).after.state
transition_of g s (step sram) = (step_of g s sram).state
transition_of g s (reset sram kind mask) = (reset_of g s sram kind mask).state

-- the state after a list of operations
abbrev pub run_of : Geometry → State → List Operation → State
run_of g s [] = s
run_of g s (o ∷ rest) = run_of g (transition_of g s o) rest

-- each operation of a list is carried out, none declined, each in the state that those before it left
abbrev pub AllAccepted : Geometry → State → List Operation → Type 0
AllAccepted g s [] = Unit {0}
AllAccepted g s (o ∷ rest) = (accepted_of (answer_of g s o) ≡ true) × AllAccepted g (transition_of g s o) rest

-- stores in a row, as "the three key stores", as operations
abbrev pub store_operations : List Access → List Operation
store_operations [] = []
store_operations (a ∷ rest) = store a.register a.form a.value ∷ store_operations rest

-- a store brings a word of 32 bits, as every caller's does
abbrev pub BringsWord : Operation → Type 0
BringsWord (store r form value) = value < 2 ^ 32
BringsWord (register_read r) = Unit {0}
BringsWord (flash_read sram address) = Unit {0}
BringsWord (step sram) = Unit {0}
BringsWord (reset sram kind mask) = Unit {0}

abbrev pub BringWords : List Operation → Type 0
BringWords [] = Unit {0}
BringWords (o ∷ rest) = BringsWord o × BringWords rest

-- a possible device over two banks of the geometry's length
pub record Sound (g : Geometry) (s : State) : Type 0 where
  pub possible : possible_of g s.device ≡ true
  pub first : length s.one ≡ bank_words_of g
  pub other : length s.two ≡ bank_words_of g

-- word v lies outside quad q
abbrev pub Outside : ℕ → ℕ → Type 0
Outside q v = (v < 4 * q) ⊎ (4 * q + 4 ≤ v)

-- "A step does one quad": the bank in which the next step stands, bank 2 or not, and the quad of that bank
abbrev pub step_second_of : Geometry → State → Bool
step_second_of g s = second_at_of s.device (step_location_of g s.device)

abbrev pub step_quad_of : Geometry → State → ℕ
step_quad_of g s = quad_index_of g (step_location_of g s.device)

-- from s to t no word of either bank changes but those of the quad of the next step
pub record OneQuad (g : Geometry) (s t : State) : Type 0 where
  -- the bank in which the step does not stand is as before, every word and its length
  pub other_bank : bank_of t (not (step_second_of g s)) ≡ bank_of s (not (step_second_of g s))
  -- the bank in which it stands keeps every word outside the quad
  pub outside : (v : ℕ) → Outside (step_quad_of g s) v → word_at (bank_of t (step_second_of g s)) v ≡ word_at (bank_of s (step_second_of g s)) v

-- from s to t no bank changes its length, and no page of either bank that is protected in s changes
pub record Keeps (g : Geometry) (s t : State) : Type 0 where
  pub long : (second : Bool) → length (bank_of t second) ≡ length (bank_of s second)
  pub page : (second : Bool) (n : ℕ) → protected_page_of g s.device second n ≡ true
      → page_at g (bank_of t second) n ≡ page_at g (bank_of s second) n

-- what holds of the controller
pub record Controller : Type 1 where
  -- ---- every operation and every list of them
  -- every list of operations, declined ones too, from a possible device leaves one, and banks of unchanged length
  pub stays_sound : (g : Geometry) (s : State) → Sound g s → (l : List Operation) → BringWords l → Sound g (run_of g s l)
  -- so from power-on
  pub power_on_lem : (g : Geometry) (one two : List ℕ) → length one ≡ bank_words_of g → length two ≡ bank_words_of g → Sound g (state power_on one two)
  -- a declined operation changes nothing
  pub declined_same : (g : Geometry) (s : State) (o : Operation) → accepted_of (answer_of g s o) ≡ false → transition_of g s o ≡ s
  -- registers always read within their masks
  pub masked : (g : Geometry) (s : State) → Sound g s → (r : ℕ) → r < 11 → within_of r (register_of s.device r) ≡ true
  -- W-203: "a register read at key step 1 leaves the step at 1; at 2 or 3 it still closes the key"; at 0 it stays 0
  pub read_key : (g : Geometry) (s : State) (r : ℕ) → accepted_of (answer_of g s (register_read r)) ≡ true
      → let before = s.device.keystep in (transition_of g s (register_read r)).device.keystep ≡ pick (eqb before 1) 1 0
  -- ---- what is written
  -- a step and a tear change at most the one quad of the step
  pub one_quad : (g : Geometry) (s : State) (sram : List ℕ) → OneQuad g s (transition_of g s (step sram))
  pub one_quad_torn : (g : Geometry) (s : State) (sram : List ℕ) (kind : ℕ) (mask : List ℕ) → OneQuad g s (transition_of g s (reset sram kind mask))
  -- no operation changes a page that is protected at that time, nor the length of a bank
  pub keeps : (g : Geometry) (s : State) (o : Operation) → Keeps g s (transition_of g s o)
  -- ---- reset and start-up
  -- after a reset BFSWAP and the reason that it passes on are the comparison of the sequence words that the banks then hold
  pub compared : (g : Geometry) (s : State) (sram : List ℕ) (kind : ℕ) (mask : List ℕ) → accepted_of (answer_of g s (reset sram kind mask)) ≡ true
      → let t = transition_of g s (reset sram kind mask) in
      comparison (bfswap t.device) (reset_reason_of g s sram kind mask)
      ≡ compare_of (word_at t.one (sequence_index_of g)) (word_at t.two (sequence_index_of g))
  -- a declined reset, and no other, has compared nothing
  pub not_compared : (g : Geometry) (s : State) (sram : List ℕ) (kind : ℕ) (mask : List ℕ)
      → eqb (reason_number_of (reset_reason_of g s sram kind mask)) 4 ≡ not (accepted_of (answer_of g s (reset sram kind mask)))
  -- W-205: "With none valid the sign still maps bank 1, with its reason."
  pub none_valid : (g : Geometry) (s : State) (sram : List ℕ) (kind : ℕ) (mask : List ℕ) → reset_reason_of g s sram kind mask ≡ Reason.NoneValid
      → bfswap (transition_of g s (reset sram kind mask)).device ≡ false
  -- a start-up, a declined one too, is the run of its stores as operations
  pub start_up_runs : (g : Geometry) (s : State)
      → state (start_up_of g s.device).device s.one s.two ≡ run_of g s (store_operations (start_up_stores s.device))
  -- and of an accepted one none of them is declined
  pub start_up_accepted : (g : Geometry) (s : State) → accepted_of (start_up_of g s.device).decline ≡ true
      → AllAccepted g s (store_operations (start_up_stores s.device))
  -- it leaves a possible device
  pub start_up_sound : (g : Geometry) (s : State) → Sound g s → Sound g (state (start_up_of g s.device).device s.one s.two)
  -- and so does every prefix of its stores: a start-up that was cut
  pub start_up_cut : (g : Geometry) (s : State) → Sound g s → (n : ℕ) → Sound g (run_of g s (take n (store_operations (start_up_stores s.device))))
