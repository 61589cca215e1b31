-- Where an update stands: the invariant of a state at a place. An update is a row of blocks: the prologue, the pages that are erased, the
-- quads that are programmed. Each is a list of stores, then the steps of one operation, then an end. Nothing here speaks of the first start.
-- Assumes nothing.
use mathlib.Core.Path.{◌≡◌}
use mathlib.Core.Bool.{Bool, true, false}
use mathlib.Core.List.{List, [], ◌++◌}
use Prim.Native.Nat.{ℕ, ◌+◌, ◌*◌, ◌<◌}
use lib.Dec.{eqb}
use lib.ListN.{length, take, replicate}
use Rattle.words.specs.Word.{has_of}
use Rattle.words.specs.Quad.{word_at, put_quad, blank_quad}
use Rattle.geometry.specs.declared.banks.Geometry.{Geometry}
use Rattle.geometry.specs.Banks.{in_range_of, pages_of, page_quads_of, program_bytes_of, bank_words_of}
use Rattle.sequence.specs.Sequence.{sequence_quad_of, sequence_index_of, tseq_of, valid_of, next_sequence_of}
use Rattle.device.specs.declared.record.Device.{Device}
use Rattle.device.specs.Registers.{UBWPULOCK}
use Rattle.device.specs.Builders.{with_con, with_launched, with_address, with_data}
use Rattle.device.specs.Record.{bfswap, pfswap, no_operands}
use Rattle.protection.specs.Protection.{pwp_of}
use Rattle.start_up.specs.StartUp.{Access, stores_of}
use Rattle.register_access.proofs.AcceptedLaws.{AtRest}
use Rattle.controller.specs.Controller.{Sound}
use Rattle.update.specs.declared.actions.Action.{Action}
use Rattle.update.specs.declared.actions.Action.TheVariants.{Step}
use Rattle.update.specs.Actions.{stored, clearing_stores, unprotecting_stores, end_stores, page_stores, quad_stores, upper_address_of}
use Rattle.update.specs.Actions.{erased_page_of, programmed_quad_of, new_quad_of, bank_quads_of, total_of, page_actions, quad_actions, programming_from}
use Rattle.update.specs.PowerFail.{Words, Position}
use Rattle.update.proofs.WordLaws.{Loses}
use Rattle.update.proofs.HeadLaws.{Between, run_con, enabled_con, launched_device}
use Rattle.update.proofs.BankLaws.{Erased, Programmed}
use Rattle.update.proofs.PlacedLaws.{placed}

-- what stays through an update: the geometry, the image, and the old bank, which is bank 2 where b; its sequence word is valid and not the
-- last
pub record Fixed : Type 0 where
  pub g : Geometry
  pub image : List ℕ
  pub b : Bool
  pub old : List ℕ
  pub listed : in_range_of g ≡ true
  pub image_long : length image ≡ bank_words_of g
  pub image_words : Words image
  pub old_long : length old ≡ bank_words_of g
  pub old_words : Words old
  pub valid : valid_of (word_at old (sequence_index_of g)) ≡ true
  pub more : eqb (tseq_of (word_at old (sequence_index_of g))) 65535 ≡ false

-- the prologue, page i of the erasing, quad i of the programming
pub data Block : Type 0 where
  prologue : Block
  page : ℕ → Block
  quad : ℕ → Block

module _ (u : Fixed) where
  open u use {g, image, b, old}

  abbrev pub old_word : ℕ
  old_word = word_at old (sequence_index_of g)

  -- the quads of the new bank in their order, and the whole of it
  abbrev pub new_words : ℕ → List ℕ
  new_words i = new_quad_of g image old_word (programmed_quad_of g i)

  abbrev pub new_bank : List ℕ
  new_bank = put_quad image (sequence_quad_of g) (next_sequence_of old_word)

  -- ---- a block: whether the update has it, its first place, its stores, its steps and its end
  abbrev pub Has : Block → Type 0
  Has prologue = Unit {0}
  Has (page i) = i < pages_of g
  Has (quad i) = i < bank_quads_of g

  abbrev pub place_of : Block → ℕ
  place_of prologue = 0
  place_of (page i) = 12 + i * page_actions g
  place_of (quad i) = programming_from g + i * quad_actions

  abbrev pub stores_in : Block → List Access
  stores_in prologue = clearing_stores ++ unprotecting_stores
  stores_in (page i) = page_stores g (erased_page_of g i)
  stores_in (quad i) = quad_stores g (programmed_quad_of g i) (new_words i)

  abbrev pub steps_in : Block → ℕ
  steps_in prologue = 0
  steps_in (page i) = page_quads_of g
  steps_in (quad i) = 1

  abbrev pub end_in : Block → List Access
  end_in prologue = []
  end_in (page i) = end_stores
  end_in (quad i) = end_stores

  abbrev pub actions_in : Block → List Action
  actions_in k = stored (stores_in k) ++ (replicate (steps_in k) Step ++ stored (end_in k))

  -- its operation: NVMOP, the device with its address and data, and what step n of it writes, where
  abbrev pub op_in : Block → ℕ
  op_in prologue = 0
  op_in (page i) = 4
  op_in (quad i) = 2

  abbrev pub loaded_in : Block → Device → Device
  loaded_in prologue d = d
  loaded_in (page i) d = with_address d (upper_address_of g (erased_page_of g i * page_quads_of g))
  loaded_in (quad i) d = with_data (with_address d (upper_address_of g (programmed_quad_of g i))) (new_words i)

  abbrev pub quad_in : Block → ℕ → ℕ
  quad_in prologue n = 0
  quad_in (page i) n = erased_page_of g i * page_quads_of g + n
  quad_in (quad i) n = programmed_quad_of g i

  abbrev pub words_in : Block → List ℕ
  words_in prologue = blank_quad
  words_in (page i) = blank_quad
  words_in (quad i) = new_words i

  -- while its steps run, n of them being done, and after the last
  abbrev pub run_in : Block → Device → ℕ → Device
  run_in k d n = launched_device (loaded_in k d) (run_con b (op_in k)) n

  abbrev pub done_in : Block → Device → Device
  done_in k d = with_con (with_launched (loaded_in k d) no_operands) (enabled_con b (op_in k)) 0 0

  -- ---- the device at the beginning of a block: as an accepted start finds it, or between two blocks
  pub record Begins (d : Device) : Type 0 where
    pub rest : AtRest g d
    pub boot : bfswap d ≡ b
    pub program : pfswap d ≡ b
    pub lock : has_of d.nvmbwp.0 UBWPULOCK ≡ true
    pub reach : pwp_of d < program_bytes_of g
    pub quad : length d.nvmdata ≡ 4

  abbrev pub DeviceIn : Block → Device → Type 0
  DeviceIn prologue d = Begins d
  DeviceIn (page i) d = Between g b d
  DeviceIn (quad i) d = Between g b d

  -- ---- the new bank after n steps of a block
  -- it has words of 32 bits and loses the comparison, and goes on losing while its sequence word only gains ones
  pub record Losing (new : List ℕ) : Type 0 where
    pub words : Words new
    pub loses : Loses b old_word (word_at new (sequence_index_of g))

  abbrev pub BankIn : Block → ℕ → List ℕ → Type 0
  BankIn prologue n new = Losing new
  BankIn (page i) n new = Losing new × Erased g new (i * page_quads_of g + n)
  BankIn (quad i) n new = Words new × Programmed g image old_word new (i + n)

  -- ---- within a block that begins with the device `first`: in its stores, in its steps, at its end; or at the total
  pub record Within (block : Block) (first : Device) (steps : ℕ) (new : List ℕ) : Type 0 where
    pub has : Has block
    pub begins : DeviceIn block first
    pub bank : BankIn block steps new

  pub record Storing (d : Device) (new : List ℕ) (place : ℕ) : Type 0 where
    pub block : Block
    pub first : Device
    pub within : Within block first 0 new
    pub count : ℕ
    pub few : count < length (stores_in block)
    pub here : place ≡ place_of block + count
    pub device : d ≡ stores_of g first (take count (stores_in block))

  pub record Stepping (d : Device) (new : List ℕ) (place : ℕ) : Type 0 where
    pub block : Block
    pub first : Device
    pub count : ℕ
    pub within : Within block first count new
    pub few : count < steps_in block
    pub here : place ≡ place_of block + (length (stores_in block) + count)
    pub device : d ≡ run_in block first count

  pub record Ending (d : Device) (new : List ℕ) (place : ℕ) : Type 0 where
    pub block : Block
    pub first : Device
    pub within : Within block first (steps_in block) new
    pub ran : 0 < steps_in block
    pub here : place ≡ place_of block + (length (stores_in block) + steps_in block)
    pub device : d ≡ done_in block first

  pub record Finished (d : Device) (new : List ℕ) (place : ℕ) : Type 0 where
    pub rest : AtRest g d
    pub whole : new ≡ new_bank
    pub here : place ≡ total_of g

  pub data Phase (d : Device) (new : List ℕ) (place : ℕ) : Type 0 where
    storing : Storing d new place → Phase d new place
    stepping : Stepping d new place → Phase d new place
    ending : Ending d new place → Phase d new place
    finished : Finished d new place → Phase d new place

  -- the invariant
  pub record Stands (p : Position) : Type 0 where
    pub device : Device
    pub new : List ℕ
    pub state : p.state ≡ placed b device old new
    pub sound : Sound g p.state
    pub quad : length device.nvmdata ≡ 4
    pub phase : Phase device new p.place
