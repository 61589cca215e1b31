-- What a record of a script does. Assumes nothing.
use Rattle.std.specs.Prelude.{ℕ, List, [], ◌∷◌, eqb}
use Rattle.words.specs.Word.{pick}
use Rattle.geometry.specs.declared.banks.Geometry.{Geometry}
use Rattle.register_access.specs.Store.{store_of}
use Rattle.flash.specs.Step.{step_of}
use Rattle.resets.specs.Reset.{reset_of}
use Rattle.device.specs.State.{State, After, answered_of}
use Rattle.script_format.specs.declared.Record.{Record}

-- "Resets use mask 0."
abbrev pub mask_zero : List ℕ
mask_zero = 0 ∷ 0 ∷ 0 ∷ 0 ∷ []

-- everything after a record: "kind (0 store, 1 step, 2 reset)". A kind above 2 is none of a script's, and does as 2 (ours)
unfoldable pub record_after_of : Geometry → List ℕ → State → Record → After
record_after_of g sram s r =
    pick (eqb r.kind 0) (answered_of s (store_of g s.device r.number r.form r.value))
    (pick (eqb r.kind 1) (step_of g s sram)
    (reset_of g s sram r.number mask_zero))
