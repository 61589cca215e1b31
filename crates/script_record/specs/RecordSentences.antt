-- What each kind of record does, by the numbers of the paper. Assumes nothing.
use Rattle.std.specs.Prelude.{ℕ, ◌≡◌, List, [], ◌∷◌}
use Rattle.geometry.specs.declared.banks.Geometry.{Geometry}
use Rattle.device.specs.State.{State, state, after}
use Rattle.register_access.specs.Store.{store_of}
use Rattle.flash.specs.Step.{step_of}
use Rattle.resets.specs.Reset.{reset_of}
use Rattle.script_format.specs.declared.Record.{Record}
use Rattle.script_record.specs.Record.{record_after_of}

-- "kind (0 store, 1 step, 2 reset)"
pub record RecordSentences : Type 0 where
  pub store : (g : Geometry) (sram : List ℕ) (s : State) (r : Record) → r.kind ≡ 0
      → let b = store_of g s.device r.number r.form r.value in
      record_after_of g sram s r ≡ after b.decline (state b.device s.one s.two) b.event
  pub step : (g : Geometry) (sram : List ℕ) (s : State) (r : Record) → r.kind ≡ 1 → record_after_of g sram s r ≡ step_of g s sram
  -- "Resets use mask 0."
  pub reset : (g : Geometry) (sram : List ℕ) (s : State) (r : Record) → r.kind ≡ 2
      → record_after_of g sram s r ≡ reset_of g s sram r.number (0 ∷ 0 ∷ 0 ∷ 0 ∷ [])
