-- A record does what the paper says of its kind. Assumes nothing.
use mathlib.Core.Path.{◌≡◌}
use mathlib.Core.List.{List, [], ◌∷◌}
use Prim.Native.Nat.{ℕ}
use Rattle.geometry.specs.declared.banks.Geometry.{Geometry}
use Rattle.register_access.specs.Store.{store_of}
use Rattle.flash.specs.Step.{step_of}
use Rattle.resets.specs.Reset.{reset_of}
use Rattle.device.specs.State.{State, answered_of}
use Rattle.script_format.specs.declared.Record.{Record}
use Rattle.script_record.specs.Record.{record_after_of}
use Rattle.script_record.specs.RecordSentences.{RecordSentences}

module _ (g : Geometry) (sram : List ℕ) (s : State) (r : Record) where
  stores : r.kind ≡ 0 → record_after_of g sram s r ≡ answered_of s (store_of g s.device r.number r.form r.value)
  unfolding record_after_of
  stores e = rw e

  steps : r.kind ≡ 1 → record_after_of g sram s r ≡ step_of g s sram
  unfolding record_after_of
  steps e = rw e

  resets : r.kind ≡ 2 → record_after_of g sram s r ≡ reset_of g s sram r.number (0 ∷ 0 ∷ 0 ∷ 0 ∷ [])
  unfolding record_after_of
  resets e = rw e

pub record_sentences : RecordSentences
record_sentences = record { store = stores; step = steps; reset = resets }
