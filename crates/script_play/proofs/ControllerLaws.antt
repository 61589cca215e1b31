-- A play is a run of the controller's machine, so that what holds of every list of operations holds of every script.
-- Assumes nothing.
use mathlib.Core.Path.{◌≡◌, refl}
use mathlib.Core.Bool.{Bool, true, false}
use mathlib.Core.List.{List, [], ◌∷◌, ◌++◌}
use Prim.Native.Nat.{ℕ, zero, suc, ◌+◌, ◌*◌, ◌^◌, ◌<◌}
use native.Mathlib.Omega.{arith}
use lib.Dec.{eqb}
use Rattle.words.proofs.PickLaws.{pick_both}
use Rattle.geometry.specs.declared.banks.Geometry.{Geometry}
use Rattle.device.specs.State.{State}
use Rattle.controller.specs.Controller.{Operation, answer_of, transition_of, run_of, BringsWord, BringWords, Sound}
use Rattle.controller.proofs.RunLaws.{run_append}
use Rattle.controller.proofs.Controller.{controller}
use Rattle.script_format.specs.declared.Record.{Record}
use Rattle.script_format.specs.Records.{Bytes, value_of, record_of}
use Rattle.script_record.specs.Record.{record_after_of}
use Rattle.script_play.specs.Play.{state_of, operation_of, operations_of}

pub record_runs : (g : Geometry) (sram : List ℕ) (s : State) (r : Record) → (record_after_of g sram s r).state ≡ transition_of g s (operation_of sram r)
unfolding record_after_of
record_runs g sram s r = go (eqb r.kind 0) refl (eqb r.kind 1) refl
  where
    go : (a : Bool) → eqb r.kind 0 ≡ a → (b : Bool) → eqb r.kind 1 ≡ b
        → (record_after_of g sram s r).state ≡ transition_of g s (operation_of sram r)
    go true ea b eb = rw ea
    go false ea true eb = rw (ea, eb)
    go false ea false eb = rw (ea, eb)

-- and its answer is that of the operation
pub record_declines : (g : Geometry) (sram : List ℕ) (s : State) (r : Record) → (record_after_of g sram s r).decline ≡ answer_of g s (operation_of sram r)
unfolding record_after_of
record_declines g sram s r = go (eqb r.kind 0) refl (eqb r.kind 1) refl
  where
    go : (a : Bool) → eqb r.kind 0 ≡ a → (b : Bool) → eqb r.kind 1 ≡ b
        → (record_after_of g sram s r).decline ≡ answer_of g s (operation_of sram r)
    go true ea b eb = rw ea
    go false ea true eb = rw (ea, eb)
    go false ea false eb = rw (ea, eb)

pub play_runs : (g : Geometry) (sram : List ℕ) (s : State) (script : List ℕ) (i : ℕ)
    → state_of g sram s script i ≡ run_of g s (operations_of sram script i)
play_runs g sram s script zero = refl
play_runs g sram s script (suc i) =
    rw (
      run_append g s (operations_of sram script i) (operation_of sram (record_of script i) ∷ []),
      ← play_runs g sram s script i,
    ) (record_runs g sram (state_of g sram s script i) (record_of script i))

-- ---- the play of a script of bytes brings words of 32 bits

value_word : (script : List ℕ) → Bytes script → (i : ℕ) → value_of script i < 2 ^ 32
unfolding value_of
value_word script bytes i = omega (arith, bytes (8 * i + 4), bytes (8 * i + 5), bytes (8 * i + 6), bytes (8 * i + 7))

brings_append : (first : List Operation) (o : Operation) → BringWords first → BringsWord o → BringWords (first ++ (o ∷ []))
brings_append [] o words word = (word, tt)
brings_append (p ∷ first) o (word₀, words) word = (word₀, brings_append first o words word)

script_words : (sram script : List ℕ) → Bytes script → (i : ℕ) → BringWords (operations_of sram script i)
unfolding record_of
script_words sram script bytes zero = tt
script_words sram script bytes (suc i) =
    let r = record_of script i in
    brings_append (operations_of sram script i) (operation_of sram r) (script_words sram script bytes i)
    (pick_both BringsWord (eqb r.kind 0) (value_word script bytes i) (pick_both BringsWord (eqb r.kind 1) tt tt))

-- so from a possible device over banks of the geometry's length every play leaves one
pub play_sound : (g : Geometry) (sram : List ℕ) (s : State) (script : List ℕ) → Bytes script → Sound g s → (i : ℕ) → Sound g (state_of g sram s script i)
play_sound g sram s script bytes sound i =
    rw (play_runs g sram s script i) (controller.stays_sound g s sound (operations_of sram script i) (script_words sram script bytes i))
