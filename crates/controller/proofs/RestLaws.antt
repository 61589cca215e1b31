-- A store that does not launch leaves a device at rest: WR is 0 before it, no store sets WR but by a launch, and the device stays
-- possible. So of a row of such stores none is declined.
-- Assumes nothing.
use mathlib.Core.Path.{◌≡◌, refl, ap, ◌∙◌}
use mathlib.Core.Bool.{Bool, true, false, ◌&&◌}
use mathlib.Core.List.{List, [], ◌∷◌}
use Prim.Native.Nat.{ℕ, ◌^◌, ◌<◌}
use lib.Dec.{eqb}
use Rattle.words.specs.Word.{pick, bit, has_of, merge_of}
use Rattle.words.proofs.PickLaws.{pick_both}
use Rattle.words.proofs.BitLaws.{bit-or, bit-xor, clear_bit, has_bit}
use Rattle.geometry.specs.declared.banks.Geometry.{Geometry}
use Rattle.device.specs.declared.record.Device.{Device}
use Rattle.device.specs.Registers.{WR}
use Rattle.device.specs.Builders.{with_con, with_launched}
use Rattle.device.specs.Record.{register_of, running}
use Rattle.register_fields.specs.Fields.{wanted_of, con_takes_of}
use Rattle.register_access.specs.Store.{has_form_of, applied_of, accepted, store_accepted_of, store_of}
use Rattle.launch.specs.ConStore.{launches_of, con_store_of}
use Rattle.start_up.specs.StartUp.{Access, stores_of}
use Rattle.register_access.proofs.AcceptedLaws.{AtRest}
use Rattle.device.specs.State.{State, state}
use Rattle.controller.specs.Controller.{store, run_of, AllAccepted, BringWords, store_operations}
use Rattle.controller.proofs.StoreLaws.{taken_idle, store_possible}
use Rattle.controller.proofs.StoreEquations.{store-accepted, store_runs, wr_off}
use Rattle.controller.proofs.RunLaws.{store_answers}

module _ (g : Geometry) (d : Device) (rest : AtRest g d) where
  -- WR after a store to NVMCON that does not launch
  con_idle : (w : ℕ) → launches_of d w ≡ false → has_of (con_store_of g d w).nvmcon WR ≡ false
  unfolding con_store_of
  con_idle w off =
      rw off (has_bit 15 (merge_of (con_takes_of d) w d.nvmcon.0) ∙ taken_idle g d rest w)

  -- a store that does not launch leaves the device at rest
  store_rests : (r form value : ℕ) → has_form_of r form ≡ true → value < 2 ^ 32
      → (eqb r 0 && launches_of d (wanted_of form d.nvmcon.0 value)) ≡ false → AtRest g (store_of g d r form value).device
  unfolding store_accepted_of applied_of register_of
  store_rests r form value ok word off =
      record {
        listed = rest.listed;
        range = rest.range;
        possible = store_possible g d r form value word (store-accepted g d rest r form ok);
        idle = rw (store_runs g d rest r form value ok) (idle (eqb r 0) refl off);
      }
    where
      w : ℕ
      w = wanted_of form (register_of d r) value

      con : eqb r 0 ≡ true → register_of d r ≡ d.nvmcon.0
      con e = rw e

      idle : (t : Bool) → eqb r 0 ≡ t → (t && launches_of d (wanted_of form d.nvmcon.0 value)) ≡ false
          → let l = con_store_of g d w in
          running (pick t (accepted (with_launched (with_con d l.nvmcon 0 d.step) l.operands) l.event)
          (accepted (applied_of d r w) false)).device ≡ false
      idle true e off = con_idle w (ap (λ (x : ℕ). launches_of d (wanted_of form x value)) (con e) ∙ off)
      idle false e off = rest.idle

  -- a value with bit 15 at 0, in any form, does not launch
  asks_no_launch : (form value : ℕ) → bit 15 value ≡ false → launches_of d (wanted_of form d.nvmcon.0 value) ≡ false
  unfolding launches_of
  asks_no_launch form value off =
      let con = d.nvmcon.0 in
      let was = wr_off g d rest in
      let asked : bit 15 (wanted_of form con value) ≡ false =
      pick_both P (eqb form 0) off
      (pick_both P (eqb form 1) (clear_bit 15 con value ∙ rw was)
      (pick_both P (eqb form 2) (bit-or 15 con value ∙ rw (was, off)) (bit-xor 15 con value ∙ rw (was, off)))) in
      rw (has_bit 15 (wanted_of form con value) ∙ asked)
    where
      P : ℕ → Type 0
      P w = bit 15 w ≡ false

-- ---- stores in a row
-- a store that is not declined at rest, of a word of 32 bits, which if it is one to NVMCON has bit 15, WR, at 0
pub record NoLaunch (a : Access) : Type 0 where
  pub form : has_form_of a.register a.form ≡ true
  pub word : a.value < 2 ^ 32
  pub off : (eqb a.register 0 && bit 15 a.value) ≡ false

abbrev pub NoLaunches : List Access → Type 0
NoLaunches [] = Unit {0}
NoLaunches (a ∷ rest) = NoLaunch a × NoLaunches rest

pub no_launch_rests : (g : Geometry) (d : Device) → AtRest g d → (a : Access) → NoLaunch a → AtRest g (store_of g d a.register a.form a.value).device
no_launch_rests g d rest a q = store_rests g d rest a.register a.form a.value q.form q.word (off (eqb a.register 0) q.off)
  where
    off : (t : Bool) → (t && bit 15 a.value) ≡ false → (t && launches_of d (wanted_of a.form d.nvmcon.0 a.value)) ≡ false
    off true h = asks_no_launch g d rest a.form a.value h
    off false h = refl

-- a row of them leaves it at rest, and none is declined
pub stores_rest : (g : Geometry) (d : Device) → AtRest g d → (l : List Access) → NoLaunches l → AtRest g (stores_of g d l)
stores_rest g d rest [] q = rest
stores_rest g d rest (a ∷ l) q = stores_rest g (store_of g d a.register a.form a.value).device (no_launch_rests g d rest a q.0) l q.1

pub stores_accepted : (g : Geometry) (s : State) → AtRest g s.device → (l : List Access) → NoLaunches l → AllAccepted g s (store_operations l)
stores_accepted g s rest [] q = tt
stores_accepted g s rest (a ∷ l) q = (
  store_answers g s.device a.register a.form a.value (store-accepted g s.device rest a.register a.form q.0.form),
  stores_accepted g (run_of g s (store a.register a.form a.value ∷ [])) (no_launch_rests g s.device rest a q.0) l q.1,
)

-- the operations of stores in a row do what the stores do
pub stores_run : (g : Geometry) (s : State) (l : List Access) → state (stores_of g s.device l) s.one s.two ≡ run_of g s (store_operations l)
stores_run g s [] = refl
stores_run g s (a ∷ l) = stores_run g (state (store_of g s.device a.register a.form a.value).device s.one s.two) l

pub stores_bring : (l : List Access) → NoLaunches l → BringWords (store_operations l)
stores_bring [] q = tt
stores_bring (a ∷ l) q = (q.0.word, stores_bring l q.1)
