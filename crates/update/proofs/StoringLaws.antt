-- Stores of a list, one a turn: each is carried out on the device that those before it left, which is at rest while none of them launches.
-- Assumes nothing.
use mathlib.Core.Path.{◌≡◌, refl, sym, ap, ◌∙◌}
use mathlib.Core.Bool.{Bool, true, false, not}
use mathlib.Core.List.{List, [], ◌∷◌}
use Prim.Native.Nat.{ℕ, zero, suc, ◌+◌, ◌^◌, ◌≤◌, ◌<◌}
use native.Mathlib.Nat.{le_of_suc-le-suc, not-suc-le-zero}
use lib.Dec.{eqb}
use lib.ListN.{length, get_or, take}
use lib.Seq.{take-suc}
use borrow.Author.Tests.{not-true}
use Rattle.words.specs.Word.{pick, bit, has_of}
use Rattle.words.proofs.PickLaws.{pick_both}
use Rattle.words.proofs.BitLaws.{has_bit}
use Rattle.geometry.specs.declared.banks.Geometry.{Geometry}
use Rattle.device.specs.declared.record.Device.{Device}
use Rattle.device.specs.Registers.{WREN, NVMOP, SWAPLOCK}
use Rattle.device.specs.Builders.{with_con, with_launched}
use Rattle.device.specs.Record.{register_of, bfswap, is_open}
use Rattle.device.specs.Answer.{Answer}
use Rattle.register_fields.specs.Fields.{wanted_of, con_takes_of}
use Rattle.register_access.specs.Store.{has_form_of, applied_of, accepted, store_accepted_of, store_of}
use Rattle.launch.specs.ConStore.{con_store_of}
use Rattle.start_up.specs.StartUp.{Access, access, stores_of}
use Rattle.register_access.proofs.AcceptedLaws.{AtRest}
use Rattle.start_up.proofs.StartUpLaws.{stores_append}
use Rattle.controller.proofs.StoreEquations.{store_runs}
use Rattle.controller.proofs.ChangeLaws.{con_keeps}
use Rattle.controller.proofs.RestLaws.{NoLaunch, NoLaunches, no_launch_rests, stores_rest}
use Rattle.update.specs.declared.actions.Action.TheVariants.{Store, Step}
use Rattle.update.specs.Actions.{stored}

-- the first stores of a list none of whose first m launches
pub quiet_prefix : (l : List Access) (m j : ℕ) → j ≤ m → NoLaunches (take m l) → NoLaunches (take j l)
quiet_prefix l m zero h q = nothing l
  where
    nothing : (l : List Access) → NoLaunches (take 0 l)
    nothing [] = tt
    nothing (a ∷ l) = tt
quiet_prefix l zero (suc j) h q = absurd (not-suc-le-zero h)
quiet_prefix [] (suc m) (suc j) h q = tt
quiet_prefix (a ∷ l) (suc m) (suc j) h q = (q.0, quiet_prefix l m j (le_of_suc-le-suc h) q.1)

pub prefix_rest : (g : Geometry) (d : Device) → AtRest g d → (l : List Access) (m j : ℕ) → j ≤ m → NoLaunches (take m l)
    → AtRest g (stores_of g d (take j l))
prefix_rest g d rest l m j h q = stores_rest g d rest (take j l) (quiet_prefix l m j h q)

abbrev pub none : Access
none = access 0 0 0

-- one store more
next_store : (g : Geometry) (d : Device) (l : List Access) (j : ℕ) → j < length l → let a = get_or l j none in
    (store_of g (stores_of g d (take j l)) a.register a.form a.value).device ≡ stores_of g d (take (suc j) l)
next_store g d l j h =
    sym (stores_append g d (take j l) (get_or l j none ∷ [])) ∙ ap (stores_of g d) (sym (take-suc l j none h))

-- store j of a list as an action
pub stored_at : (l : List Access) (j : ℕ) → j < length l → let a = get_or l j none in get_or (stored l) j Step ≡ Store a.register a.form a.value
stored_at [] j h = absurd (not-suc-le-zero h)
stored_at (a ∷ l) zero h = refl
stored_at (a ∷ l) (suc j) h = stored_at l j (le_of_suc-le-suc h)

pub stored_length : (l : List Access) → length (stored l) ≡ length l
stored_length [] = refl
stored_length (a ∷ l) = ap suc (stored_length l)

-- ---- BFSWAP stays where NVMCON is stored to only with the key shut
-- the key is shut before each store to NVMCON, given whether it is shut before the first
abbrev pub Shut : Bool → List Access → Type 0
Shut shut [] = Unit {0}
Shut shut (a ∷ l) = (pick (eqb a.register 0) shut true ≡ true) × Shut (not (eqb a.register 1)) l

-- with the key shut BFSWAP does not take
shut_takes : (d : Device) → is_open d ≡ false → bit 6 (con_takes_of d) ≡ false
unfolding con_takes_of
shut_takes d shut = rw shut (go (has_of d.nvmcon.0 WREN) (has_of d.nvmcon2.0 SWAPLOCK))
  where
    go : (a c : Bool) → bit 6 (WREN + pick a 0 NVMOP + pick a 0 (pick c 0 0)) ≡ false
    go true c = refl
    go false true = refl
    go false false = refl

module _ (g : Geometry) (d : Device) (rest : AtRest g d) (a : Access) (quiet : NoLaunch a) where
  -- a store to another register than NVMKEY shuts the key
  store_shuts : not (eqb a.register 1) ≡ true → (store_of g d a.register a.form a.value).device.keystep ≡ 0
  unfolding store_accepted_of applied_of
  store_shuts other =
      rw (store_runs g d rest a.register a.form a.value quiet.form)
      (pick_both (λ (s : Answer). s.device.keystep ≡ 0) (eqb a.register 0) refl (rw (not-true (eqb a.register 1) other)))

  store_keeps : pick (eqb a.register 0) (not (is_open d)) true ≡ true
      → bit 6 (store_of g d a.register a.form a.value).device.nvmcon.0 ≡ bit 6 d.nvmcon.0
  unfolding store_accepted_of applied_of
  store_keeps shut =
      rw (store_runs g d rest a.register a.form a.value quiet.form) (go (eqb a.register 0) shut)
    where
      w : ℕ
      w = wanted_of a.form (register_of d a.register) a.value

      go : (t : Bool) → pick t (not (is_open d)) true ≡ true
          → let l = con_store_of g d w in
          let con = accepted (with_launched (with_con d l.nvmcon 0 d.step) l.operands) l.event in
          bit 6 (pick t con (accepted (applied_of d a.register w) false)).device.nvmcon.0 ≡ bit 6 d.nvmcon.0
      go true h = con_keeps g d w 6 (shut_takes d (not-true (is_open d) h)) refl
      go false h = refl

pub swap_kept : (g : Geometry) (d : Device) → AtRest g d → (shut : Bool) → (shut ≡ true → d.keystep ≡ 0) → (l : List Access) → NoLaunches l → Shut shut l
    → bfswap (stores_of g d l) ≡ bfswap d
swap_kept g d rest shut key [] quiet h = refl
swap_kept g d rest shut key (a ∷ l) quiet h =
    swap_kept g (store_of g d a.register a.form a.value).device (no_launch_rests g d rest a quiet.0) (not (eqb a.register 1))
    (store_shuts g d rest a quiet.0) l quiet.1 h.1
    ∙ has_bit 6 (store_of g d a.register a.form a.value).device.nvmcon.0
    ∙ store_keeps g d rest a quiet.0 (go (eqb a.register 0) h.0)
    ∙ sym (has_bit 6 d.nvmcon.0)
  where
    go : (t : Bool) → pick t shut true ≡ true → pick t (not (is_open d)) true ≡ true
    go true e = rw (key e)
    go false e = refl

-- a store has a form of its register and brings a word of 32 bits
abbrev pub Fit : Access → Type 0
Fit a = (has_form_of a.register a.form ≡ true) × (a.value < 2 ^ 32)

abbrev pub Forms : List Access → Type 0
Forms [] = Unit {0}
Forms (a ∷ l) = Fit a × Forms l

pub form_at : (l : List Access) → Forms l → (j : ℕ) → j < length l → Fit (get_or l j none)
form_at [] f j h = absurd (not-suc-le-zero h)
form_at (a ∷ l) f zero h = f.0
form_at (a ∷ l) f (suc j) h = form_at l f.1 j (le_of_suc-le-suc h)

-- the same of a prefix
pub shut_prefix : (shut : Bool) (l : List Access) (m j : ℕ) → j ≤ m → Shut shut (take m l) → Shut shut (take j l)
shut_prefix shut l m zero h q = nothing l
  where
    nothing : (l : List Access) → Shut shut (take 0 l)
    nothing [] = tt
    nothing (a ∷ l) = tt
shut_prefix shut l zero (suc j) h q = absurd (not-suc-le-zero h)
shut_prefix shut [] (suc m) (suc j) h q = tt
shut_prefix shut (a ∷ l) (suc m) (suc j) h q = (q.0, shut_prefix (not (eqb a.register 1)) l m j (le_of_suc-le-suc h) q.1)

-- the next device of a list of stores
pub storing_next : (g : Geometry) (d first : Device) (l : List Access) (j : ℕ) → j < length l → d ≡ stores_of g first (take j l) → let a = get_or l j none in
    (store_of g d a.register a.form a.value).device ≡ stores_of g first (take (suc j) l)
storing_next g d first l j h e = rw e (next_store g first l j h)
