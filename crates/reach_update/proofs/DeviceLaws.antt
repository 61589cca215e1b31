-- Devices that differ in NVMDATA x and in what was launched of it: no store, step, reset or start-up looks at these words but to hand them
-- on, so each leaves such devices.
-- Assumes nothing.
use mathlib.Core.Path.{◌≡◌, refl, sym, subst}
use mathlib.Core.Bool.{Bool, true, false, ◌||◌}
use mathlib.Core.List.{List, [], ◌∷◌, ◌++◌}
use Prim.Native.Nat.{ℕ, zero, suc, ◌+◌, ◌^◌, ◌<◌}
use native.Mathlib.Decide.{ℕ_discrete}
use native.Mathlib.Omega.{arith}
use lib.Dec.{eqb, ltb, lit<}
use lib.ListN.{set}
use borrow.Author.Tests.{eqb-true}
use Rattle.words.specs.Word.{pick, has_of}
use Rattle.words.specs.Decline.{accepted_of}
use Rattle.geometry.specs.declared.banks.Geometry.{Geometry}
use Rattle.geometry.specs.Banks.{in_range_of}
use Rattle.device.specs.declared.record.Device.{Device}
use Rattle.device.specs.Answer.{Answer}
use Rattle.device.specs.Builders.{with_con, with_launched}
use Rattle.device.specs.Registers.{WRERR, LVDERR, PFSWAP, SWAPLOCK}
use Rattle.device.specs.Numbers.{no_operation, quad_program, both_erase, NVMCON, NVMCON2, set as setForm}
use Rattle.device.specs.Record.{register_of, running, bfswap, op_of}
use Rattle.nvmop.specs.Operation.{length_of, begins_of}
use Rattle.common_declines.specs.Possible.{possible_of}
use Rattle.common_declines.proofs.CommonDeclineLaws.{opens}
use Rattle.register_fields.specs.Fields.{wanted_of, con_takes_of, pwp_takes_of, bwp_takes_of, con2_takes_of}
use Rattle.launch.specs.declared.launch.Launched.{Launched}
use Rattle.launch.specs.Launch.{launched, launch_of}
use Rattle.launch.specs.ConStore.{launches_of, taken_of, con_store_of}
use Rattle.register_access.specs.Store.{may_store_of, store_decline_of, data_after, applied_of, store_wanted, store_accepted_of, store_of}
use Rattle.start_up.specs.StartUp.{Access, access, key_stores, stores_of, start_up_stores, start_up_decline_of, start_up_of}
use Rattle.flash.specs.Step.{advance_of}
use Rattle.resets.specs.Reset.{reset_con_of, reset_device_of}
use Rattle.controller.proofs.StoreLaws.{store_possible}
use Rattle.reach_update.specs.Near.{SameBut, with_data_words, NearDevice}
use Rattle.reach_update.proofs.SameButLaws.{same_self, set_near}

-- choices by the same test
pub pick_two : {A B : Type 0} (P : A → B → Type 0) (t : Bool) {a b : A} {c d : B} → P a c → P b d → P (pick t a b) (pick t c d)
pick_two P true p q = p
pick_two P false p q = q

-- the same, of a number that is asked for
pick_number : {A B : Type 0} (P : A → B → Type 0) (r n : ℕ) {a b : A} {c d : B} → (r ≡ n → P a c) → P b d → P (pick (eqb r n) a b) (pick (eqb r n) c d)
pick_number P r n {a} {b} {c} {d} p q = go (eqb r n) refl
  where
    go : (t : Bool) → eqb r n ≡ t → P (pick t a b) (pick t c d)
    go true e = p (eqb-true r n e)
    go false e = q

pub near_self : (x : ℕ) (d : Device) → NearDevice x d d
near_self x d = record { rest = refl; words = same_self x d.nvmdata; launched = same_self x d.launched.nvmdata }

-- what holds with other words in these two places holds of a device that is near
pub by_near : (x : ℕ) (d e : Device) (P : Device → Type 0) → NearDevice x d e
    → ((p q : List ℕ) → SameBut x d.nvmdata p → SameBut x d.launched.nvmdata q → P (with_data_words d p q)) → P e
by_near x d e P near f = subst P (sym near.rest) (f e.nvmdata e.launched.nvmdata near.words near.launched)

-- ---- a launch
record LaunchNear (x : ℕ) (l m : Launched) : Type 0 where
  con : l.nvmcon ≡ m.nvmcon
  address : l.operands.nvmaddr ≡ m.operands.nvmaddr
  source : l.operands.nvmsrcaddr ≡ m.operands.nvmsrcaddr
  words : SameBut x l.operands.nvmdata m.operands.nvmdata

module _ (g : Geometry) (x : ℕ) (d : Device) (p q : List ℕ) (hp : SameBut x d.nvmdata p) (hq : SameBut x d.launched.nvmdata q) where
  abbrev e : Device
  e = with_data_words d p q

  launch_near : (w : ℕ) → LaunchNear x (launch_of g (taken_of d w)) (launch_of g (taken_of e w))
  unfolding launch_of con_takes_of
  launch_near w =
      let t = taken_of d w in
      pick_two (LaunchNear x) (eqb (op_of t) no_operation) (kept _ false)
      (pick_two (LaunchNear x) (has_of t.nvmcon.0 (WRERR + LVDERR)) (kept _ false)
      (pick_two (LaunchNear x) (ltb (op_of t) quad_program || ltb both_erase (op_of t)) (kept _ false)
      (pick_two (LaunchNear x) (begins_of g t) (record { con = refl; address = refl; source = refl; words = hp }) (kept _ true))))
    where
      kept : (con : ℕ) (event : Bool) → LaunchNear x (launched con event d.launched) (launched con event e.launched)
      kept con event = record { con = refl; address = refl; source = refl; words = hq }

  con_near : (w : ℕ) → LaunchNear x (con_store_of g d w) (con_store_of g e w)
  unfolding con_store_of launches_of con_takes_of
  con_near w = pick_two (LaunchNear x) (launches_of d w) (launch_near w) (record { con = refl; address = refl; source = refl; words = hq })

  -- the device with NVMCON and what is launched
  launched_near : (c o : Launched) → LaunchNear x c o
      → NearDevice x (with_launched (with_con d c.nvmcon 0 d.step) c.operands) (with_launched (with_con e o.nvmcon 0 d.step) o.operands)
  launched_near c o near = record { rest = rw (near.con, near.address, near.source); words = hp; launched = near.words }

  -- ---- stores
  -- a register but NVMDATA x
  register_near : (r : ℕ) → (r ≡ 3 + x → ⊥) → register_of d r ≡ register_of e r
  unfolding register_of
  register_near r ne =
      pick_number ◌≡◌ r 0 (λ is. refl)
      (pick_number ◌≡◌ r 1 (λ is. refl)
      (pick_number ◌≡◌ r 2 (λ is. refl)
      (pick_number ◌≡◌ r 3 (λ is. hp.same 0 (λ at. ne (omega arith)))
      (pick_number ◌≡◌ r 4 (λ is. hp.same 1 (λ at. ne (omega arith)))
      (pick_number ◌≡◌ r 5 (λ is. hp.same 2 (λ at. ne (omega arith)))
      (pick_number ◌≡◌ r 6 (λ is. hp.same 3 (λ at. ne (omega arith))) refl))))))

  data_near : (r w : ℕ) → SameBut x (data_after d.nvmdata r w) (data_after p r w)
  data_near r w =
      pick_two (SameBut x) (eqb r 3) (put 0)
      (pick_two (SameBut x) (eqb r 4) (put 1) (pick_two (SameBut x) (eqb r 5) (put 2) (pick_two (SameBut x) (eqb r 6) (put 3) hp)))
    where
      put : (y : ℕ) → SameBut x (set d.nvmdata y w) (set p y w)
      put y = set_near x d.nvmdata p hp y w w (λ ne. refl)

  -- to another register than NVMDATA x, of one value
  other_near : (r w : ℕ) → NearDevice x (store_wanted g d r w).device (store_wanted g e r w).device
  unfolding applied_of pwp_takes_of bwp_takes_of con2_takes_of
  other_near r w =
      pick_two (λ (a b : Answer). NearDevice x a.device b.device) (eqb r 0) (launched_near (con_store_of g d w) (con_store_of g e w) (con_near w))
      (record { rest = refl; words = data_near r w; launched = hq })

-- to NVMDATA x, of any two values
own_near : (g : Geometry) (x : ℕ) → x < 4 → (d : Device) (p q : List ℕ) → SameBut x d.nvmdata p → SameBut x d.launched.nvmdata q → (v w : ℕ)
    → NearDevice x (store_wanted g d (3 + x) v).device (store_wanted g (with_data_words d p q) (3 + x) w).device
unfolding applied_of pwp_takes_of bwp_takes_of con2_takes_of
own_near g zero l d p q hp hq v w = record { rest = refl; words = set_near 0 d.nvmdata p hp 0 v w (λ ne. absurd (ne refl)); launched = hq }
own_near g (suc zero) l d p q hp hq v w = record { rest = refl; words = set_near 1 d.nvmdata p hp 1 v w (λ ne. absurd (ne refl)); launched = hq }
own_near g (suc (suc zero)) l d p q hp hq v w = record { rest = refl; words = set_near 2 d.nvmdata p hp 2 v w (λ ne. absurd (ne refl)); launched = hq }
own_near g (suc (suc (suc zero))) l d p q hp hq v w = record { rest = refl; words = set_near 3 d.nvmdata p hp 3 v w (λ ne. absurd (ne refl)); launched = hq }
own_near g (suc (suc (suc (suc x)))) l d p q hp hq v w = absurd (omega arith)

-- a store that is carried out on both, of one value, or to NVMDATA x
accepted_near : (g : Geometry) (x : ℕ) → x < 4 → (d e : Device) → NearDevice x d e → (r form v w : ℕ) → ((r ≡ 3 + x → ⊥) → v ≡ w)
    → NearDevice x (store_accepted_of g d r form v).device (store_accepted_of g e r form w).device
unfolding store_accepted_of
accepted_near g x l d e near r form v w same =
    by_near x d e (λ (f : Device). NearDevice x (store_accepted_of g d r form v).device (store_accepted_of g f r form w).device) near
    (λ p q hp hq. go p q hp hq (ℕ_discrete r (3 + x)))
  where
    go : (p q : List ℕ) → SameBut x d.nvmdata p → SameBut x d.launched.nvmdata q → Dec (r ≡ 3 + x)
        → NearDevice x (store_accepted_of g d r form v).device (store_accepted_of g (with_data_words d p q) r form w).device
    go p q hp hq (yes is) =
        let e = with_data_words d p q in
        rw is (own_near g x l d p q hp hq (wanted_of form (register_of d (3 + x)) v) (wanted_of form (register_of e (3 + x)) w))
    go p q hp hq (no ne) = rw (← register_near g x d p q hp hq r ne, ← same ne) (other_near g x d p q hp hq r (wanted_of form (register_of d r) v))

-- ---- a store, accepted or not, on possible devices
module _ (g : Geometry) (listed : in_range_of g ≡ true) (x : ℕ) (few : x < 4) where
  pub running_near : (d e : Device) → NearDevice x d e → running d ≡ running e
  running_near d e near = by_near x d e (λ (f : Device). running d ≡ running f) near (λ p q hp hq. refl)

  decline_near : (d e : Device) → possible_of g d ≡ true → possible_of g e ≡ true → NearDevice x d e → (r form : ℕ)
      → store_decline_of g d r form ≡ store_decline_of g e r form
  unfolding store_decline_of may_store_of
  decline_near d e can also near r form =
      rw (opens g d [] 0 listed tt (omega arith) can, opens g e [] 0 listed tt (omega arith) also, running_near d e near)

  pub store_near : (d e : Device) → possible_of g d ≡ true → possible_of g e ≡ true → NearDevice x d e → (r form v w : ℕ) → ((r ≡ 3 + x → ⊥) → v ≡ w)
      → NearDevice x (store_of g d r form v).device (store_of g e r form w).device
  unfolding store_of
  store_near d e can also near r form v w same =
      rw (← decline_near d e can also near r form)
      (pick_two (λ (a b : Answer). NearDevice x a.device b.device) (accepted_of (store_decline_of g d r form))
      (accepted_near g x few d e near r form v w same) near)

  stays_possible : (d : Device) (r form v : ℕ) → v < 2 ^ 32 → possible_of g d ≡ true → possible_of g (store_of g d r form v).device ≡ true
  unfolding store_of
  stays_possible d r form v word can = go (accepted_of (store_decline_of g d r form)) refl
    where
      go : (t : Bool) → accepted_of (store_decline_of g d r form) ≡ t → possible_of g (store_of g d r form v).device ≡ true
      go true ok = store_possible g d r form v word ok
      go false off = rw off can

  -- stores in a row, of words of 32 bits
  abbrev AllWords : List Access → Type 0
  AllWords [] = Unit {0}
  AllWords (a ∷ l) = (a.value < 2 ^ 32) × AllWords l

  stores_near : (l : List Access) → AllWords l → (d e : Device) → possible_of g d ≡ true → possible_of g e ≡ true → NearDevice x d e
      → NearDevice x (stores_of g d l) (stores_of g e l)
  stores_near [] words d e can also near = near
  stores_near (a ∷ l) (word, words) d e can also near =
      stores_near l words _ _ (stays_possible d a.register a.form a.value word can) (stays_possible e a.register a.form a.value word also)
      (store_near d e can also near a.register a.form a.value a.value (λ ne. refl))

  -- ---- a start-up
  start_up_words : (t : Bool) → AllWords (pick t (key_stores ++ access NVMCON setForm PFSWAP ∷ []) [] ++ access NVMCON2 setForm SWAPLOCK ∷ [])
  start_up_words true = (lit< tt, (lit< tt, (lit< tt, (lit< tt, (lit< tt, tt)))))
  start_up_words false = (lit< tt, tt)

  -- it judges BFSWAP and WR, which are the same
  stores_same : (d e : Device) → NearDevice x d e → start_up_stores d ≡ start_up_stores e
  unfolding start_up_stores
  stores_same d e near = by_near x d e (λ (f : Device). start_up_stores d ≡ start_up_stores f) near (λ p q hp hq. refl)

  pub start-up-decline : (d e : Device) → possible_of g d ≡ true → possible_of g e ≡ true → NearDevice x d e
      → start_up_decline_of g d ≡ start_up_decline_of g e
  unfolding start_up_decline_of
  start-up-decline d e can also near =
      rw (opens g d [] 0 listed tt (omega arith) can, opens g e [] 0 listed tt (omega arith) also, running_near d e near)

  pub start_up_near : (d e : Device) → possible_of g d ≡ true → possible_of g e ≡ true → NearDevice x d e
      → NearDevice x (start_up_of g d).device (start_up_of g e).device
  unfolding start_up_of start_up_stores
  start_up_near d e can also near =
      rw (← start-up-decline d e can also near, ← stores_same d e near)
      (pick_two (NearDevice x) (accepted_of (start_up_decline_of g d)) (stores_near (start_up_stores d) (start_up_words (bfswap d)) d e can also near) near)

-- ---- a step that does not abort, and a reset
pub advance_near : (g : Geometry) (x : ℕ) (d e : Device) → NearDevice x d e → NearDevice x (advance_of g d false).device (advance_of g e false).device
unfolding advance_of
advance_near g x d e near =
    by_near x d e (λ (f : Device). NearDevice x (advance_of g d false).device (advance_of g f false).device) near
    (λ p q hp hq.
    pick_two (λ (a b : Answer). NearDevice x a.device b.device) (eqb (d.step + 1) (length_of g (op_of d)))
    (record { rest = refl; words = hp; launched = same_self x _ }) (record { rest = refl; words = hp; launched = hq }))

pub reset_near : (x : ℕ) (d e : Device) → NearDevice x d e → (kind : ℕ) (swap : Bool) → NearDevice x (reset_device_of d kind swap) (reset_device_of e kind swap)
unfolding reset_device_of reset_con_of
reset_near x d e near kind swap =
    by_near x d e (λ (f : Device). NearDevice x (reset_device_of d kind swap) (reset_device_of f kind swap)) near
    (λ p q hp hq.
    pick_two (NearDevice x) (eqb kind 0) (near_self x _) (record { rest = refl; words = hp; launched = same_self x _ }))
