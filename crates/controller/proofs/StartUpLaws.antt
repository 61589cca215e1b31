-- A start-up is the run of its stores as operations: an accepted one finds the device at rest, and none of its stores launches; of a
-- declined one each store is declined. So it leaves a possible device, and so does every prefix of its stores.
-- Assumes nothing.
use mathlib.Core.Path.{◌≡◌, refl, sym, ◌∙◌}
use mathlib.Core.Bool.{Bool, true, false}
use mathlib.Core.List.{List, [], ◌∷◌, ◌++◌}
use Prim.Native.Nat.{ℕ, zero, suc, ◌^◌, ◌<◌}
use lib.Dec.{lit<}
use lib.ListN.{take}
use Rattle.words.specs.Word.{pick}
use Rattle.words.proofs.BitLaws.{true_not_false}
use Rattle.geometry.specs.declared.banks.Geometry.{Geometry}
use Rattle.words.specs.Decline.{accepted_of}
use Rattle.device.specs.declared.record.Device.{Device}
use Rattle.device.specs.Record.{bfswap}
use Rattle.register_access.specs.Store.{has_form_of, loads_of, store_decline_of, store_of}
use Rattle.start_up.specs.StartUp.{Access, access, stores_of, key_stores, start_up_stores, start_up_decline_of, start_up_of}
use Rattle.register_access.proofs.AcceptedLaws.{store_at_rest, rest_opens}
use Rattle.start_up.proofs.StartUpLaws.{start_up_at_rest}
use Rattle.device.specs.State.{State, state}
use Rattle.controller.specs.Controller.{Operation, run_of, AllAccepted, store_operations, BringWords, Sound}
use Rattle.controller.proofs.RunLaws.{run_sound}
use Rattle.controller.proofs.RestLaws.{NoLaunch, NoLaunches, stores_accepted, stores_run, stores_bring}

-- none of its stores asks for WR
stores_no_launch : (d : Device) → NoLaunches (start_up_stores d)
unfolding start_up_stores has_form_of
stores_no_launch d = go (bfswap d)
  where
    key : (value : ℕ) → value < 2 ^ 32 → NoLaunch (access 1 0 value)
    key value l = record { form = refl; word = l; off = refl }

    swap : NoLaunch (access 0 2 0x80)
    swap = record { form = refl; word = lit< tt; off = refl }

    lock : NoLaunch (access 10 2 0xC0)
    lock = record { form = refl; word = lit< tt; off = refl }

    go : (t : Bool) → NoLaunches (pick t (key_stores ++ access 0 2 0x80 ∷ []) [] ++ access 10 2 0xC0 ∷ [])
    go true = (key 0 (lit< tt), (key 0xAA99_6655 (lit< tt), (key 0x5566_99AA (lit< tt), (swap, (lock, tt)))))
    go false = (lock, tt)

-- and each brings a word
stores_words : (d : Device) → BringWords (store_operations (start_up_stores d))
stores_words d = stores_bring (start_up_stores d) (stores_no_launch d)

-- ---- a declined start-up
-- where a start-up is declined so is every store to another register than 2 to 7
store_declined : (g : Geometry) (d : Device) (r form : ℕ) → loads_of r ≡ false → accepted_of (start_up_decline_of g d) ≡ false
    → accepted_of (store_decline_of g d r form) ≡ false
unfolding start_up_decline_of
store_declined g d r form other off = go (accepted_of (store_decline_of g d r form)) refl
  where
    go : (t : Bool) → accepted_of (store_decline_of g d r form) ≡ t → t ≡ false
    go true on =
        let rest = store_at_rest g d r form other on in
        true_not_false (sym (rw (rest_opens g d rest, rest.idle)) ∙ off)
    go false e = refl

-- none of these stores is to registers 2 to 7
abbrev NoLoads : List Access → Type 0
NoLoads [] = Unit {0}
NoLoads (a ∷ rest) = (loads_of a.register ≡ false) × NoLoads rest

start_up_loads_none : (d : Device) → NoLoads (start_up_stores d)
unfolding start_up_stores
start_up_loads_none d = go (bfswap d)
  where
    go : (t : Bool) → NoLoads (pick t (key_stores ++ access 0 2 0x80 ∷ []) [] ++ access 10 2 0xC0 ∷ [])
    go true = (refl, (refl, (refl, (refl, (refl, tt)))))
    go false = (refl, tt)

stores_declined : (g : Geometry) (d : Device) → accepted_of (start_up_decline_of g d) ≡ false → (l : List Access) → NoLoads l → stores_of g d l ≡ d
unfolding store_of
stores_declined g d off [] other = refl
stores_declined g d off (a ∷ l) other = rw (store_declined g d a.register a.form other.0 off) (stores_declined g d off l other.1)

-- ---- the whole, and a prefix: the run of its stores, declined or not
stores_as_run : (g : Geometry) (s : State) (l : List Access) → NoLoads l
    → state (pick (accepted_of (start_up_decline_of g s.device)) (stores_of g s.device l) s.device) s.one s.two ≡ run_of g s (store_operations l)
stores_as_run g s l other = go (accepted_of (start_up_decline_of g s.device)) refl ∙ stores_run g s l
  where
    go : (t : Bool) → accepted_of (start_up_decline_of g s.device) ≡ t
        → state (pick t (stores_of g s.device l) s.device) s.one s.two ≡ state (stores_of g s.device l) s.one s.two
    go true e = refl
    go false e = rw (stores_declined g s.device e l other)

loads_take : (n : ℕ) (l : List Access) → NoLoads l → NoLoads (take n l)
loads_take zero l h = tt
loads_take (suc n) [] h = tt
loads_take (suc n) (a ∷ l) h = (h.0, loads_take n l h.1)

pub start_up_runs : (g : Geometry) (s : State)
    → state (start_up_of g s.device).device s.one s.two ≡ run_of g s (store_operations (start_up_stores s.device))
unfolding start_up_of
start_up_runs g s = stores_as_run g s (start_up_stores s.device) (start_up_loads_none s.device)

pub cut_stores_run : (g : Geometry) (s : State) (n : ℕ) → let l = take n (start_up_stores s.device) in
    state (pick (accepted_of (start_up_decline_of g s.device)) (stores_of g s.device l) s.device) s.one s.two ≡ run_of g s (store_operations l)
cut_stores_run g s n = stores_as_run g s (take n (start_up_stores s.device)) (loads_take n (start_up_stores s.device) (start_up_loads_none s.device))

pub start_up_accepted : (g : Geometry) (s : State) → accepted_of (start_up_of g s.device).decline ≡ true
    → AllAccepted g s (store_operations (start_up_stores s.device))
unfolding start_up_of
start_up_accepted g s on =
    stores_accepted g s (start_up_at_rest g s.device on) (start_up_stores s.device) (stores_no_launch s.device)

pub start_up_sound : (g : Geometry) (s : State) → Sound g s → Sound g (state (start_up_of g s.device).device s.one s.two)
start_up_sound g s h =
    rw (start_up_runs g s) (run_sound g s h (store_operations (start_up_stores s.device)) (stores_words s.device))

-- a prefix
brings_take : (n : ℕ) (l : List Operation) → BringWords l → BringWords (take n l)
brings_take zero l w = tt
brings_take (suc n) [] w = tt
brings_take (suc n) (o ∷ l) w = (w.0, brings_take n l w.1)

pub start_up_cut : (g : Geometry) (s : State) → Sound g s → (n : ℕ) → Sound g (run_of g s (take n (store_operations (start_up_stores s.device))))
start_up_cut g s h n =
    run_sound g s h (take n (store_operations (start_up_stores s.device))) (brings_take n _ (stores_words s.device))
