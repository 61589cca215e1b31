-- What an accepted store or register read tells: the geometry is in range, the device possible, and so on.
-- Assumes nothing.
use mathlib.Core.Path.{◌≡◌, refl, sym, ◌∙◌}
use Rattle.std.specs.Prelude.{Ok, Err}
use mathlib.Core.Bool.{Bool, true, false}
use mathlib.Core.List.{[]}
use Prim.Native.Nat.{ℕ}
use native.Mathlib.Omega.{arith}
use Rattle.geometry.specs.declared.banks.Geometry.{Geometry}
use Rattle.words.specs.declared.decline.Decline.{Decline}
use Rattle.geometry.specs.Banks.{in_range_of, InRange}
use Rattle.words.specs.Decline.{accepted_of}
use Rattle.words.specs.Word.{pick}
use Rattle.words.proofs.BitLaws.{true_not_false}
use Rattle.words.proofs.DeclineLaws.{held, neither}
use Rattle.device.specs.declared.record.Device.{Device}
use Rattle.device.specs.Record.{running}
use Rattle.common_declines.specs.Possible.{possible_of}
use Rattle.common_declines.specs.CommonDecline.{common_decline_of}
use Rattle.common_declines.proofs.CommonDeclineLaws.{ready, opens}
use Rattle.register_access.specs.Store.{has_form_of, loads_of, may_store_of, store_decline_of, store_accepted_of, store_of, read_decline_of}

-- a call on a device that can be at rest
pub record AtRest (g : Geometry) (d : Device) : Type 0 where
  pub listed : in_range_of g ≡ true
  pub range : InRange g
  pub possible : possible_of g d ≡ true
  pub idle : running d ≡ false

pub at_rest_lem : (g : Geometry) (d : Device) → accepted_of (common_decline_of g d [] 0) ≡ true → running d ≡ false → AtRest g d
at_rest_lem g d h idle =
    let r = ready g d [] 0 h in
    record { listed = r.lent.listed; range = r.lent.range; possible = r.possible; idle = idle }

-- the other way
pub rest_opens : (g : Geometry) (d : Device) → AtRest g d → common_decline_of g d [] 0 ≡ Ok tt
rest_opens g d rest = opens g d [] 0 rest.listed tt (omega arith) rest.possible

-- what an accepted store tells: 5 does not apply, at rest or by its register
pub record StoreReady (g : Geometry) (d : Device) (r form : ℕ) : Type 0 where
  pub listed : in_range_of g ≡ true
  pub range : InRange g
  pub possible : possible_of g d ≡ true
  pub formed : has_form_of r form ≡ true
  pub may : may_store_of d r ≡ true

pub store_ready : (g : Geometry) (d : Device) (r form : ℕ) → accepted_of (store_decline_of g d r form) ≡ true → StoreReady g d r form
unfolding store_decline_of
store_ready g d r form h =
    let s0 = neither (common_decline_of g d [] 0) _ h in
    let s1 = held (has_form_of r form) _ (Err Decline.Register) refl s0.1 in
    let s2 = held (may_store_of d r) _ _ refl s1.1 in
    let open' = ready g d [] 0 s0.0 in
    record { listed = open'.lent.listed; range = open'.lent.range; possible = open'.possible; formed = s1.0; may = s2.0 }

-- an accepted store to another register than 2 to 7 finds the device at rest
pub store_at_rest : (g : Geometry) (d : Device) (r form : ℕ) → loads_of r ≡ false → accepted_of (store_decline_of g d r form) ≡ true → AtRest g d
unfolding may_store_of
store_at_rest g d r form other h =
    let was = store_ready g d r form h in
    record { listed = was.listed; range = was.range; possible = was.possible; idle = go (running d) refl was.may }
  where
    go : (t : Bool) → running d ≡ t → pick t (loads_of r) true ≡ true → running d ≡ false
    go true on may = true_not_false (sym may ∙ other)
    go false off may = off

-- a store to which no decline applies is carried out
pub store_carried : (g : Geometry) (d : Device) (r form value : ℕ) → in_range_of g ≡ true → possible_of g d ≡ true → has_form_of r form ≡ true
    → may_store_of d r ≡ true → store_of g d r form value ≡ store_accepted_of g d r form value
unfolding store_of store_decline_of
store_carried g d r form value listed can formed may = rw (opens g d [] 0 listed tt (omega arith) can, formed, may)

pub read_possible : (g : Geometry) (d : Device) (r : ℕ) → accepted_of (read_decline_of g d r) ≡ true
    → InRange g × (possible_of g d ≡ true)
unfolding read_decline_of
read_possible g d r h =
    let r = ready g d [] 0 (neither (common_decline_of g d [] 0) _ h).0 in
    (r.lent.range, r.possible)
