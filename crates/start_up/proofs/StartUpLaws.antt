-- Stores in a row: a list in two parts is one part after the other. What an accepted start-up tells. Assumes nothing.
use mathlib.Core.Path.{◌≡◌, refl}
use Rattle.std.specs.Prelude.{Ok, Err}
use mathlib.Core.Bool.{true}
use mathlib.Core.List.{List, [], ◌∷◌, ◌++◌}
use Rattle.geometry.specs.declared.banks.Geometry.{Geometry}
use Rattle.words.specs.declared.decline.Decline.{Decline}
use Rattle.words.specs.Decline.{accepted_of}
use Rattle.words.proofs.DeclineLaws.{passed, neither}
use Rattle.device.specs.declared.record.Device.{Device}
use Rattle.device.specs.Record.{running}
use Rattle.common_declines.specs.CommonDecline.{common_decline_of}
use Rattle.register_access.specs.Store.{store_of}
use Rattle.register_access.proofs.AcceptedLaws.{AtRest, at_rest_lem}
use Rattle.start_up.specs.StartUp.{Access, stores_of, start_up_decline_of}

pub stores_append : (g : Geometry) (d : Device) (l m : List Access) → stores_of g d (l ++ m) ≡ stores_of g (stores_of g d l) m
stores_append g d [] m = refl
stores_append g d (a ∷ l) m = stores_append g (store_of g d a.register a.form a.value).device l m

pub start_up_at_rest : (g : Geometry) (d : Device) → accepted_of (start_up_decline_of g d) ≡ true → AtRest g d
unfolding start_up_decline_of
start_up_at_rest g d h =
    let s0 = neither (common_decline_of g d [] 0) _ h in
    at_rest_lem g d s0.0 (passed (running d) (Err Decline.Running) (Ok tt) refl s0.1).0
