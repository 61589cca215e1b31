-- The calls by their names. Assumes nothing.
use Rattle.std.specs.Prelude.{◌≡◌, ◌≢◌, List, ℕ, Option, None, IfSome, codes}
use Rattle.conformance_calls.specs.declared.names.Call.{Call}

abbrev pub name_of : Call → List ℕ
name_of Call.Compare = codes "compare"
name_of Call.Possible = codes "possible"
name_of Call.Protected = codes "protected"
name_of Call.Store = codes "store"
name_of Call.RegisterRead = codes "register_read"
name_of Call.FlashRead = codes "flash_read"
name_of Call.LowerBank = codes "lower_bank"
name_of Call.Page = codes "page"
name_of Call.Step = codes "step"
name_of Call.Reset = codes "reset"
name_of Call.StartUp = codes "startup"
name_of Call.UpdateStart = codes "update_start"
name_of Call.Turn = codes "turn"

-- a call has the name, or there is none and no call has it
pub record Named (name : List ℕ) (r : Option Call) : Type 0 where
  pub known : IfSome r (λ call. name ≡ name_of call)
  pub unknown : r ≡ None → (call : Call) → name ≢ name_of call
