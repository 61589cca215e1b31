-- The answer to a store, a step or a record of a script. Assumes nothing.
use Rattle.std.specs.Prelude.{Bool, false, Ok, Err, Result}
use Rattle.words.specs.declared.decline.Decline.{Decline}
use Rattle.words.specs.Decline.{Verdict}
use Rattle.device.specs.declared.record.Device.{Device}
use Rattle.device.specs.declared.outcome.Outcome.{Outcome}

-- the verdict, the device, the event
pub record Answer : Type 0 where
  pub decline : Verdict
  pub device : Device
  pub event : Bool

-- in contracts: the answer that a call on this device gives. Where it is declined the device is as before and there is no event.
abbrev pub answer_from : Device → Result Outcome Decline → Answer
answer_from d (Ok o) = record { decline = Ok tt; device = o.device; event = o.event }
answer_from d (Err e) = record { decline = Err e; device = d; event = false }
