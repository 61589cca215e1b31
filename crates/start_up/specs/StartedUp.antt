-- The answer to a start-up. Assumes nothing.
use Rattle.std.specs.Prelude.{Ok, Err, Result}
use Rattle.words.specs.declared.decline.Decline.{Decline}
use Rattle.words.specs.Decline.{Verdict}
use Rattle.device.specs.declared.record.Device.{Device}

-- the verdict, the device
pub record StartedUp : Type 0 where
  pub decline : Verdict
  pub device : Device

-- in contracts: the answer that a start-up of this device gives. Where it is declined the device is as before.
abbrev pub started_up_from : Device → Result Device Decline → StartedUp
started_up_from d (Ok e) = record { decline = Ok tt; device = e }
started_up_from d (Err e) = record { decline = Err e; device = d }
