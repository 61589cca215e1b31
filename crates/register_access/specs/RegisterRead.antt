-- The answer to a register read. Assumes nothing.
use Rattle.std.specs.Prelude.{ℕ, Ok, Err, Result}
use Rattle.words.specs.declared.decline.Decline.{Decline}
use Rattle.words.specs.Decline.{Verdict}
use Rattle.device.specs.declared.record.Device.{Device}
use Rattle.register_access.specs.declared.RegisterValue.{RegisterValue}

-- the verdict, the value, the device
pub record RegisterRead : Type 0 where
  pub decline : Verdict
  pub value : ℕ
  pub device : Device

-- in contracts: the answer that a read on this device gives. Where it is declined the device is as before and the value is 0.
abbrev pub register_read_from : Device → Result RegisterValue Decline → RegisterRead
register_read_from d (Ok r) = record { decline = Ok tt; value = r.value; device = r.device }
register_read_from d (Err e) = record { decline = Err e; value = 0; device = d }
