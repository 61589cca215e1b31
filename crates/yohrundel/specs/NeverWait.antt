-- W-207, "Reads that were answered before keep their answers and change nothing.": the lower bank, a page and the page sheet never wait.
-- Where an operation runs they give what they give with it ended and the banks as they are. Of a turn, which reads t, `performs` of
-- update/specs/Turn says so. Assumes nothing.
use Rattle.std.specs.Prelude.{ℕ, ◌≡◌, true, false, List, length}
use Rattle.words.specs.Word.{clear_of}
use Rattle.words.specs.Decline.{accepted_of}
use Rattle.geometry.specs.declared.banks.Geometry.{Geometry}
use Rattle.geometry.specs.Banks.{page_at}
use Rattle.device.specs.declared.record.Device.{Device}
use Rattle.device.specs.Registers.{WR}
use Rattle.device.specs.Record.{running}
use Rattle.common_declines.specs.Possible.{possible_of}
use Rattle.flash.specs.Step.{ended_of}
use Rattle.bank_parts.specs.Parts.{lower_bank_decline_of, lower_bank_of, page_decline_of, page_part_of}
use Rattle.sheet.specs.Sheet.{page_sheet_of}

-- the device with its operation ended where it is
abbrev pub ended_device : Device → Device
ended_device d = ended_of d (clear_of d.nvmcon.0 WR)

pub record NeverWait : Type 0 where
  -- that device is a possible one, and at rest
  pub ended : (g : Geometry) (d : Device) → possible_of g d ≡ true → running d ≡ true
      → (possible_of g (ended_device d) ≡ true) × (running (ended_device d) ≡ false)
  pub lower_bank_lem : (g : Geometry) (d : Device) (one two : List ℕ) → possible_of g d ≡ true → running d ≡ true
      → (lower_bank_decline_of g d (length one) (length two) ≡ lower_bank_decline_of g (ended_device d) (length one) (length two))
      × (lower_bank_of g d one two ≡ lower_bank_of g (ended_device d) one two)
  pub sheet : (g : Geometry) (d : Device) (one two buffer : List ℕ) → possible_of g d ≡ true → running d ≡ true
      → page_sheet_of g d one two buffer ≡ page_sheet_of g (ended_device d) one two buffer
  -- a page is that of the bank as it is; no device is asked
  pub page : (g : Geometry) (bank : List ℕ) (n : ℕ) → accepted_of (page_decline_of g (length bank) n) ≡ true → page_part_of g bank n ≡ page_at g bank n
