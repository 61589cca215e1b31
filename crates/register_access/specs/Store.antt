-- Stores and register reads: why they are declined, and what they do. Assumes nothing.
use Rattle.std.specs.Prelude.{ℕ, Bool, true, false, ◌&&◌, List, [], eqb, leb, ltb, set, Ok, Err}
use Rattle.words.specs.Word.{pick, merge_of}
use Rattle.geometry.specs.declared.banks.Geometry.{Geometry}
use Rattle.words.specs.declared.decline.Decline.{Decline}
use Rattle.words.specs.Decline.{Verdict, accepted_of, first_of}
use Rattle.device.specs.declared.record.Device.{Device}
use Rattle.device.specs.Answer.{Answer}
use Rattle.register_access.specs.RegisterRead.{RegisterRead}
use Rattle.device.specs.Builders.{with_con, with_stored, with_launched}
use Rattle.device.specs.Record.{register_of, running}
use Rattle.common_declines.specs.CommonDecline.{common_decline_of}
use Rattle.register_fields.specs.Fields.{wanted_of, key_next_of, key_after_read_of, pwp_takes_of, bwp_takes_of, con2_takes_of}
use Rattle.launch.specs.ConStore.{con_store_of}
use Rattle.device.specs.Numbers.{NVMCON, NVMKEY, NVMADDR, NVMDATA0, NVMDATA1, NVMDATA2, NVMDATA3, NVMSRCADDR, NVMPWP, NVMBWP, NVMCON2, plain, invert}

-- 4 does not apply: "A register number above 10, a form above 3, or a form other than 0 for NVMKEY."
unfoldable pub has_form_of : ℕ → ℕ → Bool
has_form_of r form = pick (ltb NVMCON2 r) false (pick (ltb invert form) false (pick (eqb r NVMKEY) (eqb form plain) true))

-- "NVMADDR, NVMDATA0 to 3 and NVMSRCADDR", registers 2 to 7
abbrev pub loads_of : ℕ → Bool
loads_of r = leb NVMADDR r && leb r NVMSRCADDR

-- 5 does not apply: W-209: "While WR is set, stores to" these "are accepted."; "Decline 5 remains for all other stores"
unfoldable pub may_store_of : Device → ℕ → Bool
may_store_of d r = pick (running d) (loads_of r) true

-- declines 1, 3, 4 and 5
unfoldable pub store_decline_of : Geometry → Device → ℕ → ℕ → Verdict
store_decline_of g d r form =
    first_of (common_decline_of g d [] 0)
    (pick (has_form_of r form)
    (pick (may_store_of d r) (Ok tt) (Err Decline.Running))
    (Err Decline.Register))

abbrev pub data_after : List ℕ → ℕ → ℕ → List ℕ
data_after quad r w =
    pick (eqb r NVMDATA0) (set quad 0 w)
    (pick (eqb r NVMDATA1) (set quad 1 w)
    (pick (eqb r NVMDATA2) (set quad 2 w)
    (pick (eqb r NVMDATA3) (set quad 3 w) quad)))

-- the device after a store to another register than NVMCON: "each field takes it if its condition holds on the state before
-- the store, and else stays"; a key store moves the key step, "Any other accepted store .. sets it to 0 afterwards"
unfoldable pub applied_of : Device → ℕ → ℕ → Device
applied_of d r w =
    with_stored d
    (pick (eqb r NVMADDR) w d.nvmaddr)
    (data_after d.nvmdata r w)
    (pick (eqb r NVMSRCADDR) w d.nvmsrcaddr)
    (pick (eqb r NVMPWP) (merge_of (pwp_takes_of d) w d.nvmpwp.0) d.nvmpwp.0)
    (pick (eqb r NVMBWP) (merge_of (bwp_takes_of d) w d.nvmbwp.0) d.nvmbwp.0)
    (pick (eqb r NVMCON2) (merge_of (con2_takes_of d) w d.nvmcon2.0) d.nvmcon2.0)
    (pick (eqb r NVMKEY) (key_next_of d.keystep w) 0)

abbrev pub accepted : Device → Bool → Answer
accepted d event = record { decline = Ok tt; device = d; event = event }

-- a store of the wanted value w that is not declined
abbrev pub store_wanted : Geometry → Device → ℕ → ℕ → Answer
store_wanted g d r w =
    pick (eqb r NVMCON) (let l = con_store_of g d w in accepted (with_launched (with_con d l.nvmcon 0 d.step) l.operands) l.event)
    (accepted (applied_of d r w) false)

unfoldable pub store_accepted_of : Geometry → Device → ℕ → ℕ → ℕ → Answer
store_accepted_of g d r form value = store_wanted g d r (wanted_of form (register_of d r) value)

-- a store; where it is declined the device is as before, and there is no event (ours)
unfoldable pub store_of : Geometry → Device → ℕ → ℕ → ℕ → Answer
store_of g d r form value =
    pick (accepted_of (store_decline_of g d r form)) (store_accepted_of g d r form value)
    (record { decline = store_decline_of g d r form; device = d; event = false })

-- declines 1, 3 and 4
unfoldable pub read_decline_of : Geometry → Device → ℕ → Verdict
read_decline_of g d r = first_of (common_decline_of g d [] 0) (pick (ltb NVMCON2 r) (Err Decline.Register) (Ok tt))

-- the value of the register, 0 where the read is declined (ours); the key step is W-203's, where 01 had "any register read, sets it to 0
-- afterwards", and nothing else changes
unfoldable pub register_read_of : Geometry → Device → ℕ → RegisterRead
register_read_of g d r =
    pick (accepted_of (read_decline_of g d r))
    (record { decline = read_decline_of g d r; value = register_of d r; device = with_con d d.nvmcon.0 (key_after_read_of d.keystep) d.step })
    (record { decline = read_decline_of g d r; value = 0; device = d })
