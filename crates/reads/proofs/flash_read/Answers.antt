-- Declined; read at once where the bank is free; and else read after the steps that remain.
use Rattle.std.proofs.Common.{◌≡◌, ℕ, ◌<◌, Bool, true, false, sym, ap, ◌∙◌, arith}
use Rattle.words.specs.Decline.{accepted_of}
use Rattle.geometry.specs.declared.banks.Geometry.{Geometry}
use Rattle.geometry.specs.Banks.{InRange}
use Rattle.map.specs.Windows.{Location, window_bytes_of, locate_of}
use Rattle.map.proofs.WindowLaws.{stands}
use Rattle.device.specs.declared.record.Device.{Device}
use Rattle.device.specs.Record.{running}
use Rattle.flash.proofs.AcceptedLaws.{runs}
use Rattle.flash.proofs.StepLaws.{step_accepts}
use Rattle.reads.specs.Read.{free_of}
use Rattle.reads.proofs.AcceptedLaws.{read_ready}
use Rattle.reads.proofs.StepsLaws.{worked_on}
use Rattle.reads.proofs.flash_read.Goals as goal

-- the bank is worked on
busy : (g : Geometry) (d : Device) (second t : Bool) → t ≡ free_of g d second → t ≡ false → running d ≡ true
busy g d second t e h = worked_on g d second (sym e ∙ h)

-- what was located lies in its window
lies : (g : Geometry) (address : ℕ) (l : Location) → InRange g → l ≡ locate_of g address → (locate_of g address).inside ≡ true
    → l.offset < window_bytes_of g l.program
lies g address l ok e inside = rw e (stands g ok address inside).room

pub is_free-requires : goal.is_free-requires
is_free-requires c =
    rw c.in_ok-layout.ensures.found.0 (read_ready _ _ _ _ _ _ (sym (ap accepted_of c.in_ok-layout.ensures.verdict))).0.possible

pub overflow_sub-length : goal.overflow_sub-length
overflow_sub-length c =
    let found = c.in_ok-layout in
    let possible = (read_ready _ _ _ _ _ _ (sym (ap accepted_of found.ensures.verdict))).0.possible in
    let on = busy _ _ _ _ c.is_free.ensures c.if-is_free.false in
    let run = runs found.layout.geometry c.args.d found.layout.in_range (rw found.ensures.found.0 possible) on in
    rw (c.length.ensures, c.op.ensures) (omega (arith, run.below))

pub steps-waited-requires : goal.steps-waited-requires
steps-waited-requires c =
    let r = (read_ready _ _ _ _ _ _ (sym (ap accepted_of c.in_ok-layout.ensures.verdict))).0 in
    let on = busy _ _ _ _ c.is_free.ensures c.if-is_free.false in
    rw c.in_ok-layout.ensures.found.0 (step_accepts _ _ _ _ _ r on)

pub invariant_of-banks : goal.invariant_of-banks
invariant_of-banks c =
    let r = (read_ready _ _ _ _ _ _ (sym (ap accepted_of c.in_ok-layout.ensures.verdict))).0 in
    record { lengths = rw c.in_ok-layout.ensures.found.0 (c.if-is_free.auto.one ∙ r.lent.banks.0, c.if-is_free.auto.two ∙ r.lent.banks.1.0) }

pub word_read-requires : goal.word_read-requires
word_read-requires c =
    let (r, inside) = read_ready _ _ _ _ _ _ (sym (ap accepted_of c.in_ok-layout.ensures.verdict)) in
    rw c.in_ok-layout.ensures.found.0 (lies _ _ _ r.lent.range c.in_ok-layout.ensures.found.1 inside)
