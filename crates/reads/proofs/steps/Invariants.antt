-- The steps that are left lead from here to where all of them lead from the start.
use Rattle.std.proofs.Common.{◌≡◌, ◌-◌, true, length}
use Rattle.words.specs.Decline.{accepted_of}
use Rattle.device.specs.State.{state}
use Rattle.flash.specs.Step.{step_decline_of}
use Rattle.reads.specs.Read.{steps_of}
use Rattle.reads.proofs.steps.Given as goal

abbrev pub invariant-loop : goal.invariant-loop
invariant-loop l = record {
  same : steps_of l.layout.geometry l.sram (l.count - l.counter) (state l.device l.one l.two)
      ≡ steps_of l.layout.geometry l.sram l.count (state l.fn.d l.fn.one l.fn.two);
  going : accepted_of (step_decline_of l.layout.geometry l.device (length l.one) (length l.two) (length l.sram)) ≡ true;
}
