-- The effect of the step, and then its write: a step to which no decline applies runs, and its write lies in both banks.
use Rattle.std.proofs.Common.{ap, sym, subst}
use Rattle.device.specs.State.{state}
use Rattle.flash.specs.Write.{Fits}
use Rattle.flash.specs.Step.{StepEffect, stepped_of, step_of}
use Rattle.flash.proofs.EffectLaws.{effect_fits}
use Rattle.flash.proofs.AcceptedLaws.{step_ready}
use Rattle.flash.proofs.step.step_accepted.Goals as goal

pub invariant_of-banks : goal.invariant_of-banks
invariant_of-banks c =
    let (ready, on, _) = step_ready _ _ _ _ _ c.requires in record { lengths = (ready.lent.banks.0, ready.lent.banks.1.0) }

pub invariant_of-step_effect : goal.invariant_of-step_effect
invariant_of-step_effect c = record { runs = (step_ready _ _ _ _ _ c.requires).1 }

pub apply-requires : goal.apply-requires
apply-requires c =
    let a = c.args in
    let (ready, on, _) = step_ready _ _ _ _ _ c.requires in
    subst (Fits a.one.now a.two.now) (sym (ap (λ (e : StepEffect). e.write) c.step_effect-e.ensures))
    (effect_fits _ (state a.d a.one.now a.two.now) a.sram.now on (ready.lent.banks.0, ready.lent.banks.1.0))

pub returns : goal.returns
unfolding step_of
returns c =
    let a = c.args in
    rw (c.apply.ensures.0, c.apply.ensures.1, c.requires) (ap (stepped_of (state a.d a.one.now a.two.now)) c.step_effect-e.ensures)
