-- Declined by WR, which lets pass stores to registers 2 to 7, or carried out as the store or the step that it is; only a step writes.
use Rattle.std.proofs.Common.{◌≡◌, ◌+◌, Ok, true, false, refl, sym, ap, subst, ◌∙◌}
use Rattle.flash.specs.Write.{Write, write_from, Fits}
use Rattle.update.specs.Answers.{turned_from}
use Rattle.device.specs.Record.{running}
use Rattle.device.specs.State.{state}
use Rattle.register_access.specs.Store.{may_store_of}
use Rattle.register_access.proofs.AcceptedLaws.{store_carried}
use Rattle.flash.specs.Step.{StepEffect, stepped_of}
use Rattle.flash.proofs.AcceptedLaws.{runs}
use Rattle.flash.proofs.EffectLaws.{effect_fits}
use Rattle.controller.specs.Controller.{Sound}
use Rattle.update.specs.declared.turn.TurnChange.{TurnChange}
use Rattle.update.specs.Turn.{act_of, performed, effected_of}
use Rattle.update.proofs.FormLaws.{step_carried}
use Rattle.update_turn.proofs.act.Goals as goal

pub returns-else-not-may_store-clause-result_value : goal.returns-else-not-may_store-clause-result_value
unfolding act_of
returns-else-not-may_store-clause-result_value c =
    let a = c.args in
    let may : may_store_of a.d c.in-Store.number ≡ true = sym c.may_store.ensures ∙ c.if-not-may_store.false in
    let formed = rw c.in-Store.is at c.requires.formed in
    let o = c.store_accepted.result in
    rw (c.going.ensures, c.in-Store.is, may)
    (ap
    (λ (w : Write).
    effected_of (state a.d a.banks.one.now a.banks.two.now)
    (record {
      turned = turned_from a.d a.place (Ok (record { done = false; device = o.device; place = a.place + 1; event = o.event }));
      write = w;
    })) c.no_write.ensures
    ∙ rw (store_carried a.banks.layout.geometry a.d _ _ _ c.requires.g_value c.requires.d_value formed may, ← c.store_accepted.ensures) refl)

-- an operation runs
pub invariant_of-running : goal.invariant_of-running
invariant_of-running c =
    let a = c.args in
    record { runs = runs a.banks.layout.geometry a.d a.banks.layout.in_range c.requires.d_value (sym c.has.ensures ∙ c.if-not-has.false) }

pub returns-else-not-has-clause-result_value : goal.returns-else-not-has-clause-result_value
unfolding act_of
returns-else-not-has-clause-result_value c =
    let a = c.args in
    let on : running a.d ≡ true = sym c.has.ensures ∙ c.if-not-has.false in
    let s = state a.d a.banks.one.now a.banks.two.now in
    let sound : Sound a.banks.layout.geometry s = record { possible = c.requires.d_value; first = a.banks.lengths.0; other = a.banks.lengths.1 } in
    rw (
      c.going-in-Step.ensures,
      c.in-Step.is,
      on,
      step_carried a.banks.layout.geometry s a.sram.now c.requires.g_value sound c.requires.sram_len_bound on,
    ) (ap (λ (e : StepEffect). performed a.place (stepped_of s e)) c.step_effect-e.ensures)

pub returns-else-not-has-clause-fits : goal.returns-else-not-has-clause-fits
returns-else-not-has-clause-fits c =
    let a = c.args in
    let on : running a.d ≡ true = sym c.has.ensures ∙ c.if-not-has.false in
    subst (λ (w : Write). Fits a.banks.one.now a.banks.two.now w)
    (sym (ap (λ (r : TurnChange). write_from r.write) c.going-in-Step.ensures ∙ ap (λ (e : StepEffect). e.write) c.step_effect-e.ensures))
    (effect_fits a.banks.layout.geometry (state a.d a.banks.one.now a.banks.two.now) a.sram.now
    (runs a.banks.layout.geometry a.d a.banks.layout.in_range c.requires.d_value on) a.banks.lengths)
