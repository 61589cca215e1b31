-- With WR = 1 an operation runs, so that the quad of its next step lies in both banks.
use Rattle.std.proofs.Common.{sym, ap, arith, ◌∙◌}
use Rattle.device.specs.State.{state}
use Rattle.flash.specs.Effect.{Effect}
use Rattle.flash.proofs.EffectLaws.{effect_in_bank}
use Rattle.flash.proofs.AcceptedLaws.{runs}
use Rattle.resets.proofs.tear.Goals as goal

pub invariant_of-banks : goal.invariant_of-banks
invariant_of-banks c = record { lengths = c.requires.one_len }

pub invariant_of-running : goal.invariant_of-running
invariant_of-running c =
    record { runs = runs c.args.layout.geometry c.args.d c.args.layout.in_range c.requires.d_value (sym c.has.ensures ∙ c.if-not-has.false) }

pub old_quad-old-requires : goal.old_quad-old-requires
old_quad-old-requires c =
    let a = c.args in
    let on = runs a.layout.geometry a.d c.args.layout.in_range c.requires.d_value (sym c.has.ensures ∙ c.if-not-has.false) in
    let h = effect_in_bank a.layout.geometry (state a.d a.one.now a.two.now) a.sram.now on in
    let same = ap (λ (e : Effect). e.write.quad) c.next_effect.ensures in
    (omega (arith, h, same, c.requires.one_len.0), omega (arith, h, same, c.requires.one_len.1))

pub apply-requires : goal.apply-requires
apply-requires c written =
    let a = c.args in
    let on = runs a.layout.geometry a.d c.args.layout.in_range c.requires.d_value (sym c.has.ensures ∙ c.if-not-has.false) in
    let h = effect_in_bank a.layout.geometry (state a.d a.one.now a.two.now) a.sram.now on in
    let same = ap (λ (e : Effect). e.write.quad) c.next_effect.ensures in
    (omega (arith, h, same, c.requires.one_len.0), omega (arith, h, same, c.requires.one_len.1))
