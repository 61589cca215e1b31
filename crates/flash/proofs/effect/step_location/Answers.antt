-- No sum or product leaves a word: an operation has fewer than 2^18 steps, and its target lies in its window.
use Rattle.std.proofs.Common.{arith, ap}
use Rattle.map.specs.Windows.{Location}
use Rattle.map.proofs.LocationLaws.{found}
use Rattle.flash.proofs.EffectLaws.{target_fits, target_inside}
use Rattle.flash.proofs.effect.step_location.Goals as goal

pub unwrap-target-requires : goal.unwrap-target-requires
unwrap-target-requires c =
    found _ _ (rw c.op-op.ensures at c.target.ensures) (target_inside c.args.layout.geometry c.args.d c.requires (omega arith))

pub overflow_add-result : goal.overflow_add-result
overflow_add-result c =
    let at = rw (c.unwrap-target.ensures, c.op-op.ensures) at c.target.ensures in
    omega (arith, ap (λ (l : Location). l.offset) at, target_fits c.args.layout.geometry c.args.d c.requires (omega arith))
