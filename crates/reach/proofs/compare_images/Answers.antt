-- At most every word so far differs, and there are few.
use Rattle.std.proofs.Common.{ap, arith}
use Rattle.reach.specs.declared.Difference.{Difference}
use Rattle.reach.proofs.DifferenceLaws.{count_most}
use Rattle.reach.proofs.compare_images.Goals as goal

pub with_word-d-requires : goal.with_word-d-requires
with_word-d-requires c =
    let counted = ap (λ (d : Difference). d.count) c.loop-i.invariant in
    omega (arith, counted, count_most c.args.image.now c.args.other.now c.loop-i.i)
