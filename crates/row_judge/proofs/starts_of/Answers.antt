-- With the two starts of record i the list has those of i + 1.
use Rattle.std.proofs.Common.{arith, ◌<◌}
use Rattle.std.proofs.Math.Seq.{get_or-take}
use Rattle.row_signs.specs.Signs.{past_end}
use Rattle.row_judge.proofs.StartLaws.{starts_next}
use Rattle.row_judge.proofs.starts_of.Goals as goal

pub loop-i-preserved : goal.loop-i-preserved
loop-i-preserved c =
    let row = c.args.row.now in
    let i = c.loop-i.i in
    let inside : i < row.count = omega arith in
    rw (get_or-take row.count row.signs i past_end inside) (starts_next row.signs i c.loop-i.starts (omega arith) c.loop-i.invariant)
