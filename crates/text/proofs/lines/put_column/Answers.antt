-- The digits, and the byte after them.
use Rattle.std.proofs.Common.{refl}
use Rattle.text.proofs.LineLaws.{put-column}
use Rattle.text.proofs.lines.put_column.Goals as goal

pub returns : goal.returns
returns c =
    let a = c.args in
    (rw c.put_digits.ensures (put-column a.out.now a.at a.base a.number a.count a.end), refl)
