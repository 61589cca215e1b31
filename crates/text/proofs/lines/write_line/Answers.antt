-- A line has at most 34 bytes, so it is written whole, and then as much of it as has room is copied.
use Rattle.std.proofs.Common.{arith, sym, ap, length}
use lib.ListN.{replicate}
use lib.Seq.{length-take-le, length-sets}
use Rattle.text.proofs.BufferLaws.{sets_whole}
use Rattle.text.proofs.DigitLaws.{width_twenty}
use Rattle.text.proofs.LineLaws.{line_length}
use Rattle.text.specs.Lines.{line_of}
use Rattle.text.proofs.lines.write_line.Goals as goal

pub put_line-count-requires-clause-number_in_bounds : goal.put_line-count-requires-clause-number_in_bounds
put_line-count-requires-clause-number_in_bounds c = omega (arith, width_twenty c.args.line.number (omega arith))

pub slice_bounds-bytes-end : goal.slice_bounds-bytes-end
slice_bounds-bytes-end c =
    let long = ap length c.put_line-count.ensures.0 in
    omega (arith, width_twenty c.args.line.number (omega arith), c.put_line-count.ensures.1, simp length-sets at long)

pub slice_bounds-put_front-end : goal.slice_bounds-put_front-end
slice_bounds-put_front-end c =
    let long = ap length c.put_line-count.ensures.0 in
    sym
    (length-take-le _ _ (omega (arith, width_twenty c.args.line.number (omega arith), c.put_line-count.ensures.1, simp length-sets at long)))

pub returns : goal.returns
returns c =
    let l = c.args.line in
    let (written, next) = c.put_line-count.ensures in
    let size = line_length l.number l.answer l.con l.event c.requires in
    let short = width_twenty l.number (omega arith) in
    let whole = sets_whole (replicate 34 0) (line_of l.number l.answer l.con l.event) c.put_line-count.result
    (omega (arith, size, next)) (omega (arith, size, next, short)) in
    (rw (c.put_front.ensures, written, whole), omega (arith, c.saturating_add.ensures, next))
