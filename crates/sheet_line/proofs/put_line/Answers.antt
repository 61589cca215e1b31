-- Each column fits, and starts where the one before ends.
use Rattle.std.proofs.Common.{◌∙◌}
use Rattle.text.proofs.LineLaws.{flag_byte}
use Rattle.sheet_line.proofs.WidthLaws.{page_width, quads_width, bank_width, flag_width}
use Rattle.sheet_line.proofs.PutLaws.{put-line}
use Rattle.sheet_line.proofs.put_line.Goals as goal

pub put_right_column-requires-clause-number_bound : goal.put_right_column-requires-clause-number_bound
put_right_column-requires-clause-number_bound c = rw c.bank_number.ensures (bank_width c.args.s.second)

pub put_right_column-requires-2-clause-number_bound : goal.put_right_column-requires-2-clause-number_bound
put_right_column-requires-2-clause-number_bound c = page_width _ c.requires.page_bound.0

pub put_right_column-requires-3-clause-number_bound : goal.put_right_column-requires-3-clause-number_bound
put_right_column-requires-3-clause-number_bound c = rw (c.from.ensures ∙ flag_byte c.args.s.protected) (flag_width c.args.s.protected)

pub put_right_column-requires-4-clause-number_bound : goal.put_right_column-requires-4-clause-number_bound
put_right_column-requires-4-clause-number_bound c = quads_width _ c.requires.page_bound.1

pub returns : goal.returns
returns c =
    rw (
      c.put_right_column-4.ensures,
      c.put_right_column-3.ensures,
      c.put_letter-2.ensures,
      c.put_right_column-2.ensures,
      c.put_letter.ensures,
      c.put_right_column.ensures,
      c.bank_number.ensures,
      c.kind_letter.ensures,
      c.side_letter.ensures,
      c.from.ensures ∙ flag_byte c.args.s.protected,
    ) (put-line c.args.out.now c.args.at c.args.s c.requires.page_bound.0)
