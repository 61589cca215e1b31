-- Four columns, each after the one before: the answer and the event have one digit each.
use Rattle.std.proofs.Common.{◌≡◌, ◌∙◌, arith}
use Rattle.text.specs.Lines.{flag_of}
use Rattle.text.proofs.DigitLaws.{width_one}
use Rattle.text.proofs.LineLaws.{flag_digit, flag_byte, put-line}
use Rattle.text.proofs.lines.put_line.Goals as goal

pub put_decimal-third-requires : goal.put_decimal-third-requires
put_decimal-third-requires c =
    omega (arith, width_one c.args.line.answer c.requires.answer_bound, c.put_decimal-second.ensures.1)

pub put_column-fourth-requires-clause-count_in_bounds : goal.put_column-fourth-requires-clause-count_in_bounds
put_column-fourth-requires-clause-count_in_bounds c =
    omega (arith, width_one c.args.line.answer c.requires.answer_bound, c.put_decimal-second.ensures.1, c.put_decimal-third.ensures.1)

pub put_decimal-requires : goal.put_decimal-requires
put_decimal-requires c =
    let event = c.args.line.event in
    let flag : c.from.result ≡ flag_of event = c.from.ensures ∙ flag_byte event in
    rw flag
    (omega (
      arith,
      width_one (flag_of event) (flag_digit event),
      width_one c.args.line.answer c.requires.answer_bound,
      c.put_decimal-second.ensures.1,
      c.put_decimal-third.ensures.1,
      c.put_column-fourth.ensures.1,
    ))

pub returns : goal.returns
returns c =
    let a = c.args in
    let l = a.line in
    let flag : c.from.result ≡ flag_of l.event = c.from.ensures ∙ flag_byte l.event in
    let last = width_one (flag_of l.event) (flag_digit l.event) in
    let one = width_one l.answer c.requires.answer_bound in
    let (written, next) = c.put_decimal.ensures in
    let (written₃, next₃) = c.put_column-fourth.ensures in
    let (written₂, next₂) = c.put_decimal-third.ensures in
    let (written₁, next₁) = c.put_decimal-second.ensures in (
      rw (written, flag, written₃, next₃, written₂, next₂, written₁, next₁)
          (put-line a.out.now a.at l.number l.answer l.con l.event),
      rw (next, flag) (omega (arith, last, one, next₃, next₂, next₁)),
    )
