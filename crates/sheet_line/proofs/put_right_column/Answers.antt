-- Blanks in all the columns, and over the last of them the digits, and the byte that ends them.
use Rattle.std.proofs.Common.{◌≡◌, ◌∙◌, ◌-◌, ◌+◌, ℕ, ap, arith, replicate, length, drop, length-drop, take}
use lib.ListN.{length-take}
use Rattle.sheet_line.proofs.PutLaws.{put-right-column}
use Rattle.text.specs.Lines.{blank}
use Rattle.sheet_line.proofs.put_right_column.Goals as goal

pub returns : goal.returns
returns c =
    let a = c.args in
    let count : length (take (a.at + a.columns - a.at) (drop a.at a.out.now)) ≡ a.columns =
    simp (length-take, length-drop) (omega (arith, c.requires.columns_in_bounds)) in
    let filled : c.fill.new.self ≡ replicate a.columns blank = c.fill.ensures.after (λ y e. e) ∙ ap (λ (n : ℕ). replicate n blank) count in
    c.put_decimal.ensures.0
    ∙ rw filled
    (put-right-column a.out.now a.at a.columns a.number a.end (a.columns - c.width.result)
    c.requires.number_bound c.requires.columns_in_bounds (omega (arith, c.width.ensures)))
