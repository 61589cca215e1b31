-- By the list of the starts the banks stand as by the records.
use Rattle.std.proofs.Common.{ℕ, ◌*◌, ◌≡◌, Bool, false, get_or, sym, ◌∙◌, arith}
use Rattle.words.proofs.PickLaws.{not_all_below}
use Rattle.row_judge.specs.Judge.{bank_stands_of}
use Rattle.row_judge.proofs.StartLaws.{by_starts}
use Rattle.row_judge.proofs.banks_stand.Goals as goal

pub returns-then-not-bank_stands : goal.returns-then-not-bank_stands
returns-then-not-bank_stands c =
    let a = c.args in
    let starts = c.starts_of-starts.result in
    let stands : ℕ → Bool = bank_stands_of (λ e. get_or starts e 0) a.words a.store in
    let fails : stands c.loop-b.b ≡ false = sym c.bank_stands.ensures ∙ c.if-not-bank_stands.true in
    sym (not_all_below stands (2 * a.row.now.count) c.loop-b.b c.loop-b-test.true fails)
    ∙ by_starts a.row.now.signs a.row.now.count a.words a.store starts c.starts_of-starts.ensures

pub returns : goal.returns
returns c =
    let a = c.args in
    let all : c.loop-b.b ≡ 2 * a.row.now.count = omega arith in
    sym (rw all at c.loop-b.invariant)
    ∙ by_starts a.row.now.signs a.row.now.count a.words a.store c.starts_of-starts.result c.starts_of-starts.ensures
