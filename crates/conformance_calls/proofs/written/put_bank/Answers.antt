-- A bank without changes is one that was the same before.
use Rattle.std.proofs.Common.{rules, ap, sym, ◌∙◌, length}
use Rattle.conformance_io.proofs.ChangesLaws.{unchanged}
use Rattle.conformance_calls.proofs.written.put_bank.Goals as goal

pub returns-then-count-eq0 : goal.returns-then-count-eq0
returns-then-count-eq0 g c plain ok =
    let after = c.args.after.now in
    let same = unchanged c.args.bank 0 after in
    record {
      before = after;
      counted = ap length same ∙ sym c.if-count-eq0.true;
      wrote = rw same (search rules);
    }
