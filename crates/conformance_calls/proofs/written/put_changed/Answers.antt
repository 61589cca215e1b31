-- The counts are those of all changes, and the changes of both banks follow.
use Rattle.std.proofs.Common.{refl, ap, sym, ℕ, List, ◌∷◌, ◌+◌}
use Rattle.std.specs.Fmt.{HasWritten, decimal}
use Rattle.std.proofs.lemmas.Grind.{put_three}
use Rattle.conformance_io.proofs.ChangesLaws.{both_printed}
use Rattle.conformance_calls.specs.Written.{BankWritten}
use Rattle.conformance_calls.proofs.written.put_changed.Goals as goal

pub returns : goal.returns
returns g c plain ok =
    let took = g.W.Write.write_str_gives in
    let changed = c.args.changed in
    let counts : HasWritten took c.args.f.now (32 ∷ decimal (c.count-in_one.result + c.count-in_two.result)) c.write.new.self
    = c.in_ok-write.ensures.writes plain refl in
    let one : BankWritten took c.write.new.self 1 changed.one.now c.count-in_one.result c.put_bank.new.f
    = c.in_ok-put_bank.ensures counts.plain refl in
    let two : BankWritten took c.put_bank.new.f 2 changed.two.now c.count-in_two.result c.put_bank-2.new.f
    = c.put_bank-2.ensures one.wrote.plain ok in
    record {
      one = one.before;
      two = two.before;
      wrote = put_three _ _ _ _ _ _ _ _ _ counts one.wrote two.wrote
          (ap (λ (text : List ℕ). 32 ∷ text) (both_printed _ _ _ _ (sym one.counted) (sym two.counted)));
    }
