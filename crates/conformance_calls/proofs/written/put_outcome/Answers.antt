-- The changes follow the numbers.
use Rattle.std.proofs.Common.{refl, ap, sym, ◌++◌}
use Rattle.std.specs.Fmt.{HasWritten}
use Rattle.std.proofs.lemmas.Grind.{put_two}
use Rattle.conformance_io.specs.Numbers.{listed}
use Rattle.conformance_io.specs.Outcome.{changed_text}
use Rattle.conformance_io.specs.Text.{numbers_text}
use Rattle.conformance_calls.proofs.written.put_outcome.Goals as goal

pub returns-in-Some : goal.returns-in-Some
returns-in-Some g c plain ok =
    let text = numbers_text (listed c.args.outcome.numbers) in
    let numbers : HasWritten g.W.Write.write_str_gives c.args.f.now text c.write.new.self = c.in_ok-write.ensures.writes plain refl in
    let changed = c.put_changed.ensures numbers.plain ok in
    record {
      one = changed.one;
      two = changed.two;
      wrote = put_two _ _ _ _ _ _ _ numbers changed.wrote (ap (λ rest. text ++ changed_text changed.one changed.two rest) (sym c.in-Some.is));
    }
