-- Too long, declined, or played.
use Rattle.std.proofs.Common.{◌≡◌, false, ◌∙◌, ap, sym, arith, Ok, Err}
use borrow.Author.Tests.{ne_eqb}
use Rattle.words.specs.declared.decline.Decline.{Decline}
use Rattle.words.specs.Decline.{Verdict, accepted_of}
use Rattle.words.proofs.Numbers.{numbers}
use Rattle.script_program.specs.Program.{Printout}
use Rattle.script_program.proofs.ProgramLaws.{print_long, print_accepted, print_declined}
use Rattle.script_program.proofs.print.Goals as goal

declines : (e : Decline) → accepted_of (Err e) ≡ false
declines e = ne_eqb _ _ (λ h. let same : ◌≡◌ {A = Verdict} (Err e) (Ok tt) = numbers.one (Err e) (Ok tt) h in cc)

pub returns-then-script-gt-LONGEST : goal.returns-then-script-gt-LONGEST
returns-then-script-gt-LONGEST c = c.print_decline.ensures ∙ sym (print_long c.args.script.now c.args.out.now (omega arith))

pub returns-in-Ok : goal.returns-in-Ok
returns-in-Ok c =
    let played = c.in-Ok.ensures in
    played.out_after ∙ print_accepted c.args.script.now c.args.out.now (omega arith) (ap accepted_of (sym played.decline_value))

pub returns-in-Err : goal.returns-in-Err
returns-in-Err c =
    let played = c.in-Err.ensures in
    let refused = ap accepted_of (sym played.decline_value) ∙ declines c.in-Err.field-0 in
    let (same, printed) = print_declined c.args.script.now c.args.out.now (omega arith) refused in
    rw (printed, ← same, ← ap (λ (q : Printout). q.buffer) played.out_after) c.print_decline-in-Err.ensures
