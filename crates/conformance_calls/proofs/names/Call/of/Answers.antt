-- The bytes that are read one by one make the name.
use Rattle.std.proofs.Common.{rules, arith, codes, ◌≡◌}
use Rattle.std.proofs.lemmas.Slice.Eq.{text_from_reads}
use Rattle.conformance_calls.proofs.names.Call.of.Goals as goal

pub returns-in-117 : goal.returns-in-117
returns-in-117 c =
    let long = c.in-117.len_at_least in
    let short = c.in-117.len_below in
    let name : c.args.name.now ≡ codes "update_start" = text_from_reads _ _ (omega (arith, long, short)) (search rules) in
    record { known = name; unknown = λ e. absurd (search rules) }

pub returns-in-114 : goal.returns-in-114
returns-in-114 c =
    let long = c.in-114.len_at_least in
    let short = c.in-114.len_below in
    let name : c.args.name.now ≡ codes "register_read" = text_from_reads _ _ (omega (arith, long, short)) (search rules) in
    record { known = name; unknown = λ e. absurd (search rules) }
