-- An accepted reset tells that what is lent fits and that the device is possible; the tear leaves the banks as long.
use Rattle.std.proofs.Common.{sym, ap, ◌∙◌}
use Rattle.words.specs.Decline.{accepted_of}
use Rattle.resets.proofs.AcceptedLaws.{reset_ready}
use Rattle.resets.proofs.reset.Goals as goal

pub tear-requires-clause-d_value : goal.tear-requires-clause-d_value
tear-requires-clause-d_value c =
    rw c.in_ok-layout.ensures.known.0 (reset_ready _ _ _ _ _ _ (sym (ap accepted_of c.in_ok-layout.ensures.verdict))).possible

pub tear-requires-clause-one_len : goal.tear-requires-clause-one_len
tear-requires-clause-one_len c =
    let ready = reset_ready _ _ _ _ _ _ (sym (ap accepted_of c.in_ok-layout.ensures.verdict)) in
    rw c.in_ok-layout.ensures.known.0 (ready.lent.banks.0, ready.lent.banks.1.0)

pub invariant_of-banks : goal.invariant_of-banks
invariant_of-banks c =
    let ready = reset_ready _ _ _ _ _ _ (sym (ap accepted_of c.in_ok-layout.ensures.verdict)) in
    record { lengths = rw c.in_ok-layout.ensures.known.0 (c.tear.auto.one ∙ ready.lent.banks.0, c.tear.auto.two ∙ ready.lent.banks.1.0) }
