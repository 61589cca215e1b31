-- Where declines 1 to 3 do not apply, both banks have their length.
use Rattle.common_declines.proofs.CommonDeclineLaws.{went_ready}
use Rattle.update_start.proofs.start_decline.Goals as goal

pub invariant_of-banks : goal.invariant_of-banks
invariant_of-banks c =
    let r = went_ready c.common_decline.ensures.verdict c.in_ok-layout.was c.in_ok-layout.ensures.layout in
    record { lengths = (r.lent.banks.0, r.lent.banks.1.0) }
