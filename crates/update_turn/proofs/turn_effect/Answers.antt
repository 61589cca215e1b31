-- Declined by 1 to 3 or by the place, done at the total, or the action of the place.
use Rattle.std.proofs.Common.{arith}
use Rattle.common_declines.proofs.CommonDeclineLaws.{went_ready}
use Rattle.update.proofs.FormLaws.{actions_formed, total_high}
use Rattle.update_turn.proofs.turn_effect.Goals as goal

pub act-requires-clause-formed : goal.act-requires-clause-formed
act-requires-clause-formed c = rw c.action_at-action.ensures (actions_formed _ _ _ _)

pub act-requires-clause-place_bound : goal.act-requires-clause-place_bound
act-requires-clause-place_bound c =
    omega (arith, total_high c.in_ok-layout.layout.geometry c.in_ok-layout.layout.in_range, c.total-total.ensures, c.if-total-place.false)

pub invariant_of-banks : goal.invariant_of-banks
invariant_of-banks c =
    let r = went_ready c.common_decline.ensures.verdict c.in_ok-layout.was c.in_ok-layout.ensures.layout in
    record { lengths = (r.lent.banks.0, r.lent.banks.1.0) }

pub invariant_of-new : goal.invariant_of-new
invariant_of-new c =
    let r = went_ready c.common_decline.ensures.verdict c.in_ok-layout.was c.in_ok-layout.ensures.layout in
    record { long = r.lent.banks.1.1.0 }

pub act-requires-clause-g_value : goal.act-requires-clause-g_value
act-requires-clause-g_value c =
    let r = went_ready c.common_decline.ensures.verdict c.in_ok-layout.was c.in_ok-layout.ensures.layout in
    r.lent.listed

pub act-requires-clause-d_value : goal.act-requires-clause-d_value
act-requires-clause-d_value c =
    let r = went_ready c.common_decline.ensures.verdict c.in_ok-layout.was c.in_ok-layout.ensures.layout in
    r.possible

pub act-requires-clause-sram_len_bound : goal.act-requires-clause-sram_len_bound
act-requires-clause-sram_len_bound c =
    let r = went_ready c.common_decline.ensures.verdict c.in_ok-layout.was c.in_ok-layout.ensures.layout in
    r.lent.room
