-- The list has as many actions as the total, and the action of each place is the list's. Assumes nothing.
use Rattle.update.specs.Listed.{Listed}
use Rattle.update.proofs.ActionLaws.{actions_total, action_listed}

pub listed : Listed
listed = record { total = actions_total; action = action_listed }
