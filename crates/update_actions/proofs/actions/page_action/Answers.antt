-- The page's first quad is one of the bank's.
use Rattle.std.proofs.Common.{arith}
use Rattle.std.proofs.Math.Nat.{mul-lt-mul_of_pos_right}
use Rattle.update_actions.proofs.actions.page_action.Goals as goal

pub upper_address-requires : goal.upper_address-requires
upper_address-requires c =
    rw c.page_quads.ensures (mul-lt-mul_of_pos_right c.requires (omega (arith, c.args.layout.in_range.q_low)))
