-- Quad i of the programming is one of the bank's.
use Rattle.update.proofs.BankLaws.{quad_below}
use Rattle.update_actions.proofs.new_bank.NewBank.quad_action.Goals as goal

pub quad-requires : goal.quad-requires
quad-requires c =
    let layout = c.args.self.layout in
    rw c.programmed_quad-quad.ensures (quad_below layout.geometry layout.in_range c.args.i c.requires.i_bound)

pub program_action-requires-clause-quad_bound : goal.program_action-requires-clause-quad_bound
program_action-requires-clause-quad_bound c =
    let layout = c.args.self.layout in
    rw c.programmed_quad-quad.ensures (quad_below layout.geometry layout.in_range c.args.i c.requires.i_bound)
