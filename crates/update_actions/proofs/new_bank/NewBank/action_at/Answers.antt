-- A place of a page or of a quad, by division.
use Rattle.std.proofs.Common.{◌≡◌, ◌+◌, ◌*◌}
use Rattle.update.specs.Actions.{programming_from}
use Rattle.update.proofs.BankLaws.{page_below}
use Rattle.update.proofs.PlaceLaws.{page_at_lem, rest_below}
use Rattle.update_actions.proofs.new_bank.NewBank.action_at.Goals as goal

-- the code's first place of the programming is the definition's
pub page_action-requires : goal.page_action-requires
page_action-requires c =
    let layout = c.args.self.layout in
    let first : 12 + c.pages.result * (8 + c.page_quads-block.result) ≡ programming_from layout.geometry = cc (c.pages.ensures, c.page_quads-block.ensures) in
    let page = page_at_lem layout.geometry c.args.place c.if-place-lt12.false (rw first at c.if-place-programming.true) in
    rw (c.erased_page.ensures, c.page_quads-block.ensures) (page_below layout.geometry layout.in_range _ page)

pub quad_action-requires-clause-i_bound : goal.quad_action-requires-clause-i_bound
quad_action-requires-clause-i_bound c =
    let layout = c.args.self.layout in
    let first : 12 + c.pages.result * (8 + c.page_quads-block.result) ≡ programming_from layout.geometry = cc (c.pages.ensures, c.page_quads-block.ensures) in
    rw first (rest_below layout.geometry c.args.place (rw first at c.if-place-programming.false) c.requires)
