-- A target in a program region lies in one of its pages.
use Rattle.std.proofs.Common.{refl, arith}
use Rattle.std.proofs.lemmas.Bool.{not-false}
use Rattle.map.specs.Location.{stands_of}
use Rattle.nvmop.proofs.OperationLaws.{target_page}
use Rattle.nvmop.proofs.target_begins.Goals as goal

pub is_page_protected-requires : goal.is_page_protected-requires
is_page_protected-requires c =
    let layout = c.args.layout in
    let page = target_page layout.geometry layout.in_range c.args.op c.args.address
    (stands_of c.in-Some.l) c.in-Some.ensures refl (not-false _ c.if-not-l.false) in
    omega (arith, c.page.ensures, page)
