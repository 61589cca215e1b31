-- The first n records are copied over free places.
use Rattle.row_list.proofs.ListLaws.{gathered_from}
use Rattle.row_list.proofs.gather.Goals as goal

pub returns : goal.returns
returns c =
    gathered_from c.args.signs.now c.args.n c.requires.0 c.requires.1 _ c.copy_from_slice.ensures.after _ c.no_sign-row.ensures
