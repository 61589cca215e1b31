-- The program pages start where the boot pages end.
use Rattle.sheet.proofs.PutLaws.{put-bank}
use Rattle.sheet.proofs.put_bank.Goals as goal

pub returns : goal.returns
returns c =
    let a = c.args in
    let b = a.bank in
    rw (c.put_kind-2.ensures, c.put_kind.ensures)
    (put-bank b.layout.geometry b.layout.in_range b.d b.words.now b.second a.out.now a.at)
