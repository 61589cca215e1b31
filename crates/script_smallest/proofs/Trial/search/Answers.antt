-- The first play tells whether the number is given at all; where it is, records are dropped in the result buffer.
use Rattle.device.specs.State.{lent}
use Rattle.script_smallest.proofs.SearchLaws.{not_found, found}
use Rattle.script_smallest.proofs.Trial.search.Goals as goal

pub returns-then-not-shows_without : goal.returns-then-not-shows_without
returns-then-not-shows_without c =
    let a = c.args in
    not_found a.self.now.g a.self.now.sram.now (lent a.self.now.device a.self.now.one a.self.now.two) a.self.now.number a.script.now a.res.now _
    c.shows_without.ensures c.requires.script_len c.if-not-shows_without.true

pub returns : goal.returns
returns c =
    let a = c.args in
    let d = c.drop_records.ensures in
    found a.self.now.g a.self.now.sram.now (lent a.self.now.device a.self.now.one a.self.now.two) a.self.now.number a.script.now a.res.now _
    c.shows_without.ensures c.requires.script_len c.if-not-shows_without.false _ _ _ c.set_all.ensures d.value d.script_after
