-- A record that can go is dropped, and the search begins again; one that cannot stays. At the end none can go.
use Rattle.std.proofs.Common.{arith}
use Rattle.script_smallest.proofs.DroppingLaws.{dropping_starts, drop_next, keep_next, drop_ends}
use Rattle.script_smallest.proofs.Trial.drop_records.Goals as goal

pub loop-i-init : goal.loop-i-init
loop-i-init c = record {
  within = omega arith;
  dropping = dropping_starts _ _ _ _ c.args.script.now c.requires.script_len;
}

pub loop-i-preserved-then-shows_without : goal.loop-i-preserved-then-shows_without
loop-i-preserved-then-shows_without c =
    let l = c.loop-i in
    record {
      within = omega arith;
      dropping =
          drop_next _ _ _ _ _ _ _ _ l.invariant.dropping c.loop-i-test.true _ c.shows_without.ensures c.if-shows_without.true _ c.remove_record.ensures;
    }

pub loop-i-preserved : goal.loop-i-preserved
loop-i-preserved c =
    let l = c.loop-i in record {
      within = omega arith;
      dropping =
          keep_next _ _ _ _ _ _ _ _ l.invariant.dropping c.loop-i-test.true _ c.shows_without.ensures c.if-shows_without.false;
    }

pub returns-clause-value : goal.returns-clause-value
returns-clause-value c = (drop_ends _ _ _ _ _ _ _ _ c.loop-i.invariant.dropping (omega arith)).0

pub returns-clause-script_after : goal.returns-clause-script_after
returns-clause-script_after c = (drop_ends _ _ _ _ _ _ _ _ c.loop-i.invariant.dropping (omega arith)).1
