-- The record of the next action is written after those before it, and after the last action they are the script.
use Rattle.std.proofs.Common.{◌≡◌, ◌<◌, add-one, arith}
use Rattle.update.specs.Actions.{total_of}
use Rattle.script_write.proofs.ScriptLaws.{put_next, put_all}
use Rattle.script_write.proofs.put_actions.Goals as goal

pub loop-place-preserved : goal.loop-place-preserved
loop-place-preserved c =
    let below : c.loop-place.place < total_of c.args.new.layout.geometry = omega (arith, c.loop-place-test.true, c.total-place-end.ensures) in
    rw (add-one c.loop-place.place, c.put_record.ensures, c.record_of.ensures, c.action_at-action.ensures, c.loop-place.invariant)
    (put_next c.args.new.layout.geometry c.args.new.image.now c.args.new.word c.args.out.now c.loop-place.place below)

pub returns : goal.returns
returns c =
    let all : c.loop-place.place ≡ total_of c.args.new.layout.geometry =
    omega (arith, c.loop-place-test.false, c.loop-place.auto.place-end, c.total-place-end.ensures) in
    rw (all, put_all c.args.new.layout.geometry c.args.new.image.now c.args.new.word) at c.loop-place.invariant
