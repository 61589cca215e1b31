-- An accepted call has whole words, a round moves a word, and after the last word all are moved.
use Rattle.std.proofs.Common.{◌≡◌, ◌/◌, length, sym, ap, arith}
use lib.ListN.{length-set}
use Rattle.words.specs.Decline.{accepted_of}
use Rattle.lanes.proofs.MoveLaws.{out_next, out_ends}
use Rattle.lanes.proofs.DeclineLaws.{accepted_lengths}
use Rattle.lanes.proofs.lanes_out.Goals as goal

pub loop-i-init : goal.loop-i-init
loop-i-init c =
    let accepted = ap accepted_of (sym c.in_ok-lanes_decline.ensures) in
    let (whole, same) = accepted_lengths _ _ accepted in
    record { whole = whole; same = same; kept = same; moved = λ k j hk hj. absurd (omega arith) }

pub loop-i-preserved : goal.loop-i-preserved
loop-i-preserved c =
    let inv = c.loop-i.invariant in
    record {
      whole = inv.whole;
      same = inv.same;
      kept = simp length-set inv.kept;
      moved = out_next c.args.source.now c.loop-i.target _ c.loop-i.i inv.kept c.loop-i-test.true inv.moved;
    }

pub returns : goal.returns
returns c =
    let inv = c.loop-i.invariant in
    let source = c.args.source.now in
    let accepted = ap accepted_of (sym c.in_ok-lanes_decline.ensures) in
    let last : c.loop-i.i ≡ length source / 4 = omega arith in
    (c.in_ok-lanes_decline.ensures, rw accepted (out_ends source c.loop-i.target inv.kept (rw last at inv.moved)))
