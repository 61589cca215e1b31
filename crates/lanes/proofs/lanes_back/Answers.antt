-- An accepted call has whole words, and after the last block all are moved.
use Rattle.std.proofs.Common.{◌≡◌, ◌/◌, ◌*◌, min, length, sym, ap, arith}
use Rattle.words.specs.Decline.{accepted_of}
use Rattle.lanes.proofs.MoveLaws.{back_ends}
use Rattle.lanes.proofs.DeclineLaws.{accepted_lengths}
use Rattle.lanes.proofs.lanes_back.Goals as goal

pub loop-block-init : goal.loop-block-init
loop-block-init c =
    let accepted = ap accepted_of (sym c.in_ok-lanes_decline.ensures) in
    let (whole, same) = accepted_lengths _ _ accepted in
    record { whole = whole; same = same; kept = same; moved = λ k j hk hj. absurd (omega arith) }

pub returns : goal.returns
returns c =
    let inv = c.loop-block.invariant in
    let source = c.args.source.now in
    let accepted = ap accepted_of (sym c.in_ok-lanes_decline.ensures) in
    let last : min (128 * c.loop-block.block) (length source / 4) ≡ length source / 4 = omega arith in
    (c.in_ok-lanes_decline.ensures, rw accepted (back_ends source c.loop-block.target inv.kept (rw last at inv.moved)))
