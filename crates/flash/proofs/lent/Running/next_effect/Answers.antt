-- The quad of the next step lies in its window, and so in both banks.
use Rattle.std.proofs.Common.{arith, ap}
use Rattle.map.specs.Windows.{Location, window_bytes_of, quad_index_of}
use Rattle.flash.proofs.EffectLaws.{runs_room, runs_in_bank}
use Rattle.flash.proofs.lent.Running.next_effect.Goals as goal

pub is_blocked-requires : goal.is_blocked-requires
is_blocked-requires c =
    let r = c.args.self in
    let g = r.banks.layout.geometry in
    let at = ap (λ (l : Location). l.offset) c.step_location-l.ensures in
    let window = ap (λ (l : Location). window_bytes_of g l.program) c.step_location-l.ensures in
    omega (arith, at, window, runs_room g r.device r.runs)

pub old_quad-requires : goal.old_quad-requires
old_quad-requires c =
    let r = c.args.self in
    let g = r.banks.layout.geometry in
    let room = runs_in_bank g r.device r.runs in
    let at = c.quad_index-quad.ensures in
    let is = ap (quad_index_of g) c.step_location-l.ensures in
    (omega (arith, room, at, is, r.banks.lengths.0), omega (arith, room, at, is, r.banks.lengths.1))
