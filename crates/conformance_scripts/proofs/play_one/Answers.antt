-- What is printed lies within the buffer, which has room for every output.
use Rattle.std.proofs.Common.{sym, arith, ◌≤◌, length, length-take-le}
use Rattle.script_program.proofs.ProgramLaws.{print_within}
use Rattle.conformance_scripts.proofs.play_one.Goals as goal

pub slice_bounds-write_all-end : goal.slice_bounds-write_all-end
slice_bounds-write_all-end g c =
    let within : c.print-bytes.result ≤ length c.args.out.now = print_within _ _ _ c.print-bytes.ensures c.requires in
    omega arith

pub slice_bounds-write_all-end-2 : goal.slice_bounds-write_all-end-2
slice_bounds-write_all-end-2 g c =
    let within : c.print-bytes.result ≤ length c.args.out.now = print_within _ _ _ c.print-bytes.ensures c.requires in
    sym (length-take-le _ _ (omega arith))
