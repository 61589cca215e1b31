-- The invariant: the lines so far are in the buffer.
use Rattle.std.proofs.Common.{◌≡◌, length}
use Rattle.std.proofs.lemmas.List.Edits.{sets}
use Rattle.sheet.specs.Sheet.{lines_of}
use Rattle.sheet.proofs.put_kind.Given as goal

abbrev pub invariant-loop-page : goal.invariant-loop-page
invariant-loop-page l =
    let b = l.bank in
    (length l.out ≡ length l.fn.out) × (l.out ≡ sets l.fn.out l.at (lines_of b.layout.geometry b.d b.words.now b.second l.program l.page))
