-- All that is promised of a row of signs on one supply. Assumes nothing.
use Rattle.row.specs.Rows.{Rows}
use Rattle.row.proofs.Supply.{supply}
use Rattle.row.proofs.RowCut.{row_cut}
use Rattle.row.proofs.Progress.{progress}

pub rows : Rows
rows = record { supply = supply; cut = row_cut; progress = progress }
