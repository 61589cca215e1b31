-- W-206: all that is promised of a row of signs on one supply. Assumes nothing.
use Rattle.std.specs.Prelude.{ℕ, List}
use Rattle.geometry.specs.declared.banks.Geometry.{Geometry}
use Rattle.row_signs.specs.declared.sign.Sign.{Sign}
use Rattle.row.specs.Row.{Call}
use Rattle.row.specs.Supply.{Supply}
use Rattle.row.specs.RowCut.{RowCut}
use Rattle.row.specs.Progress.{Fresh, Progress}

pub record Rows : Type 0 where
  pub supply : Supply
  pub cut : (g : Geometry) (image : List ℕ) → RowCut g image
  pub progress : (g : Geometry) (image : List ℕ) (signs : List Sign) (store : List ℕ) (calls : ℕ → Call) → Fresh g image signs store calls
      → Progress g image signs store calls
