-- W-206: from accepted starts of all signs a row goes on until all are finished. Assumes nothing.
use Rattle.std.specs.Prelude.{ℕ, ◌-◌, ◌*◌, ◌<◌, ◌≤◌, ◌≡◌, true, List, [], length}
use Rattle.geometry.specs.declared.banks.Geometry.{Geometry}
use Rattle.geometry.specs.Lent.{most_sram}
use Rattle.update.specs.Actions.{total_of}
use Rattle.update.specs.PowerFail.{Update}
use Rattle.row_signs.specs.declared.sign.Sign.{Sign}
use Rattle.row_signs.specs.Signs.{sign_at, queue_of}
use Rattle.row_judge.specs.Judge.{Judged}
use Rattle.row.specs.Row.{Call, answer_of, row_of, fresh_of}
use Rattle.row.specs.RowCut.{state_at}

-- what it starts from: a fresh row that a call serves, each sign at place 0 of an accepted update, and calls that none of declines 1, 2 and 19 applies to
pub record Fresh (g : Geometry) (image : List ℕ) (signs : List Sign) (store : List ℕ) (calls : ℕ → Call) : Type 0 where
  pub judged : Judged g 1 signs (length signs) (queue_of []) (length signs - 1) (length store) (length image) 0
  pub places : (j : ℕ) → j < length signs → (sign_at signs j).place ≡ 0
  pub updates : (j : ℕ) → j < length signs → Update g (state_at g (fresh_of signs store) j) image
  pub images : (i : ℕ) → (calls i).image ≡ image
  pub k_low : (i : ℕ) → 0 < (calls i).k
  pub k_high : (i : ℕ) → (calls i).k ≤ 32
  pub srams : (i : ℕ) → length (calls i).sram ≤ most_sram

pub record Progress (g : Geometry) (image : List ℕ) (signs : List Sign) (store : List ℕ) (calls : ℕ → Call) : Type 0 where
  -- no call is idle before all are finished
  pub goes_on : (i : ℕ) → (answer_of g (row_of g (fresh_of signs store) calls i) (calls i)).idle ≡ true
      → (j : ℕ) → j < length signs → (sign_at (row_of g (fresh_of signs store) calls i).signs j).place ≡ total_of g
  -- and n × total calls finish all
  pub finishes : (j : ℕ) → j < length signs → (sign_at (row_of g (fresh_of signs store) calls (length signs * total_of g)).signs j).place ≡ total_of g
