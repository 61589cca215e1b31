-- In contracts of the functions of a call that is not declined: what is known of its row, and how its records stand. Assumes nothing.
use Rattle.std.specs.Prelude.{ℕ, Bool, ltb, Option, Some, None}
use Rattle.words.specs.Word.{pick}
use Rattle.row_choice.specs.Choice.{Known}
use Rattle.row_schedule.specs.declared.judged.Judged.{Judged}
use Rattle.row_schedule.specs.Round.{Stand, stands_of}
use Rattle.row_schedule.specs.Schedule.{known_of}

-- a number where it is below n
abbrev pub some_below : ℕ → ℕ → Option ℕ
some_below i n = pick (ltb i n) (Some i) None

abbrev pub known_at : Judged → Known
known_at c =
    known_of c.shared.layout.geometry c.k c.row.now.signs c.row.now.count c.row.now.queue c.row.now.last c.shared.store.now c.shared.image.now c.shared.sram.now

abbrev pub stands_at : Judged → Bool → ℕ → Stand
stands_at c full = stands_of c.shared.layout.geometry c.row.now.signs c.row.now.queue full c.shared.store.now c.shared.image.now c.shared.sram.now
