-- Windows of the week: the minutes that each holds, and decline 15. Assumes nothing.
use Rattle.std.specs.Prelude.{ℕ, ◌+◌, ◌-◌, ◌*◌, ◌/◌, ◌%◌, Bool, ◌&&◌, List, ltb, leb, eqb, get_or, length}
use Rattle.words.specs.Word.{all_below}
pub use Rattle.planner.specs.declared.windows.Window.{Window}

-- "A week has minutes 0 to 10,079": so many
abbrev pub week : ℕ
week = 10080

-- "A window has a start minute and a length"
abbrev pub window : ℕ → ℕ → Window
window start length = record { start = start; length = length }

-- how many windows a lent list has: their numbers stand there as start, length, start, length, ..
abbrev pub window_count_of : List ℕ → ℕ
window_count_of lent = length lent / 2

-- window i of them
abbrev pub window_at : List ℕ → ℕ → Window
window_at lent i = window (get_or lent (2 * i) 0) (get_or lent (2 * i + 1) 0)

-- "One of 10,080 holds every minute; a shorter one holds its first minute and not the one after its last": a minute is held where it comes
-- fewer minutes after the start than the length, counted modulo 10,080, since a window "may run past the end of the week"
unfoldable pub held_of : Window → ℕ → Bool
held_of w minute = ltb ((minute + (week - w.start)) % week) w.length

-- "a start minute and a length of 1 to 10,080"
unfoldable pub window_in_range_of : Window → Bool
window_in_range_of w = ltb w.start week && (leb 1 w.length && leb w.length week)

-- so of the first n windows of a lent list
abbrev pub windows_in_range_of : List ℕ → ℕ → Bool
windows_in_range_of lent n = all_below (λ i. window_in_range_of (window_at lent i)) n

-- "There are 1 to 14 windows. Given the present minute and a duration of 1 to 1,440 minutes": by how many numbers are lent for
-- the windows, two for each; an odd count is out of range as well (ours)
unfoldable pub numbers_in_range_of : ℕ → ℕ → ℕ → Bool
numbers_in_range_of minute duration numbers =
    ltb minute week
    && (leb 1 duration && (leb duration 1440 && (eqb (numbers % 2) 0 && (leb 1 (numbers / 2) && leb (numbers / 2) 14))))

-- decline 15 does not apply: "any of these numbers out of range"
unfoldable pub in_range_of : ℕ → ℕ → List ℕ → Bool
in_range_of minute duration lent =
    numbers_in_range_of minute duration (length lent) && windows_in_range_of lent (window_count_of lent)
