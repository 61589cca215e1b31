-- W-206: the search round the list, by how each record stands, and what the functions ask for. Assumes nothing.
use Rattle.std.specs.Prelude.{ℕ, ◌≤◌, ◌<◌, Bool, true, false, not, ◌&&◌, ◌≡◌, List, ◌++◌, ltb, get_or, unwrap_or}
use Rattle.words.specs.Word.{pick, first_from}
use Rattle.geometry.specs.declared.banks.Geometry.{Geometry}
use Rattle.geometry.specs.Banks.{InRange}
use Rattle.row_signs.specs.declared.sign.Sign.{Sign}
use Rattle.row_signs.specs.declared.queue.Queue.{Queue}
use Rattle.row_signs.specs.Signs.{sign_at, waiting_of, queue_of, waits_of}
use Rattle.row_turn.specs.SignTurn.{look_of, RowLies}
use Rattle.row_choice.specs.Choice.{records_of, met_of, before_of}
use Rattle.row_schedule.specs.declared.round.Stand as code_stand
use Rattle.row_schedule.specs.declared.round.Stand.TheVariants.{Passed, Waits, Served}
use Rattle.row_schedule.specs.declared.round.Search as code_search
use Rattle.row_schedule.specs.declared.choice.Choice as code_choice

-- ---- what the functions ask for: none of declines 1, 2 and 19 applies

-- n records over a store
pub record RowSound (g : Geometry) (store : List ℕ) (signs : List Sign) (n : ℕ) : Type 0 where
  pub range : InRange g
  pub some : 0 < n
  pub few : n ≤ 32
  pub lies : RowLies g store signs n

-- each entry of the queue is one of the first n records
abbrev pub EntriesIn : Queue → ℕ → Type 0
EntriesIn queue n = (p : ℕ) → p < queue.count → get_or queue.numbers p 0 < n

-- and none stands there twice
abbrev pub EntriesApart : Queue → Type 0
EntriesApart queue = (p q : ℕ) → p < q → q < queue.count → get_or queue.numbers p 0 ≡ get_or queue.numbers q 0 → ⊥

-- so a queue of such records
pub record QueueSound (queue : Queue) (n : ℕ) : Type 0 where
  pub room : queue.count ≤ 32
  pub inside : EntriesIn queue n
  pub apart : EntriesApart queue

-- of n marks, no record that waits is marked
abbrev pub MarksNew : Queue → ℕ → List Bool → Type 0
MarksNew queue n begins = (j : ℕ) → j < n → get_or begins j false ≡ true → waits_of (waiting_of queue) j ≡ false

-- ---- how a record stands

-- whether it is free to be served or to wait, and whether it would have to wait
pub record Stand : Type 0 where
  pub free : Bool
  pub held : Bool

-- in contracts: how it stands to the search
abbrev pub standing_of : Stand → code_stand.Stand
standing_of s = pick s.free (pick s.held Waits Served) Passed

-- of a sign that is record j, where K or more are set or not: "unfinished and not waiting", and not passed over;
-- "whose turn would set WR while K or more are set"
unfoldable pub stand_of : Geometry → Queue → Bool → List ℕ → List ℕ → List ℕ → Sign → ℕ → Stand
stand_of g queue full store image sram s j =
    let l = look_of g store image sram s in
    record { free = l.can && not (waits_of (waiting_of queue) j); held = l.sets && full }

-- of the records of a list
abbrev pub stands_of : Geometry → List Sign → Queue → Bool → List ℕ → List ℕ → List ℕ → ℕ → Stand
stands_of g signs queue full store image sram j = stand_of g queue full store image sram (sign_at signs j) j

-- ---- the search round the list, by how each record stands

-- how many records it meets before the one it serves; n where it serves none
abbrev pub searched_of : ℕ → ℕ → (ℕ → Stand) → ℕ
searched_of n last stand = first_from (λ i. (stand (met_of n last i)).free && not (stand (met_of n last i)).held) 0 n

-- the record that it serves; n where it serves none
abbrev pub found_of : ℕ → ℕ → (ℕ → Stand) → ℕ
found_of n last stand = let i = searched_of n last stand in pick (ltb i n) (met_of n last i) n

-- record j begins to wait: met before the one that is served
abbrev pub joins_of : ℕ → ℕ → (ℕ → Stand) → ℕ → Bool
joins_of n last stand j = ltb (before_of n last j) (searched_of n last stand) && ((stand j).free && (stand j).held)

-- the record that it serves, n where it serves none; and which begin to wait
pub record Search : Type 0 where
  pub found : ℕ
  pub begins : List Bool

-- in contracts: of n records
abbrev pub search_from : ℕ → code_search.Search → Search
search_from n s = record { found = unwrap_or s.found n; begins = s.begins }

-- what the search tells
pub record Searched (n last : ℕ) (stand : ℕ → Stand) (s : Search) : Type 0 where
  pub found : s.found ≡ found_of n last stand
  pub begins : (j : ℕ) → j < n → get_or s.begins j false ≡ joins_of n last stand j

-- the record that is served, n where nobody is; and who waits then
pub record Choice : Type 0 where
  pub served : ℕ
  pub queue : Queue

-- in contracts: of n records
abbrev pub choice_from : ℕ → code_choice.Choice → Choice
choice_from n c = record { served = unwrap_or c.served n; queue = c.queue }

-- the record that it serves, n where it serves none; and who waits then
abbrev pub round_of : ℕ → Queue → ℕ → (ℕ → Stand) → Choice
round_of n queue last stand = record { served = found_of n last stand; queue = queue_of (waiting_of queue ++ records_of (joins_of n last stand) n) }
