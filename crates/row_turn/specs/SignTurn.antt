-- W-206: the turn of one sign of a row, over its two parts of the store. Assumes nothing.
use Rattle.std.specs.Prelude.{ℕ, ◌+◌, ◌≤◌, ◌<◌, Bool, not, ◌&&◌, List, ◌⊎◌, length, take, drop}
use Rattle.std.proofs.lemmas.List.Edits.{sets}
use Rattle.words.specs.Decline.{accepted_of}
use Rattle.geometry.specs.declared.banks.Geometry.{Geometry}
use Rattle.geometry.specs.Banks.{bank_words_of}
use Rattle.device.specs.Record.{running}
use Rattle.device.specs.State.{State, state}
use Rattle.flash.specs.Write.{Write}
use Rattle.flash.specs.Write.{one_after, two_after}
use Rattle.update.specs.Turn.{Turning, turn_of}
use Rattle.row_signs.specs.declared.sign.Sign.{Sign}
use Rattle.row_signs.specs.Signs.{sign_at}
use Rattle.row_turn.specs.declared.Look.{Look}
use Rattle.row_turn.specs.declared.SignTurned.{SignTurned}

-- so many words of the store from a word on
abbrev pub part_of : List ℕ → ℕ → ℕ → List ℕ
part_of store start words = take words (drop start store)

-- "each with its device, its place in the update and the start of each of its two banks in one lent store"
abbrev pub sign_state_of : Geometry → List ℕ → Sign → State
sign_state_of g store s = state s.device (part_of store s.one (bank_words_of g)) (part_of store s.two (bank_words_of g))

-- "A call does one turn for one sign."
abbrev pub sign_turn_of : Geometry → List ℕ → List ℕ → List ℕ → Sign → Turning
sign_turn_of g store image sram s = turn_of g (sign_state_of g store s) image sram s.place

-- by its turn: the sign is unfinished and its turn is not one that "01 declines"; the "turn would set WR": 0 before it and 1 after
abbrev pub look_in : Sign → Turning → Look
look_in s t = record { can = accepted_of t.decline && not t.done; sets = not (running s.device) && running t.state.device }

unfoldable pub look_of : Geometry → List ℕ → List ℕ → List ℕ → Sign → Look
look_of g store image sram s = look_in s (sign_turn_of g store image sram s)

-- its record after a turn: the starts of its banks stay
abbrev pub turned_sign : Sign → Turning → Sign
turned_sign s t = record { device = t.state.device; place = t.place; one = s.one; two = s.two }

-- the store after it: both banks in their places
abbrev pub turned_store : List ℕ → Sign → Turning → List ℕ
turned_store store s t = sets (sets store s.one t.state.one) s.two t.state.two

-- everything after it
pub record SignTurning : Type 0 where
  pub sign : Sign
  pub event : Bool
  pub store : List ℕ

abbrev pub sign_turning : SignTurned → List ℕ → SignTurning
sign_turning a store = record { sign = a.sign; event = a.event; store = store }

abbrev pub sign_turning_in : List ℕ → Sign → Turning → SignTurning
sign_turning_in store s t = record { sign = turned_sign s t; event = t.event; store = turned_store store s t }

unfoldable pub sign_turning_of : Geometry → List ℕ → List ℕ → List ℕ → Sign → SignTurning
sign_turning_of g store image sram s = sign_turning_in store s (sign_turn_of g store image sram s)

-- the store with a quad written into one of two banks of so many words
abbrev pub put_write_of : List ℕ → ℕ → ℕ → ℕ → Write → List ℕ
put_write_of store one two words w =
    sets (sets store one (one_after (part_of store one words) w)) two (two_after (part_of store two words) w)

-- both banks of a sign lie in the store, apart from each other: what the functions below ask for
pub record Lies (g : Geometry) (store : List ℕ) (s : Sign) : Type 0 where
  pub first : s.one + bank_words_of g ≤ length store
  pub other : s.two + bank_words_of g ≤ length store
  pub apart : (s.one + bank_words_of g ≤ s.two) ⊎ (s.two + bank_words_of g ≤ s.one)

-- so of the first n records of a list
abbrev pub RowLies : Geometry → List ℕ → List Sign → ℕ → Type 0
RowLies g store signs n = (j : ℕ) → j < n → Lies g store (sign_at signs j)
