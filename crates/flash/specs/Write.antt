-- At most one quad of two banks is written. Assumes nothing.
use Rattle.std.specs.Prelude.{ℕ, ◌+◌, ◌*◌, ◌≤◌, ◌≡◌, Bool, true, false, List, length}
use Rattle.std.specs.Option.{is_some, unwrap_or}
use Rattle.words.specs.Word.{pick}
use Rattle.words.specs.Quad.{put_quad, blank_quad}
use Rattle.device.specs.declared.record.Device.{Device}
use Rattle.device.specs.State.{State, state}
use Rattle.flash.specs.declared.write.Write as code

-- whether a quad is written, of which bank, where, and its words
pub record Write : Type 0 where
  pub writes : Bool
  pub second : Bool
  pub quad : ℕ
  pub words : List ℕ

-- in contracts: of the code; where nothing is written, the words are all ones (ours; nothing reads them)
abbrev pub write_from : code.Write → Write
write_from w = record { writes = is_some w.words; second = w.second; quad = w.quad; words = unwrap_or w.words blank_quad }

-- nothing is written
abbrev pub no_write : Write
no_write = record { writes = false; second = false; quad = 0; words = blank_quad }

-- bank 1 and bank 2 after it
abbrev pub one_after : List ℕ → Write → List ℕ
one_after one w = pick w.writes (pick w.second one (put_quad one w.quad w.words)) one

abbrev pub two_after : List ℕ → Write → List ℕ
two_after two w = pick w.writes (pick w.second (put_quad two w.quad w.words) two) two

-- the state with another device, after it
abbrev pub written_of : State → Device → Write → State
written_of s d w = state d (one_after s.one w) (two_after s.two w)

-- what is written lies in both banks: what the function that writes asks for
abbrev pub Fits : List ℕ → List ℕ → Write → Type 0
Fits one two w = w.writes ≡ true → (4 * w.quad + 4 ≤ length one) × (4 * w.quad + 4 ≤ length two)
