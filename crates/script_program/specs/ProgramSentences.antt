-- What the play program prints, by the numbers of the paper. Assumes nothing.
use Rattle.std.specs.Prelude.{ℕ, ◌/◌, ◌≤◌, ◌<◌, ◌≡◌, false, List, [], ◌∷◌, length, Ok}
use Rattle.words.specs.Quad.{word_at}
use Rattle.device.specs.State.{State, after}
use Rattle.resets.specs.Reset.{reset_of}
use Rattle.script_format.specs.ScriptSentences.{Script}
use Rattle.script_play.specs.Play.{lines_of}
use Rattle.script_program.specs.Program.{printed_of}

-- "Q=B=P=1, all ones but bank 1's sequence word 0xFFFE0001, no SRAM, after power-on": "A bank is lent as N×32×Q words.", and the sequence word is
-- "word 0 of the last quad of the last boot page"
pub record Bench (s : State) : Type 0 where
  pub long : (length s.one ≡ 64) × (length s.two ≡ 64)
  pub sequence : word_at s.one 28 ≡ 0xFFFE_0001
  pub first : (w : ℕ) → w < 64 → (w ≡ 28 → ⊥) → word_at s.one w ≡ 0xFFFF_FFFF
  pub other : (w : ℕ) → w < 64 → word_at s.two w ≡ 0xFFFF_FFFF
  -- a power-on is accepted and leaves it as it is
  pub power_on_lem : reset_of (record { q = 1; b = 1; p = 1 }) s [] 0 (0 ∷ 0 ∷ 0 ∷ 0 ∷ []) ≡ after (Ok tt) s false

pub record ProgramSentences : Type 0 where
  -- "Under decline 14, or with more than 65,536 bytes, the program prints only the line 14.": "14" and a line feed
  pub long : (script : List ℕ) → 65536 < length script → printed_of script ≡ 49 ∷ 52 ∷ 10 ∷ []
  pub no_script : (script : List ℕ) → (Script script → ⊥) → printed_of script ≡ 49 ∷ 52 ∷ 10 ∷ []
  -- there is such a bench, and every other script is played on it
  pub bench : State
  pub there : Bench bench
  pub played : (script : List ℕ) → length script ≤ 65536 → Script script → (s : State) → Bench s
      → printed_of script ≡ lines_of (record { q = 1; b = 1; p = 1 }) [] s script (length script / 8)
