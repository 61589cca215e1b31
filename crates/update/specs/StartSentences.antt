-- The update start, sentence by sentence, and that the sentences fix it. Assumes nothing.
use Rattle.std.specs.Prelude.{ℕ, ◌+◌, ◌*◌, ◌-◌, ◌%◌, ◌<◌, ◌≡◌, true, false, not, List, [], ◌∷◌, ◌⊎◌, length}
use Rattle.words.specs.Word.{bit}
use Rattle.words.specs.Quad.{word_at}
use Rattle.words.specs.Decline.{number_of}
use Rattle.geometry.specs.declared.banks.Geometry.{Geometry}
use Rattle.sequence.specs.Sequence.{valid_of}
use Rattle.sequence.specs.Comparison.{compare_of}
use Rattle.device.specs.Record.{register_of}
use Rattle.device.specs.State.{State, bank_of}
use Rattle.common_declines.specs.CommonDecline.{Usable, CommonDeclines}
use Rattle.update.specs.Answers.{Started}
use Rattle.update.specs.Start.{start_of}

-- "Total 12 + 8×N + 112×N×Q."
abbrev pub list_total : Geometry → ℕ
list_total g = 12 + 8 * (g.b + g.p) + 112 * ((g.b + g.p) * g.q)

-- "word 0 of the last quad of the last boot page", of a bank
abbrev pub sequence_in : Geometry → List ℕ → ℕ
sequence_in g bank = word_at bank (g.b * (32 * g.q) - 4)

-- the sequence word of the lower-alias bank, and of the other
abbrev pub lower_in : Geometry → State → ℕ
lower_in g s = sequence_in g (bank_of s (bit 6 (register_of s.device 0)))

abbrev pub other_in : Geometry → State → ℕ
other_in g s = sequence_in g (bank_of s (not (bit 6 (register_of s.device 0))))

-- a "bit position at 1 in both halves"
pub record Clash (w : ℕ) : Type 0 where
  pub at : ℕ
  pub inside : at < 16
  pub low : bit at w ≡ true
  pub high : bit (16 + at) w ≡ true

-- none of the clauses of 10 applies: "the lower-alias bank's sequence is invalid, a reset would choose the other bank, PFSWAP differs from BFSWAP,
-- or the other bank's sequence word is invalid with no bit position at 1 in both halves"
pub record Allowed (g : Geometry) (s : State) : Type 0 where
  pub valid : valid_of (lower_in g s) ≡ true
  pub chosen : (compare_of (sequence_in g s.one) (sequence_in g s.two)).second ≡ bit 6 (register_of s.device 0)
  pub swaps : bit 7 (register_of s.device 0) ≡ bit 6 (register_of s.device 0)
  pub other : (valid_of (other_in g s) ≡ true) ⊎ Clash (other_in g s)

-- 12 does not apply: "UBWPULOCK = 0 or PWP at least P×128×Q"
pub record UpperFree (g : Geometry) (s : State) : Type 0 where
  pub unlocked : bit 7 (register_of s.device 9) ≡ true
  pub pwp : register_of s.device 8 % 0x100_0000 < g.p * (128 * g.q)

-- none of 1 to 3 applies, and WR = 0
pub record Startable (g : Geometry) (s : State) (image : List ℕ) : Type 0 where
  pub usable : Usable g s.device (length s.one ∷ length s.two ∷ length image ∷ []) 0
  pub idle : bit 15 (register_of s.device 0) ≡ false

pub record StartSentences (g : Geometry) (s : State) (image : List ℕ) (a : Started) : Type 0 where
  -- 1 to 3; "5. .. an update start with WR = 1."
  pub declines : CommonDeclines g s.device (length s.one ∷ length s.two ∷ length image ∷ []) 0 (number_of a.decline)
  pub running : Usable g s.device (length s.one ∷ length s.two ∷ length image ∷ []) 0 → bit 15 (register_of s.device 0) ≡ true
      → number_of a.decline ≡ 5
  pub sequence : Startable g s image → (Allowed g s → ⊥) → number_of a.decline ≡ 10
  -- "11. Update start with t = 65,535."
  pub last : Startable g s image → Allowed g s → lower_in g s % 65536 ≡ 65535 → number_of a.decline ≡ 11
  pub protection : Startable g s image → Allowed g s → (lower_in g s % 65536 ≡ 65535 → ⊥) → (UpperFree g s → ⊥) → number_of a.decline ≡ 12
  pub accepted : Startable g s image → Allowed g s → (lower_in g s % 65536 ≡ 65535 → ⊥) → UpperFree g s → number_of a.decline ≡ 0
  -- "An accepted start changes nothing and gives place 0 and the total."; declined 0 for both (ours)
  pub place : a.place ≡ 0
  pub total : number_of a.decline ≡ 0 → a.total ≡ list_total g
  pub no_total : (number_of a.decline ≡ 0 → ⊥) → a.total ≡ 0

pub record StartsFixed : Type 0 where
  pub meets : (g : Geometry) (s : State) (image : List ℕ) → StartSentences g s image (start_of g s image)
  pub fixes : (g : Geometry) (s : State) (image : List ℕ) (a : Started) → StartSentences g s image a → a ≡ start_of g s image
