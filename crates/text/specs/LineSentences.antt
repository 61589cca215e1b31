-- The line that is printed for a record, byte by byte, and that the sentences fix it. Assumes nothing.
use Rattle.std.specs.Prelude.{ℕ, ◌+◌, ◌-◌, ◌/◌, ◌%◌, ◌^◌, ◌≤◌, ◌<◌, ◌≡◌, Bool, List, [], ◌∷◌, ◌++◌, ◌⊎◌, length, get_or}
use Rattle.words.specs.Word.{pick}
use Rattle.text.specs.Lines.{line_of}

-- "other numbers decimal": digit k of n, counted from the right, and no zero before the first
pub record Decimal (n : ℕ) (bytes : List ℕ) : Type 0 where
  pub digit : (k : ℕ) → k < length bytes → get_or bytes (length bytes - 1 - k) 0 ≡ 48 + n / 10 ^ k % 10
  pub whole : n < 10 ^ length bytes
  pub fewest : (length bytes ≡ 1) ⊎ (10 ^ (length bytes - 1) ≤ n)

-- "hexadecimal capitals": the codes of 0 to 9 and A to F
abbrev pub capitals : List ℕ
capitals = 48 ∷ 49 ∷ 50 ∷ 51 ∷ 52 ∷ 53 ∷ 54 ∷ 55 ∷ 56 ∷ 57 ∷ 65 ∷ 66 ∷ 67 ∷ 68 ∷ 69 ∷ 70 ∷ []

-- "in eight hexadecimal capitals"
pub record Hexadecimal (w : ℕ) (bytes : List ℕ) : Type 0 where
  pub eight : length bytes ≡ 8
  pub digit : (k : ℕ) → k < 8 → get_or bytes (7 - k) 0 ≡ get_or capitals (w / 16 ^ k % 16) 0

-- "number from 0, answer (0 or refusal), NVMCON in eight hexadecimal capitals, event 0 or 1; one blank between, a line feed after"
pub record Line (i answer con : ℕ) (event : Bool) (line : List ℕ) : Type 0 where
  pub first : List ℕ
  pub second : List ℕ
  pub third : List ℕ
  pub number : Decimal i first
  pub answered : Decimal answer second
  pub nvmcon : Hexadecimal con third
  pub same : line ≡ first ++ (32 ∷ (second ++ (32 ∷ (third ++ (32 ∷ pick event 49 48 ∷ 10 ∷ [])))))

pub record LinesFixed : Type 0 where
  pub meets : (i answer con : ℕ) (event : Bool) → Line i answer con event (line_of i answer con event)
  pub fixes : (i answer con : ℕ) (event : Bool) (line : List ℕ) → Line i answer con event line → line ≡ line_of i answer con event
