-- "Launch and flash steps": where no steps begin, and how many there are, by the paper's addresses and numbers. Assumes nothing.
use Rattle.std.specs.Prelude.{ℕ, ◌+◌, ◌*◌, ◌/◌, ◌≤◌, ◌<◌, ◌≡◌, true, ◌⊎◌, eqb}
use Rattle.words.specs.Word.{pick}
use Rattle.geometry.specs.declared.banks.Geometry.{Geometry}
use Rattle.geometry.specs.Banks.{in_range_of}
use Rattle.nvmop.specs.Operation.{begins_at_of, length_of}

-- "NVMOP 2 quad, 3 row, 4 page erase: NVMADDR is rounded down to 16, 16×Q or 128×Q bytes."
abbrev pub unit_bytes : Geometry → ℕ → ℕ
unit_bytes g op = pick (eqb op 2) 16 (pick (eqb op 3) (16 * g.q) (128 * g.q))

abbrev pub rounded_of : Geometry → ℕ → ℕ → ℕ
rounded_of g op address = address / unit_bytes g op * unit_bytes g op

-- an address between two others
abbrev pub Within : ℕ → ℕ → ℕ → Type 0
Within from bytes a = (from ≤ a) × (a < from + bytes)

-- "the four windows"
abbrev pub InWindows : Geometry → ℕ → Type 0
InWindows g a =
    Within 0x1FC0_0000 (g.b * (128 * g.q)) a
    ⊎ (Within 0x1FC2_0000 (g.b * (128 * g.q)) a ⊎ Within 0x1D00_0000 (2 * (g.p * (128 * g.q))) a)

-- "Program page protected: PWP not 0 and the page's offset from 0x1D000000 at most PWP.": page n of both regions, the upper one's from P on
abbrev pub PageProtected : Geometry → ℕ → ℕ → Type 0
PageProtected g pwp n = (0 < pwp) × (n * (128 * g.q) ≤ pwp)

-- failure, for NVMOP 2 to 7
pub data Fails (g : Geometry) (op address pwp : ℕ) : Type 0 where
  -- "Outside the four windows, or in a protected program page: failure"
  outside : op ≤ 4 → (InWindows g (rounded_of g op address) → ⊥) → Fails g op address pwp
  protected : op ≤ 4 → (n : ℕ) → n < 2 * g.p → Within (0x1D00_0000 + n * (128 * g.q)) (128 * g.q) (rounded_of g op address)
      → PageProtected g pwp n → Fails g op address pwp
  -- "NVMOP 5 lower region, 6 upper region: failure if any page in it is protected."
  lower : op ≡ 5 → (n : ℕ) → n < g.p → PageProtected g pwp n → Fails g op address pwp
  upper : op ≡ 6 → (n : ℕ) → n < g.p → PageProtected g pwp (g.p + n) → Fails g op address pwp
  -- "7 both: failure if PWP is not 0."
  both : op ≡ 7 → 0 < pwp → Fails g op address pwp

-- "1 for a quad, Q for a row, 8×Q for a page, 8×Q×P for a region, lower before upper for NVMOP 7"
pub record Lengths (g : Geometry) : Type 0 where
  pub quad : length_of g 2 ≡ 1
  pub row : length_of g 3 ≡ g.q
  pub page : length_of g 4 ≡ 8 * g.q
  pub region : (length_of g 5 ≡ 8 * g.q * g.p) × (length_of g 6 ≡ 8 * g.q * g.p)
  pub regions : length_of g 7 ≡ 2 * (8 * g.q * g.p)

-- steps begin exactly where NVMOP is 2 to 7 and there is no failure
pub record Beginning : Type 0 where
  pub begins : (g : Geometry) (op address pwp : ℕ) → in_range_of g ≡ true → 2 ≤ op → op ≤ 7 → (Fails g op address pwp → ⊥)
      → begins_at_of g op address pwp ≡ true
  pub only : (g : Geometry) (op address pwp : ℕ) → in_range_of g ≡ true → begins_at_of g op address pwp ≡ true
      → (2 ≤ op) × ((op ≤ 7) × (Fails g op address pwp → ⊥))
  pub lengths : (g : Geometry) → Lengths g
