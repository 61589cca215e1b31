-- "Banks and map": which word of which bank is at an address, by the paper's addresses. Assumes nothing.
use Rattle.std.specs.Prelude.{ℕ, ◌+◌, ◌*◌, ◌/◌, ◌<◌, ◌≡◌, Bool, true, not}
use Rattle.geometry.specs.declared.banks.Geometry.{Geometry}
use Rattle.geometry.specs.Banks.{in_range_of}
use Rattle.map.specs.Windows.{locate_of, word_index_of, in_second_of}

-- word w of bank 1 or, where second, of bank 2 is at this address, with these swap bits
pub data Mapped (g : Geometry) (bfswap pfswap : Bool) : ℕ → Bool → ℕ → Type 0 where
  -- "lower boot alias 0x1FC00000, upper boot alias 0x1FC20000, each B pages"; "BFSWAP = 0 puts bank 1's boot pages on the lower alias, 1 bank 2's."
  lower_boot_lem : (o : ℕ) → o < g.b * (128 * g.q) → Mapped g bfswap pfswap (0x1FC0_0000 + o) bfswap (o / 4)
  upper_boot_lem : (o : ℕ) → o < g.b * (128 * g.q) → Mapped g bfswap pfswap (0x1FC2_0000 + o) (not bfswap) (o / 4)
  -- "lower program region 0x1D000000, upper region directly after it, each P pages"; "PFSWAP does the same for program regions."
  lower_program_lem : (o : ℕ) → o < g.p * (128 * g.q) → Mapped g bfswap pfswap (0x1D00_0000 + o) pfswap (g.b * (32 * g.q) + o / 4)
  upper_program_lem : (o : ℕ) → o < g.p * (128 * g.q) → Mapped g bfswap pfswap (0x1D00_0000 + g.p * (128 * g.q) + o) (not pfswap) (g.b * (32 * g.q) + o / 4)

-- what the map says of an address
pub record Map (g : Geometry) (bfswap pfswap : Bool) : Type 0 where
  -- inside the four windows it is at the word that the map gives, and at no other
  pub found : (a : ℕ) → (locate_of g a).inside ≡ true → Mapped g bfswap pfswap a (in_second_of (locate_of g a) bfswap pfswap) (word_index_of g (locate_of g a))
  pub only : (a : ℕ) (second : Bool) (w : ℕ) → Mapped g bfswap pfswap a second w
      → ((locate_of g a).inside ≡ true) × ((in_second_of (locate_of g a) bfswap pfswap ≡ second) × (word_index_of g (locate_of g a) ≡ w))

abbrev pub MapOf : Type 0
MapOf = (g : Geometry) → in_range_of g ≡ true → (bfswap pfswap : Bool) → Map g bfswap pfswap
