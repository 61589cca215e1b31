-- Decline 1: "Q, B or P is outside its list or range.", as facts. Assumes nothing.
use Rattle.std.specs.Prelude.{ℕ, ◌^◌, ◌≤◌, ◌≡◌, true}
use Rattle.geometry.specs.declared.banks.Geometry.{Geometry}
use Rattle.geometry.specs.Banks.{in_range_of}

-- sizes inside them
pub record Sizes (g : Geometry) : Type 0 where
  -- "Q quads per row is 1, 2, 4, 8, 16, 32, 64 or 128.": a power of 2
  pub power : ℕ
  pub most : power ≤ 7
  pub row : g.q ≡ 2 ^ power
  -- "B boot pages (1 to 5)"
  pub boot_low : 1 ≤ g.b
  pub boot_high : g.b ≤ 5
  -- "P program pages (1 to 64)", of which W-211 says: "P goes from 64 to 128"
  pub program_low : 1 ≤ g.p
  pub program_high : g.p ≤ 128

-- the test of decline 1 takes these and no others
pub record Listed : Type 0 where
  pub taken : (g : Geometry) → Sizes g → in_range_of g ≡ true
  pub only : (g : Geometry) → in_range_of g ≡ true → Sizes g
