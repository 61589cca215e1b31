-- W-211, "Larger program banks": what was answered with P up to 64 is answered so. Assumes nothing.
use Rattle.std.specs.Prelude.{ℕ, ◌≤◌, ◌<◌, ◌≡◌, true, List}
use Rattle.words.specs.Decline.{number_of}
use Rattle.geometry.specs.declared.banks.Geometry.{Geometry}
use Rattle.geometry.specs.Banks.{most_program_pages, in_range_up_to, in_range_of}
use Rattle.geometry.specs.Lent.{lent_decline_up_to, lent_decline_of}

-- 01's "P program pages (1 to 64)"
abbrev pub most_before : ℕ
most_before = 64

pub record LargerBanks : Type 0 where
  -- "P goes from 64 to 128"
  pub limit : most_program_pages ≡ 128
  -- "in decline 1 as well": with Q and B as they were accepted, every P from 1 to 128 is accepted
  pub larger : (g : Geometry) (p : ℕ) → in_range_up_to most_before g ≡ true → 1 ≤ p → p ≤ 128 → in_range_of (record { q = g.q; b = g.b; p = p }) ≡ true
  -- and no other, whatever is lent
  pub beyond : (g : Geometry) (lengths : List ℕ) (sram : ℕ) → 128 < g.p → number_of (lent_decline_of g lengths sram) ≡ 1
  -- "Geometries accepted before" are accepted
  pub accepted : (g : Geometry) → in_range_up_to most_before g ≡ true → in_range_of g ≡ true
  -- and "give the answers they gave": with P up to 64 declines 1 and 2, on which every call's decline stands, are those of the old limit
  pub answers : (g : Geometry) (lengths : List ℕ) (sram : ℕ) → g.p ≤ most_before
      → lent_decline_of g lengths sram ≡ lent_decline_up_to most_before g lengths sram
