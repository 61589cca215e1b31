-- The bench values of the paper (★) that this layer can state, with those of the sequence word. Assumes nothing.
use Rattle.std.specs.Prelude.{ℕ, ◌<◌, ◌≡◌, Bool, true, false}
use Rattle.geometry.specs.declared.banks.Geometry.{Geometry}
use Rattle.geometry.specs.Banks.{in_range_of}
use Rattle.map.specs.Windows.{locate_of}
use Rattle.sequence.specs.Bench as sequence-bench
use Rattle.device.specs.declared.record.Device.{Device}
use Rattle.protection.specs.Protection.{pwp_of, protected_of}
use Rattle.nvmop.specs.Operation.{target_of}

pub record Bench : Type 0 where
  pub sequence : sequence-bench.Bench
  -- "PWP 0 protects nothing"
  pub pwp_zero : (g : Geometry) (d : Device) (upper : Bool) (page : ℕ) → pwp_of d ≡ 0 → protected_of g d true upper page ≡ false
  -- "PWP 1 protects page 0 only": page 0 of the lower region, no other of that region and none of the upper
  pub pwp_one_first : (g : Geometry) (d : Device) → pwp_of d ≡ 1 → protected_of g d true false 0 ≡ true
  pub pwp_one_lower : (g : Geometry) (d : Device) → in_range_of g ≡ true → pwp_of d ≡ 1 → (page : ℕ) → 0 < page → protected_of g d true false page ≡ false
  pub pwp_one_upper : (g : Geometry) (d : Device) → in_range_of g ≡ true → pwp_of d ≡ 1 → (page : ℕ) → protected_of g d true true page ≡ false
  -- "Q=1: 0x1D0000FF rounds to page 0x1D000080": the target of a page erase
  pub page_rounds : (g : Geometry) → g.q ≡ 1 → target_of g 4 0x1D00_00FF ≡ locate_of g 0x1D00_0080
