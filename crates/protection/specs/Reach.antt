-- W-211: "Both regions at the largest size end below PWP's 24-bit reach.", so each of their pages can be protected. Assumes nothing.
use Rattle.std.specs.Prelude.{ℕ, ◌^◌, ◌<◌, ◌≡◌, Bool, true, false}
use Rattle.geometry.specs.declared.banks.Geometry.{Geometry}
use Rattle.geometry.specs.Banks.{in_range_of}
use Rattle.device.specs.declared.record.Device.{Device}
use Rattle.protection.specs.Protection.{pwp_of, page_offset_of, protected_of}

-- a value of PWP's 24 bits with which this page of a region is protected, and no page that lies higher
pub record Protectable (g : Geometry) (upper : Bool) (page : ℕ) : Type 0 where
  pub pwp : ℕ
  pub fits : pwp < 2 ^ 24
  pub covers : (d : Device) → pwp_of d ≡ pwp → protected_of g d true upper page ≡ true
  pub only : (d : Device) → pwp_of d ≡ pwp → (upper' : Bool) (page' : ℕ)
      → page_offset_of g upper page < page_offset_of g upper' page' → protected_of g d true upper' page' ≡ false

pub record Reach : Type 0 where
  -- "24-bit"
  pub bits : (d : Device) → pwp_of d < 2 ^ 24
  pub pages : (g : Geometry) → in_range_of g ≡ true → (upper : Bool) (page : ℕ) → page < g.p → Protectable g upper page
