-- W-211: where the four windows of every sign lie, the largest too. Assumes nothing.
use Rattle.std.specs.Prelude.{ℕ, ◌+◌, ◌^◌, ◌≤◌, ◌<◌, ◌≡◌, Bool, true}
use Rattle.geometry.specs.declared.banks.Geometry.{Geometry}
use Rattle.geometry.specs.Banks.{boot_bytes_of, program_bytes_of, in_range_of}
use Rattle.map.specs.Windows.{lower_boot, upper_boot, lower_program, upper_program, window_start_of, window_bytes_of, located, in_window_of, locate_of}

pub record Apart (g : Geometry) : Type 0 where
  -- "Both regions at the largest size end below PWP's 24-bit reach": PWP counts from the start of the lower region
  pub reach : upper_program g + program_bytes_of g < lower_program + 2 ^ 24
  -- and below the boot aliases, of which the lower ends below the upper
  pub regions : upper_program g + program_bytes_of g ≤ lower_boot
  pub aliases : lower_boot + boot_bytes_of g ≤ upper_boot
  -- each byte of a window is found there
  pub found : (program upper : Bool) (offset : ℕ) → offset < window_bytes_of g program
      → locate_of g (window_start_of g program upper + offset) ≡ located program upper offset
  -- and no address stands in two windows
  pub one : (a : ℕ) (program upper program' upper' : Bool) → (in_window_of g program upper a).inside ≡ true
      → (in_window_of g program' upper' a).inside ≡ true → (program ≡ program') × (upper ≡ upper')

-- of every sign that is accepted
abbrev pub WindowsApart : Type 0
WindowsApart = (g : Geometry) → in_range_of g ≡ true → Apart g
