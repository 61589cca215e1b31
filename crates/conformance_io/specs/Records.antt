-- The geometry and the device by the places of their numbers. Assumes nothing.
use Rattle.std.specs.Prelude.{ℕ, List, [], ◌∷◌, get_or}
use Rattle.geometry.specs.declared.banks.Geometry.{Geometry}
use Rattle.device.specs.declared.record.Device.{Device}

-- number i of these
abbrev pub input_of : List ℕ → ℕ → ℕ
input_of words i = get_or words i 0

-- Q B P
abbrev pub geometry_of : List ℕ → Geometry
geometry_of words = record { q = input_of words 0; b = input_of words 1; p = input_of words 2 }

-- "the eleven registers in the order of their numbers, the key step, the step number", and "the launched NVMADDR, NVMDATA0 to 3, NVMSRCADDR"
abbrev pub device_of : List ℕ → Device
device_of words =
    record {
      nvmcon = record { 0 = input_of words 0 };
      nvmkey = input_of words 1;
      nvmaddr = input_of words 2;
      nvmdata = input_of words 3 ∷ input_of words 4 ∷ input_of words 5 ∷ input_of words 6 ∷ [];
      nvmsrcaddr = input_of words 7;
      nvmpwp = record { 0 = input_of words 8 };
      nvmbwp = record { 0 = input_of words 9 };
      nvmcon2 = record { 0 = input_of words 10 };
      keystep = input_of words 11;
      step = input_of words 12;
      launched =
          record {
            nvmaddr = input_of words 13;
            nvmdata = input_of words 14 ∷ input_of words 15 ∷ input_of words 16 ∷ input_of words 17 ∷ [];
            nvmsrcaddr = input_of words 18;
          };
    }
