-- The device after a change of some of its registers: every record of a device is built here, but for that after a reset. Assumes nothing.
use Rattle.std.specs.Prelude.{ℕ, List, [], ◌∷◌, get_or}
use Rattle.device.specs.declared.record.Device.{Device}
use Rattle.device.specs.declared.record.Operands.{Operands}
use Rattle.device.specs.Record.{no_operands}
use Rattle.device.specs.Registers.{resets}
use Rattle.device.specs.Numbers.{NVMCON, NVMKEY, NVMADDR, NVMDATA0, NVMDATA1, NVMDATA2, NVMDATA3, NVMSRCADDR, NVMPWP, NVMBWP, NVMCON2}

-- "power-on gives all reset values": the device then, before the comparison of the banks
abbrev pub power_on : Device
power_on =
    record {
      nvmcon = record { 0 = get_or resets NVMCON 0 };
      nvmkey = get_or resets NVMKEY 0;
      nvmaddr = get_or resets NVMADDR 0;
      nvmdata = get_or resets NVMDATA0 0 ∷ get_or resets NVMDATA1 0 ∷ get_or resets NVMDATA2 0 ∷ get_or resets NVMDATA3 0 ∷ [];
      nvmsrcaddr = get_or resets NVMSRCADDR 0;
      nvmpwp = record { 0 = get_or resets NVMPWP 0 };
      nvmbwp = record { 0 = get_or resets NVMBWP 0 };
      nvmcon2 = record { 0 = get_or resets NVMCON2 0 };
      keystep = 0;
      step = 0;
      launched = no_operands;
    }

-- the device with another NVMCON, key step and step number
abbrev pub with_con : Device → ℕ → ℕ → ℕ → Device
with_con d con keystep step =
    record {
      nvmcon = record { 0 = con };
      nvmkey = d.nvmkey;
      nvmaddr = d.nvmaddr;
      nvmdata = d.nvmdata;
      nvmsrcaddr = d.nvmsrcaddr;
      nvmpwp = d.nvmpwp;
      nvmbwp = d.nvmbwp;
      nvmcon2 = d.nvmcon2;
      keystep = keystep;
      step = step;
      launched = d.launched;
    }

-- the device with other registers beside NVMCON and NVMKEY, and another key step
abbrev pub with_stored : Device → ℕ → List ℕ → ℕ → ℕ → ℕ → ℕ → ℕ → Device
with_stored d address quad source pwp bwp con2 keystep =
    record {
      nvmcon = d.nvmcon;
      nvmkey = d.nvmkey;
      nvmaddr = address;
      nvmdata = quad;
      nvmsrcaddr = source;
      nvmpwp = record { 0 = pwp };
      nvmbwp = record { 0 = bwp };
      nvmcon2 = record { 0 = con2 };
      keystep = keystep;
      step = d.step;
      launched = d.launched;
    }

-- the device with other operands of the running operation
abbrev pub with_launched : Device → Operands → Device
with_launched d launched =
    record {
      nvmcon = d.nvmcon;
      nvmkey = d.nvmkey;
      nvmaddr = d.nvmaddr;
      nvmdata = d.nvmdata;
      nvmsrcaddr = d.nvmsrcaddr;
      nvmpwp = d.nvmpwp;
      nvmbwp = d.nvmbwp;
      nvmcon2 = d.nvmcon2;
      keystep = d.keystep;
      step = d.step;
      launched = launched;
    }

-- the device with other values of registers 2 to 7
abbrev pub with_operands : Device → Operands → Device
with_operands d operands =
    record {
      nvmcon = d.nvmcon;
      nvmkey = d.nvmkey;
      nvmaddr = operands.nvmaddr;
      nvmdata = operands.nvmdata;
      nvmsrcaddr = operands.nvmsrcaddr;
      nvmpwp = d.nvmpwp;
      nvmbwp = d.nvmbwp;
      nvmcon2 = d.nvmcon2;
      keystep = d.keystep;
      step = d.step;
      launched = d.launched;
    }

-- with another NVMADDR, NVMDATA or NVMBWP, and the key shut
abbrev pub with_address : Device → ℕ → Device
with_address d address = with_stored d address d.nvmdata d.nvmsrcaddr d.nvmpwp.0 d.nvmbwp.0 d.nvmcon2.0 0

abbrev pub with_data : Device → List ℕ → Device
with_data d quad = with_stored d d.nvmaddr quad d.nvmsrcaddr d.nvmpwp.0 d.nvmbwp.0 d.nvmcon2.0 0

abbrev pub with_bwp : Device → ℕ → Device
with_bwp d bwp = with_stored d d.nvmaddr d.nvmdata d.nvmsrcaddr d.nvmpwp.0 bwp d.nvmcon2.0 0
