-- The numbers so far are there.
use Rattle.std.proofs.Common.{◌≡◌, ◌+◌, ◌++◌, take}
use Rattle.conformance_io.specs.Numbers.{listed}
use Rattle.conformance_io.proofs.numbers.Numbers.and_device.Given as goal

abbrev pub invariant-loop-number : goal.invariant-loop-number
invariant-loop-number l = record {
  counted : l.numbers.count ≡ l.fn.self.count + l.number-index;
  there : listed l.numbers ≡ listed l.fn.self ++ take l.number-index l.number-items;
}
