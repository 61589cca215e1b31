-- The numbers that a call gives. Assumes nothing.
use Rattle.std.specs.Prelude.{ℕ, List, take}
use Rattle.conformance_io.specs.declared.numbers.Numbers.{Numbers}

abbrev pub listed : Numbers → List ℕ
listed numbers = take numbers.count numbers.words
