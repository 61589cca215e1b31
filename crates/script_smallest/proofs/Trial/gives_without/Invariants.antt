-- The records so far are played, and it is known whether one of them gave the number.
use Rattle.std.proofs.Common.{◌*◌, take}
use Rattle.device.specs.State.{state}
use Rattle.script_smallest.specs.Smallest.{without_of}
use Rattle.script_smallest.proofs.TrialLaws.{Trying}
use Rattle.script_smallest.proofs.Trial.gives_without.Given as goal

abbrev pub invariant-loop-k : goal.invariant-loop-k
invariant-loop-k l =
    Trying l.self.g l.self.sram.now (state l.self.device l.initial.one l.initial.two) (take (8 * l.count) (without_of l.script l.removed)) l.self.number
    (state l.device l.one l.two) l.given l.k
