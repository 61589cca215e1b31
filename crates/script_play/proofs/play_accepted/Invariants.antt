-- The records so far are played and their lines are in the buffer as far as it goes.
use Rattle.device.specs.State.{state}
use Rattle.script_play.proofs.PlayLaws.{Playing}
use Rattle.script_play.proofs.play_accepted.Given as goal

abbrev pub invariant-loop-i : goal.invariant-loop-i
invariant-loop-i l =
    Playing l.g l.sram (state l.initial.device l.initial.one l.initial.two) l.script l.initial.out
    (state l.device l.one l.two) l.out l.bytes l.i
