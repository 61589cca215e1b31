-- What an exported turn answers: the result of the turn's definition, its decline as the paper's number. Assumes nothing.
use Rattle.std.specs.Prelude.{◌≡◌}
use Rattle.words.specs.Decline.{number_of}
use Rattle.device.specs.State.{State}
use Rattle.update.specs.Turn.{Turning}
use Rattle.yohrundel_lent.specs.declared.answer.TurnOutcome.{TurnOutcome}

-- the answer beside the device, and the device and the banks afterwards
abbrev pub TurnGives : Turning → TurnOutcome → State → Type 0
TurnGives a r s =
    (r ≡ record { decline = number_of a.decline; place = a.place; done = a.done; event = a.event }) × (s ≡ a.state)
