-- The actions of an update as operations of the controller (`turns_run` of proofs/RunLaws: turns are the run of them). Assumes nothing.
use Rattle.std.specs.Prelude.{List, [], ◌∷◌}
use Rattle.controller.specs.Controller.{Operation}
use Rattle.update.specs.declared.actions.Action.{Action}
use Rattle.update.specs.declared.actions.Action.TheVariants.{Store, Step}

-- "Each turn does one action": a store or a step. "Row data is four words of lent SRAM", and an update programs no row, so a step's SRAM
-- does not matter and is empty here
abbrev pub operation_of : Action → Operation
operation_of (Store r form value) = Operation.store r form value
operation_of Step = Operation.step []

abbrev pub operations_of : List Action → List Operation
operations_of [] = []
operations_of (a ∷ rest) = operation_of a ∷ operations_of rest
