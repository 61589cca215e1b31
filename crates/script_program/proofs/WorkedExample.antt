-- The definitions compute what the paper prints.
-- Assumes nothing.
use mathlib.Core.Path.{refl}
use Rattle.register_access.specs.Store.{has_form_of, may_store_of, store_decline_of, applied_of, store_accepted_of, store_of}
use Rattle.launch.specs.ConStore.{launches_of, con_store_of}
use Rattle.register_fields.specs.Fields.{key_next_of, con_takes_of}
use Rattle.launch.specs.Launch.{launch_of}
use Rattle.common_declines.specs.CommonDecline.{common_decline_of}
use Rattle.nvmop.specs.Operation.{unit_of, target_of, target_begins_of, begins_at_of, length_of}
use Rattle.common_declines.specs.Possible.{implemented_of, launched_fits_of, nothing_launched_of, running_of, resting_of, possible_of}
use Rattle.protection.specs.Protection.{program_protected_of}
use Rattle.device.specs.Record.{register_of}
use Rattle.flash.specs.Effect.{step_at_of, blocked_of, effect_at_of, effect_of}
use Rattle.flash.specs.Step.{step_decline_of, advance_of, step_of}
use Rattle.geometry.specs.Banks.{listed_of, in_range_up_to}
use Rattle.geometry.specs.Lent.{lengths_fit_of, lent_decline_up_to}
use Rattle.map.specs.Windows.{in_window_of, locate_of}
use Rattle.text.specs.Digits.{digit_of, width_of}
use Rattle.text.specs.Lines.{line_of}
use Rattle.script_record.specs.Record.{record_after_of}
use Rattle.script_program.specs.Program.{printed_of}
use Rattle.script_format.specs.Records.{value_of, record_of, is_store_of, is_step_of, is_record_of, is_script_of}
use Rattle.script_program.specs.WorkedExample.{WorkedExample}

pub worked_example : WorkedExample
unfolding has_form_of may_store_of store_decline_of launches_of con_store_of applied_of store_accepted_of store_of key_next_of con_takes_of
    launch_of unit_of target_of target_begins_of begins_at_of length_of implemented_of launched_fits_of nothing_launched_of resting_of running_of
    possible_of program_protected_of register_of step_at_of blocked_of effect_at_of effect_of lengths_fit_of lent_decline_up_to common_decline_of
    step_decline_of advance_of step_of listed_of in_range_up_to in_window_of locate_of digit_of width_of line_of record_after_of printed_of value_of
    record_of is_store_of is_step_of is_record_of is_script_of
worked_example = record { worked = refl; empty = refl }
