-- The definitions compute it. Assumes nothing.
use mathlib.Core.Path.{refl}
use native.Mathlib.Omega.{arith}
use Rattle.geometry.specs.Banks.{listed_of, in_range_up_to}
use Rattle.geometry.specs.Lent.{lengths_fit_of, lent_decline_up_to}
use Rattle.map.specs.Windows.{in_window_of, locate_of}
use Rattle.device.specs.Record.{register_of}
use Rattle.protection.specs.Protection.{program_protected_of}
use Rattle.nvmop.specs.Operation.{unit_of, target_of, target_begins_of, begins_at_of, length_of}
use Rattle.common_declines.specs.Possible.{implemented_of, launched_fits_of, nothing_launched_of, running_of, resting_of, possible_of}
use Rattle.common_declines.specs.CommonDecline.{common_decline_of}
use Rattle.register_fields.specs.Fields.{key_next_of, key_after_read_of, con_takes_of}
use Rattle.launch.specs.ConStore.{launches_of, con_store_of}
use Rattle.launch.specs.Launch.{launch_of}
use Rattle.register_access.specs.Store.{has_form_of, may_store_of, store_decline_of, applied_of, store_accepted_of, store_of, read_decline_of, register_read_of}
use Rattle.controller.specs.Examples.{Examples}

pub examples : Examples
unfolding has_form_of may_store_of store_decline_of launches_of con_store_of applied_of store_accepted_of store_of key_next_of
    key_after_read_of con_takes_of launch_of
    unit_of target_of target_begins_of begins_at_of length_of implemented_of launched_fits_of nothing_launched_of resting_of running_of possible_of
    program_protected_of register_of lengths_fit_of lent_decline_up_to common_decline_of listed_of in_range_up_to in_window_of
    locate_of read_decline_of register_read_of
examples =
    record {
      runs = refl;
      loads = (refl, (omega arith, (refl, tt)));
      early = refl;
      other = refl;
      half_open_lem = refl;
      answered = refl;
      closed = refl;
    }
