-- The turns at places 18 and 19 compute: the one launches, the other is a step. Assumes nothing.
use Prim.Native.Nat.{ℕ, zero, suc, ◌<◌}
use mathlib.Core.Path.{refl, sym}
use mathlib.Core.List.{[], ◌∷◌}
use native.Mathlib.Omega.{arith}
use lib.ListN.{length}
use Rattle.words.proofs.BitLaws.{true_not_false}
use Rattle.geometry.specs.Banks.{listed_of, in_range_up_to}
use Rattle.geometry.specs.Lent.{lengths_fit_of, lent_decline_up_to}
use Rattle.map.specs.Windows.{in_window_of, locate_of}
use Rattle.device.specs.Record.{register_of}
use Rattle.protection.specs.Protection.{program_protected_of, protected_of}
use Rattle.nvmop.specs.Operation.{unit_of, target_of, target_begins_of, begins_at_of, length_of}
use Rattle.common_declines.specs.Possible.{implemented_of, launched_fits_of, nothing_launched_of, running_of, resting_of, possible_of}
use Rattle.common_declines.specs.CommonDecline.{common_decline_of}
use Rattle.register_fields.specs.Fields.{key_next_of, con_takes_of}
use Rattle.launch.specs.ConStore.{launches_of, con_store_of}
use Rattle.launch.specs.Launch.{launch_of}
use Rattle.register_access.specs.Store.{has_form_of, may_store_of, store_decline_of, applied_of, store_accepted_of, store_of}
use Rattle.flash.specs.Effect.{step_at_of, blocked_of, effect_at_of, effect_of}
use Rattle.flash.specs.Step.{step_decline_of, advance_of, step_of}
use Rattle.update.specs.Actions.{upper_address_of, erased_page_of, total_of, page_action_of, action_at_of}
use Rattle.update.specs.Turn.{turn_decline_of, turn_of}
use Rattle.update.specs.Bench.{smallest}
use Rattle.update.specs.Example.{example_image}
use Rattle.row_signs.specs.Signs.{queue_of}
use Rattle.row_judge.specs.Judge.{entry_stands_of, queue_stands_of, start_of, apart_of, bank_stands_of, banks_stand_of, row_stands_of, row_decline_of}
use Rattle.row_judge.proofs.JudgeLaws.{stands}
use Rattle.row.specs.Row.{Can, WouldSet}
use Rattle.row.specs.Choosing.{met_at, Open, Held, FirstMet, JudgedCall}
use Rattle.row.specs.TwoSigns.{example_store, example_call}
use Rattle.row.specs.Waiting.{erasing_row, waiting_row, Waiting}

-- ---- the turns
launch_can : Can smallest erasing_row example_call 1
unfolding has_form_of may_store_of store_decline_of launches_of con_store_of applied_of store_accepted_of store_of key_next_of con_takes_of launch_of
    unit_of target_of target_begins_of begins_at_of length_of implemented_of launched_fits_of nothing_launched_of resting_of running_of possible_of
    program_protected_of register_of lengths_fit_of lent_decline_up_to common_decline_of listed_of in_range_up_to in_window_of locate_of
    upper_address_of erased_page_of total_of page_action_of action_at_of turn_decline_of turn_of
launch_can = record { accepted = refl; unfinished = refl }

launch_sets : WouldSet smallest erasing_row example_call 1
unfolding has_form_of may_store_of store_decline_of launches_of con_store_of applied_of store_accepted_of store_of key_next_of con_takes_of launch_of
    unit_of target_of target_begins_of begins_at_of length_of implemented_of launched_fits_of nothing_launched_of resting_of running_of possible_of
    program_protected_of register_of lengths_fit_of lent_decline_up_to common_decline_of listed_of in_range_up_to in_window_of locate_of
    upper_address_of erased_page_of total_of page_action_of action_at_of turn_decline_of turn_of
launch_sets = record { before = refl; after = refl }

step_can : Can smallest erasing_row example_call 0
unfolding unit_of target_of target_begins_of begins_at_of length_of implemented_of launched_fits_of nothing_launched_of resting_of running_of possible_of
    program_protected_of protected_of register_of lengths_fit_of lent_decline_up_to common_decline_of listed_of in_range_up_to in_window_of locate_of
    step_at_of blocked_of effect_at_of effect_of step_decline_of advance_of step_of
    upper_address_of erased_page_of total_of page_action_of action_at_of turn_decline_of turn_of
step_can = record { accepted = refl; unfinished = refl }

-- the other row has the same record 1
waiting_can : Can smallest waiting_row example_call 1
waiting_can = record { accepted = launch_can.accepted; unfinished = launch_can.unfinished }

-- ---- the calls are not declined
judged : JudgedCall smallest erasing_row example_call
unfolding listed_of in_range_up_to lengths_fit_of lent_decline_up_to entry_stands_of queue_stands_of start_of apart_of
    bank_stands_of banks_stand_of row_stands_of row_decline_of
judged = stands smallest 1 erasing_row.signs 2 (queue_of []) 0 (length example_store) (length example_image) 0 refl

judged_waiting : JudgedCall smallest waiting_row example_call
unfolding listed_of in_range_up_to lengths_fit_of lent_decline_up_to entry_stands_of queue_stands_of start_of apart_of
    bank_stands_of banks_stand_of row_stands_of row_decline_of
judged_waiting = stands smallest 1 waiting_row.signs 2 (queue_of (1 ∷ [])) 0 (length example_store) (length example_image) 0 refl

-- ---- record 1 is held back, and record 0 is served
held : Held smallest erasing_row example_call 1
held = record { is_open = record { can = launch_can; free = λ w. true_not_false (sym w) }; sets = launch_sets; full = omega arith }

goes_on : FirstMet smallest erasing_row example_call 1
goes_on =
    record {
      nobody = λ room p inside can. omega (arith, inside);
      inside = omega arith;
      is_open = record { can = step_can; free = λ w. true_not_false (sym w) };
      bears = λ h. true_not_false h.sets.before;
      first = first;
    }
  where
    first : (e : ℕ) → e < 1 → Open smallest erasing_row example_call (met_at erasing_row e) → Held smallest erasing_row example_call (met_at erasing_row e)
    first zero l is_open = held
    first (suc e) l is_open = absurd (omega (arith, l))

pub waiting : Waiting
waiting =
    record {
      begins = record { at = 0; before = omega arith; is = refl; held = held };
      goes_on = goes_on;
      judged = judged;
      served = record { room = omega arith; inside = omega arith; can = waiting_can; first = λ q l can. omega (arith, l) };
      judged_waiting = judged_waiting;
    }
