-- The bench values hold: the totals by arithmetic, the answers to a start by computation.
-- Assumes nothing.
use mathlib.Core.Path.{◌≡◌, refl}
use Prim.Native.Nat.{ℕ}
use Rattle.geometry.specs.Banks.{listed_of, in_range_up_to}
use Rattle.geometry.specs.Lent.{lengths_fit_of, lent_decline_up_to}
use Rattle.sequence.specs.Sequence.{complement_of, valid_of}
use Rattle.sequence.specs.Comparison.{compare_of}
use Rattle.device.specs.declared.record.Device.{Device}
use Rattle.device.specs.Builders.{power_on}
use Rattle.device.specs.Record.{register_of}
use Rattle.common_declines.specs.Possible.{implemented_of, launched_fits_of, nothing_launched_of, resting_of, possible_of}
use Rattle.common_declines.specs.CommonDecline.{common_decline_of}
use Rattle.nvmop.proofs.Bench as operation-bench
use Rattle.resets.specs.Reset.{compared_of, reset_con_of, reset_device_of}
use Rattle.update.specs.Actions.{total_of}
use Rattle.update.specs.Start.{clash_of, sequence_allows_of, upper_free_of, start_decline_of, start_of}
use Rattle.update.specs.Bench.{smallest, bench_bank, Bench}

-- any power-on of the banks of the answers gives the device of `bench_state`
abbrev PowersOn : ℕ → ℕ → Type 0
PowersOn first second = (d : Device) → reset_device_of d 0 (compared_of smallest (bench_bank first) (bench_bank second)) ≡ power_on

pub bench_power_on : PowersOn 0x0001_FFFE 0xFFFF_FFFF × PowersOn 0x0000_FFFF 0xFFFF_FFFF × PowersOn 0xFFFE_0001 0x0000_0000 × PowersOn 0xFFFE_0001 0xFFFF_FFFF
unfolding complement_of valid_of compare_of reset_con_of reset_device_of
bench_power_on = (λ d. refl, λ d. refl, λ d. refl, λ d. refl)

pub bench : Bench
unfolding listed_of in_range_up_to lengths_fit_of lent_decline_up_to complement_of valid_of compare_of register_of
    implemented_of launched_fits_of nothing_launched_of resting_of possible_of
    common_decline_of total_of
    clash_of sequence_allows_of upper_free_of start_decline_of start_of
bench =
    record {
      operation = operation-bench.bench;
      total_small = λ g n q. rw (n, q);
      total_large = λ g n q. rw (n, q);
      last_but_one = λ image e. rw e;
      last = λ image e. rw e;
      other_zero = λ image e. rw e;
      other_erased = λ image e. rw e;
    }
