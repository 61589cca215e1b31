-- Plays of one record that give 4, 5 and 6, on the smallest sign. Assumes nothing.
use Prim.Native.Nat.{ℕ, zero, suc, ◌<◌}
use mathlib.Core.Path.{◌≡◌, refl}
use mathlib.Core.Bool.{true}
use mathlib.Core.List.{List, [], ◌∷◌}
use native.Mathlib.Omega.{arith}
use lib.ListN.{replicate}
use Rattle.geometry.specs.declared.banks.Geometry.{Geometry}
use Rattle.geometry.specs.Banks.{listed_of, in_range_up_to}
use Rattle.geometry.specs.Lent.{lengths_fit_of, lent_decline_up_to}
use Rattle.device.specs.declared.record.Device.{Device}
use Rattle.device.specs.Record.{register_of}
use Rattle.device.specs.Builders.{power_on, with_con}
use Rattle.device.specs.State.{state}
use Rattle.protection.specs.Protection.{any_protected_of, program_protected_of}
use Rattle.nvmop.specs.Operation.{begins_at_of, region_begins_of, length_of}
use Rattle.common_declines.specs.Possible.{possible_of, implemented_of, launched_fits_of, running_of, resting_of, nothing_launched_of}
use Rattle.common_declines.specs.CommonDecline.{common_decline_of}
use Rattle.register_access.specs.Store.{has_form_of, may_store_of, store_decline_of, store_of}
use Rattle.flash.specs.Step.{step_decline_of, step_of}
use Rattle.script_format.specs.Records.{Bytes, value_of, record_of, is_store_of, is_step_of, is_record_of, is_script_of}
use Rattle.script_record.specs.Record.{record_after_of}
use Rattle.script_smallest.specs.Smallest.{answer_of}
use Rattle.script_smallest.specs.SmallestScripts.{Playable, Example}

abbrev sign : Geometry
sign = record { q = 1; b = 1; p = 1 }

abbrev bank : List ℕ
bank = replicate 64 0

-- a record of a kind, a register and a form; its value is 0
abbrev bytes_of_record : ℕ → ℕ → ℕ → List ℕ
bytes_of_record kind register form = kind ∷ register ∷ form ∷ 0 ∷ 0 ∷ 0 ∷ 0 ∷ 0 ∷ []

-- each element of a list is a byte
abbrev EachByte : List ℕ → Type 0
EachByte [] = Unit {0}
EachByte (b ∷ rest) = (b < 256) × EachByte rest

bytes_of : (l : List ℕ) → EachByte l → Bytes l
bytes_of [] each k = omega arith
bytes_of (b ∷ rest) (byte, others) zero = byte
bytes_of (b ∷ rest) (byte, others) (suc k) = bytes_of rest others k

record_bytes : (kind register form : ℕ) → kind < 256 → register < 256 → form < 256 → Bytes (bytes_of_record kind register form)
record_bytes kind register form a b c =
    let none : 0 < 256 = omega arith in
    bytes_of (bytes_of_record kind register form) (a, (b, (c, (none, (none, (none, (none, (none, tt))))))))

-- such a record on a possible device is played
plays : (d : Device) (kind register form : ℕ) → possible_of sign d ≡ true → is_script_of (bytes_of_record kind register form) ≡ true
    → Playable sign [] (state d bank bank) (bytes_of_record kind register form) bank bank (bytes_of_record 0 0 0)
unfolding lent_decline_up_to in_range_up_to listed_of lengths_fit_of
plays d kind register form possible script = record { lent = refl; buffer = refl; device = possible; script = script; few = omega arith }

-- so it is an example of what it answers
example : (number : ℕ) (d : Device) (kind register form : ℕ) → possible_of sign d ≡ true → is_script_of (bytes_of_record kind register form) ≡ true
    → kind < 256 → register < 256 → form < 256 → answer_of sign [] (state d bank bank) (bytes_of_record kind register form) 0 ≡ number → Example number
example number d kind register form possible script a b c answers =
    record {
      g = sign;
      sram = [];
      s = state d bank bank;
      x = bytes_of_record kind register form;
      one = bank;
      two = bank;
      result = bytes_of_record 0 0 0;
      playable = plays d kind register form possible script;
      bytes = record_bytes kind register form a b c;
      gives = record { at = 0; below = omega arith; answers = answers };
    }

-- NVMKEY with form 1
pub four : Example 4
unfolding possible_of implemented_of register_of launched_fits_of resting_of nothing_launched_of is_script_of is_record_of record_of is_store_of
    record_after_of store_of store_decline_of common_decline_of lent_decline_up_to in_range_up_to listed_of lengths_fit_of has_form_of
four = example 4 power_on 0 1 1 refl refl (omega arith) (omega arith) (omega arith) refl

-- NVMCON while the upper region is erased
pub five : Example 5
unfolding possible_of implemented_of register_of launched_fits_of running_of begins_at_of region_begins_of any_protected_of program_protected_of
    length_of is_script_of is_record_of record_of is_store_of record_after_of store_of store_decline_of common_decline_of lent_decline_up_to
    in_range_up_to listed_of lengths_fit_of has_form_of may_store_of
five = example 5 (with_con power_on 0xE006 0 0) 0 0 0 refl refl (omega arith) (omega arith) (omega arith) refl

-- a step at rest
pub six : Example 6
unfolding possible_of implemented_of register_of launched_fits_of resting_of nothing_launched_of is_script_of is_record_of record_of value_of is_step_of
    record_after_of step_of step_decline_of common_decline_of lent_decline_up_to in_range_up_to listed_of lengths_fit_of
six = example 6 power_on 1 0 0 refl refl (omega arith) (omega arith) (omega arith) refl
