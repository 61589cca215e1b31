-- Decline 3 test by test: each holds exactly where its clause does not apply. Assumes nothing.
use mathlib.Core.Path.{◌≡◌, refl, sym, ap, ◌∙◌}
use mathlib.Core.Bool.{Bool, true, false, not, ◌&&◌}
use Prim.Native.Nat.{ℕ, zero, suc, ◌≤◌, ◌<◌}
use native.Mathlib.Decide.{dec_lt}
use native.Mathlib.Omega.{arith}
use lib.Dec.{eqb, leb, ltb}
use lib.ListN.{get_or}
use lib.Bits.{bit_and}
use borrow.Author.Tests.{eqb-true, eq-eqb, leb-true, le-leb, ltb-true, lt-ltb, not-true}
use Rattle.words.specs.Word.{pick, bit, has_of}
use Rattle.words.proofs.BitLaws.{true_not_false, bit-and, bit_zero, ones_bit, bit_above, has_bit, equal_by_bits}
use Rattle.words.proofs.PickLaws.{and_both, all-below, all_hold}
use Rattle.geometry.specs.declared.banks.Geometry.{Geometry}
use Rattle.geometry.specs.Banks.{in_range_of}
use Rattle.device.specs.declared.record.Device.{Device}
use Rattle.device.specs.Registers.{masks, within_of}
use Rattle.device.specs.Record.{register_of, running, op_of}
use Rattle.device.specs.ByNumber.{launched_of}
use Rattle.nvmop.specs.Operation.{launched_begins_of, length_of}
use Rattle.nvmop.proofs.Failing.{beginning}
use Rattle.common_declines.specs.Possible.{implemented_of, launched_fits_of, nothing_launched_of, running_of, resting_of, possible_of}
use Rattle.common_declines.specs.PossibleDevice.{PossibleDevice, DeclineThree}

-- ---- bits within a mask
within_bits : (v m : ℕ) → eqb (bit_and v m) v ≡ true → (k : ℕ) → bit k v ≡ true → bit k m ≡ true
within_bits v m h k on =
    let same : (bit k v && bit k m) ≡ bit k v = sym (bit-and k v m) ∙ ap (bit k) (eqb-true (bit_and v m) v h) in
    (and_both (bit k v) (bit k m) (same ∙ on)).1

bits_within : (v m : ℕ) → ((k : ℕ) → bit k v ≡ true → bit k m ≡ true) → eqb (bit_and v m) v ≡ true
bits_within v m h = eq-eqb (bit_and v m) v (equal_by_bits (bit_and v m) v (λ k. bit-and k v m ∙ go k (bit k v) refl))
  where
    go : (k : ℕ) (t : Bool) → bit k v ≡ t → (bit k v && bit k m) ≡ bit k v
    go k true e = rw (e, h k e)
    go k false e = rw e

-- all 32 bits
word_bits : (v : ℕ) → eqb (bit_and v 0xFFFF_FFFF) v ≡ true → (k : ℕ) → bit k v ≡ true → k < 32
word_bits v h k on = go (dec_lt k 32)
  where
    go : Dec (k < 32) → k < 32
    go (yes l) = l
    go (no l) = true_not_false (sym (within_bits v 0xFFFF_FFFF h k on) ∙ bit_above 32 k 0xFFFF_FFFF (omega arith) (omega (arith, l)))

bits_word : (v : ℕ) → ((k : ℕ) → bit k v ≡ true → k < 32) → eqb (bit_and v 0xFFFF_FFFF) v ≡ true
bits_word v h = bits_within v 0xFFFF_FFFF (λ k on. ones_bit 32 k (h k on))

-- ---- registers 2 to 7
by_six : (P : ℕ → Type 0) → P 2 → P 3 → P 4 → P 5 → P 6 → P 7 → (r : ℕ) → 1 < r → r < 8 → P r
by_six P two three four five six seven zero low high = absurd (omega (arith, low))
by_six P two three four five six seven (suc zero) low high = absurd (omega (arith, low))
by_six P two three four five six seven (suc (suc zero)) low high = two
by_six P two three four five six seven (suc (suc (suc zero))) low high = three
by_six P two three four five six seven (suc (suc (suc (suc zero)))) low high = four
by_six P two three four five six seven (suc (suc (suc (suc (suc zero))))) low high = five
by_six P two three four five six seven (suc (suc (suc (suc (suc (suc zero)))))) low high = six
by_six P two three four five six seven (suc (suc (suc (suc (suc (suc (suc zero))))))) low high = seven
by_six P two three four five six seven (suc (suc (suc (suc (suc (suc (suc (suc r)))))))) low high = absurd (omega (arith, high))

-- six tests in a row, of the six launched words
abbrev six_of : (ℕ → Bool) → Device → Bool
six_of test d =
    test (launched_of d 2)
    && (test (launched_of d 3) && (test (launched_of d 4) && (test (launched_of d 5) && (test (launched_of d 6) && test (launched_of d 7)))))

record Six (test : ℕ → Bool) (d : Device) : Type 0 where
  each : (r : ℕ) → 1 < r → r < 8 → test (launched_of d r) ≡ true

six : (test : ℕ → Bool) (d : Device)
    → six_of test d ≡ true → Six test d
six test d h =
    let (two, a) = and_both (test (launched_of d 2)) _ h in
    let (three, b) = and_both (test (launched_of d 3)) _ a in
    let (four, c) = and_both (test (launched_of d 4)) _ b in
    let (five, e) = and_both (test (launched_of d 5)) _ c in
    let (six-is, seven) = and_both (test (launched_of d 6)) (test (launched_of d 7)) e in
    record { each = by_six (λ r. test (launched_of d r) ≡ true) two three four five six-is seven }

all_six : (test : ℕ → Bool) (d : Device) → Six test d
    → six_of test d ≡ true
all_six test d s =
    rw (
      s.each 2 (omega arith) (omega arith),
      s.each 3 (omega arith) (omega arith),
      s.each 4 (omega arith) (omega arith),
      s.each 5 (omega arith) (omega arith),
      s.each 6 (omega arith) (omega arith),
      s.each 7 (omega arith) (omega arith),
    )

module _ (g : Geometry) (d : Device) (listed : in_range_of g ≡ true) where
  abbrev con : ℕ
  con = d.nvmcon.0

  -- ---- the tests of a running and of a resting device
  record Running : Type 0 where
    key : d.keystep ≡ 0
    wrerr : bit 13 con ≡ true
    lvderr : bit 12 con ≡ false
    begins : launched_begins_of g d ≡ true
    below : d.step < length_of g (op_of d)

  is-running : running_of g d ≡ true → Running
  unfolding running_of
  is-running h =
      let (key, a) = and_both (eqb d.keystep 0) _ h in
      let (wrerr, b) = and_both (has_of con 0x2000) _ a in
      let (lvderr, c) = and_both (not (has_of con 0x1000)) _ b in
      let (begins, below) = and_both (launched_begins_of g d) (ltb d.step (length_of g (op_of d))) c in
      record {
        key = eqb-true _ _ key;
        wrerr = sym (has_bit 13 con) ∙ wrerr;
        lvderr = sym (has_bit 12 con) ∙ not-true _ lvderr;
        begins = begins;
        below = ltb-true _ _ below;
      }

  running_is : Running → running_of g d ≡ true
  unfolding running_of
  running_is r =
      rw (eq-eqb _ _ r.key, has_bit 13 con ∙ r.wrerr, has_bit 12 con ∙ r.lvderr, r.begins, lt-ltb _ _ r.below)

  abbrev fits : ℕ → Bool
  fits w = eqb (bit_and w 0xFFFF_FFFF) w

  abbrev none : ℕ → Bool
  none w = eqb w 0

  -- the five parts of the test
  record Parts : Type 0 where
    rows : (r : ℕ) → r < 11 → within_of r (register_of d r) ≡ true
    words : Six fits d
    always : has_of d.nvmbwp.0 0x40 ≡ true
    key_step : d.keystep ≤ 3
    rest : pick (running d) (running_of g d) (resting_of d) ≡ true

  parts : possible_of g d ≡ true → Parts
  unfolding possible_of implemented_of launched_fits_of
  parts h =
      let (rows, a) = and_both (implemented_of d) _ h in
      let (words, b) = and_both (launched_fits_of d.launched) _ a in
      let (always, c) = and_both (has_of d.nvmbwp.0 0x40) _ b in
      let (key, rest) = and_both (leb d.keystep 3) (pick (running d) (running_of g d) (resting_of d)) c in
      record {
        rows = all-below (λ r. within_of r (register_of d r)) 11 rows;
        words = six fits d words;
        always = always;
        key_step = leb-true _ _ key;
        rest = rest;
      }

  whole : Parts → possible_of g d ≡ true
  unfolding possible_of implemented_of launched_fits_of
  whole p =
      rw (all_hold (λ r. within_of r (register_of d r)) 11 p.rows, all_six fits d p.words, p.always, le-leb _ _ p.key_step) p.rest

  wr : bit 15 (register_of d 0) ≡ running d
  unfolding register_of
  wr = sym (has_bit 15 con)

  runs_now : Parts → bit 15 (register_of d 0) ≡ true → Running
  runs_now p on = is-running (rw (sym wr ∙ on) at p.rest)

  rests_now : Parts → bit 15 (register_of d 0) ≡ false → (d.step ≡ 0) × Six none d
  unfolding resting_of nothing_launched_of
  rests_now p off =
      let (step, words) = and_both (eqb d.step 0) (nothing_launched_of d.launched) (rw (sym wr ∙ off) at p.rest) in
      (eqb-true _ _ step, six none d words)

  is-possible : possible_of g d ≡ true → PossibleDevice g d
  unfolding register_of
  is-possible h =
      let p = parts h in
      record {
        implemented = λ r l. within_bits (register_of d r) (get_or masks r 0) (p.rows r l);
        launched_bits = λ r low high. word_bits (launched_of d r) (p.words.each r low high);
        always = sym (has_bit 6 d.nvmbwp.0) ∙ p.always;
        key = equal_by_bits d.nvmkey 0 (λ k. no_bit k (bit k d.nvmkey) refl (within_bits d.nvmkey 0 (p.rows 1 (omega arith)) k) ∙ sym (bit_zero k));
        key_step = p.key_step;
        rests = λ off. (rests_now p off).0;
        rests_launched = λ off r low high. eqb-true _ _ ((rests_now p off).1.each r low high);
        runs_key = λ on. (runs_now p on).key;
        runs_errors = λ on. ((runs_now p on).wrerr, (runs_now p on).lvderr);
        runs_op = λ on. let (low, (high, no-failure)) = beginning.only g _ _ _ listed (runs_now p on).begins in (low, high);
        runs_target = λ on. (beginning.only g _ _ _ listed (runs_now p on).begins).1.1;
        runs_step = λ on. (runs_now p on).below;
      }
    where
      no_bit : (k : ℕ) (t : Bool) → bit k d.nvmkey ≡ t → (bit k d.nvmkey ≡ true → bit k 0 ≡ true) → bit k d.nvmkey ≡ false
      no_bit k true e h = true_not_false (sym (h e) ∙ bit_zero k)
      no_bit k false e h = e

  possible_is : PossibleDevice g d → possible_of g d ≡ true
  unfolding register_of resting_of nothing_launched_of
  possible_is p =
      whole
      (record {
        rows = λ r l. bits_within (register_of d r) (get_or masks r 0) (p.implemented r l);
        words = record { each = λ r low high. bits_word (launched_of d r) (p.launched_bits r low high) };
        always = has_bit 6 d.nvmbwp.0 ∙ always p.always;
        key_step = p.key_step;
        rest = rest (running d) refl;
      })
    where
      always : bit 6 (register_of d 9) ≡ true → bit 6 d.nvmbwp.0 ≡ true
      always h = h

      runs : bit 15 (register_of d 0) ≡ true → Running
      runs on =
          record {
            key = p.runs_key on;
            wrerr = (p.runs_errors on).0;
            lvderr = (p.runs_errors on).1;
            begins = beginning.begins g _ _ _ listed (p.runs_op on).0 (p.runs_op on).1 (p.runs_target on);
            below = p.runs_step on;
          }

      rest : (t : Bool) → running d ≡ t → pick t (running_of g d) (resting_of d) ≡ true
      rest true on = running_is (runs (wr ∙ on))
      rest false off =
          rw (eq-eqb _ _ (p.rests (wr ∙ off)))
          (all_six none d (record { each = λ r low high. eq-eqb _ _ (p.rests_launched (wr ∙ off) r low high) }))

pub decline_three : DeclineThree
decline_three = record { taken = λ g d listed. possible_is g d listed; only = λ g d listed. is-possible g d listed }
