-- A possible device by its facts: each register within its mask, bit 6 of NVMBWP set, the key step, and what runs.
-- Assumes nothing.
use mathlib.Core.Path.{◌≡◌}
use mathlib.Core.Bool.{true, false, ◌&&◌}
use Prim.Native.Nat.{ℕ, ◌^◌, ◌≤◌, ◌<◌}
use native.Mathlib.Omega.{arith}
use lib.Dec.{eqb, leb}
use lib.Bits.{bit_and}
use borrow.Author.Tests.{le-leb, leb-true, eqb-true}
use Rattle.words.specs.Word.{pick, has_of}
use Rattle.words.specs.Quad.{word_at}
use Rattle.words.proofs.CaseLaws.{below_four}
use Rattle.words.proofs.PickLaws.{and_both}
use Rattle.words.proofs.MaskLaws.{Within, within_test, test_within, below_within, within_below}
use Rattle.geometry.specs.declared.banks.Geometry.{Geometry}
use Rattle.device.specs.declared.record.Device.{Device}
use Rattle.device.specs.declared.record.Operands.{Operands}
use Rattle.device.specs.Registers.{within_of, ALWAYS}
use Rattle.device.specs.Builders.{with_con, with_launched, with_operands}
use Rattle.device.specs.Record.{register_of, running, operands_of}
use Rattle.common_declines.specs.Possible.{rows_fit, implemented_of, launched_fits_of, running_of, resting_of, possible_of}

-- each register is within its mask
pub record Implemented (d : Device) : Type 0 where
  pub con : Within 0xF0CF d.nvmcon.0
  pub key : Within 0 d.nvmkey
  pub addr : d.nvmaddr < 2 ^ 32
  pub words : (j : ℕ) → j < 4 → word_at d.nvmdata j < 2 ^ 32
  pub src : d.nvmsrcaddr < 2 ^ 32
  pub pwp : Within 0x80FF_FFFF d.nvmpwp.0
  pub bwp : Within 0x9FDF d.nvmbwp.0
  pub con2 : Within 0xF01F_B3C0 d.nvmcon2.0

word_test : (w : ℕ) → w < 2 ^ 32 → eqb (bit_and w 0xFFFF_FFFF) w ≡ true
word_test w h = within_test 0xFFFF_FFFF w (below_within 32 w h)

test_word : (w : ℕ) → eqb (bit_and w 0xFFFF_FFFF) w ≡ true → w < 2 ^ 32
test_word w e = within_below 32 w (test_within 0xFFFF_FFFF w e)

implemented : (d : Device) → implemented_of d ≡ true → Implemented d
unfolding implemented_of register_of
implemented d h =
    let s10 = and_both (rows_fit d 10) (within_of 10 (register_of d 10)) h in
    let s9 = and_both (rows_fit d 9) (within_of 9 (register_of d 9)) s10.0 in
    let s8 = and_both (rows_fit d 8) (within_of 8 (register_of d 8)) s9.0 in
    let s7 = and_both (rows_fit d 7) (within_of 7 (register_of d 7)) s8.0 in
    let s6 = and_both (rows_fit d 6) (within_of 6 (register_of d 6)) s7.0 in
    let s5 = and_both (rows_fit d 5) (within_of 5 (register_of d 5)) s6.0 in
    let s4 = and_both (rows_fit d 4) (within_of 4 (register_of d 4)) s5.0 in
    let s3 = and_both (rows_fit d 3) (within_of 3 (register_of d 3)) s4.0 in
    let s2 = and_both (rows_fit d 2) (within_of 2 (register_of d 2)) s3.0 in
    let s1 = and_both (rows_fit d 1) (within_of 1 (register_of d 1)) s2.0 in
    let s0 = and_both (rows_fit d 0) (within_of 0 (register_of d 0)) s1.0 in
    record {
      con = test_within 0xF0CF d.nvmcon.0 s0.1;
      key = test_within 0 d.nvmkey s1.1;
      addr = test_word d.nvmaddr s2.1;
      words = below_four _ (test_word _ s3.1) (test_word _ s4.1) (test_word _ s5.1) (test_word _ s6.1);
      src = test_word d.nvmsrcaddr s7.1;
      pwp = test_within 0x80FF_FFFF d.nvmpwp.0 s8.1;
      bwp = test_within 0x9FDF d.nvmbwp.0 s9.1;
      con2 = test_within 0xF01F_B3C0 d.nvmcon2.0 s10.1;
    }

implemented_test : (d : Device) → Implemented d → implemented_of d ≡ true
unfolding implemented_of register_of
implemented_test d h =
    rw (
      within_test 0xF0CF d.nvmcon.0 h.con,
      within_test 0 d.nvmkey h.key,
      word_test d.nvmaddr h.addr,
      word_test (word_at d.nvmdata 0) (h.words 0 (omega arith)),
      word_test (word_at d.nvmdata 1) (h.words 1 (omega arith)),
      word_test (word_at d.nvmdata 2) (h.words 2 (omega arith)),
      word_test (word_at d.nvmdata 3) (h.words 3 (omega arith)),
      word_test d.nvmsrcaddr h.src,
      within_test 0x80FF_FFFF d.nvmpwp.0 h.pwp,
      within_test 0x9FDF d.nvmbwp.0 h.bwp,
      within_test 0xF01F_B3C0 d.nvmcon2.0 h.con2,
    )

-- what registers hold can be launched
pub operands_fit : (d : Device) → Implemented d → launched_fits_of (operands_of d) ≡ true
unfolding launched_fits_of
operands_fit d h =
    rw (
      word_test d.nvmaddr h.addr,
      word_test (word_at d.nvmdata 0) (h.words 0 (omega arith)),
      word_test (word_at d.nvmdata 1) (h.words 1 (omega arith)),
      word_test (word_at d.nvmdata 2) (h.words 2 (omega arith)),
      word_test (word_at d.nvmdata 3) (h.words 3 (omega arith)),
      word_test d.nvmsrcaddr h.src,
    )

-- and what can be launched registers can hold
pub launched_fit : (d : Device) (o : Operands) → launched_fits_of o ≡ true → Implemented d → Implemented (with_operands d o)
unfolding launched_fits_of
launched_fit d o h old =
    let s2 = and_both (within_of 2 o.nvmaddr) _ h in
    let s3 = and_both (within_of 3 (word_at o.nvmdata 0)) _ s2.1 in
    let s4 = and_both (within_of 4 (word_at o.nvmdata 1)) _ s3.1 in
    let s5 = and_both (within_of 5 (word_at o.nvmdata 2)) _ s4.1 in
    let s6 = and_both (within_of 6 (word_at o.nvmdata 3)) (within_of 7 o.nvmsrcaddr) s5.1 in
    record {
      con = old.con;
      key = old.key;
      addr = test_word o.nvmaddr s2.0;
      words = below_four _ (test_word _ s3.0) (test_word _ s4.0) (test_word _ s5.0) (test_word _ s6.0);
      src = test_word o.nvmsrcaddr s6.1;
      pwp = old.pwp;
      bwp = old.bwp;
      con2 = old.con2;
    }

-- the five parts of decline 3
pub record Possible (g : Geometry) (d : Device) : Type 0 where
  pub rows : Implemented d
  pub launched : launched_fits_of d.launched ≡ true
  pub always : has_of d.nvmbwp.0 ALWAYS ≡ true
  pub keys : d.keystep ≤ 3
  pub runs : pick (running d) (running_of g d) (resting_of d) ≡ true

pub possible : (g : Geometry) (d : Device) → possible_of g d ≡ true → Possible g d
unfolding possible_of
possible g d h =
    let runs = pick (running d) (running_of g d) (resting_of d) in
    let s0 = and_both (implemented_of d) (launched_fits_of d.launched && (has_of d.nvmbwp.0 ALWAYS && (leb d.keystep 3 && runs))) h in
    let s1 = and_both (launched_fits_of d.launched) (has_of d.nvmbwp.0 ALWAYS && (leb d.keystep 3 && runs)) s0.1 in
    let s2 = and_both (has_of d.nvmbwp.0 ALWAYS) (leb d.keystep 3 && runs) s1.1 in
    let s3 = and_both (leb d.keystep 3) runs s2.1 in
    record { rows = implemented d s0.0; launched = s1.0; always = s2.0; keys = leb-true _ _ s3.0; runs = s3.1 }

pub possible_test : (g : Geometry) (d : Device) → Possible g d → possible_of g d ≡ true
unfolding possible_of
possible_test g d h = rw (implemented_test d h.rows, h.launched, h.always, le-leb _ _ h.keys, h.runs)

-- with WR = 0 the device holds nothing of an operation
pub resting : (g : Geometry) (d : Device) → possible_of g d ≡ true → running d ≡ false → resting_of d ≡ true
resting g d h idle = rw idle at (possible g d h).runs

-- with WR = 0 the step number is 0
pub idle_step : (g : Geometry) (d : Device) → possible_of g d ≡ true → running d ≡ false → d.step ≡ 0
unfolding resting_of
idle_step g d h idle = eqb-true _ _ (and_both (eqb d.step 0) _ (resting g d h idle)).0

-- the rows say nothing of the key step and the step number
pub same_rows : (d : Device) (con keystep step : ℕ) → Within 0xF0CF con → Implemented d → Implemented (with_con d con keystep step)
same_rows d con keystep step h old =
    record {
      con = h;
      key = old.key;
      addr = old.addr;
      words = old.words;
      src = old.src;
      pwp = old.pwp;
      bwp = old.bwp;
      con2 = old.con2;
    }

-- nor of what was launched
pub same_launched : (d : Device) (launched : Operands) → Implemented d → Implemented (with_launched d launched)
same_launched d launched old =
    record {
      con = old.con;
      key = old.key;
      addr = old.addr;
      words = old.words;
      src = old.src;
      pwp = old.pwp;
      bwp = old.bwp;
      con2 = old.con2;
    }
