-- A store that is not declined leaves a possible device; so does a register read.
-- Assumes nothing.
use mathlib.Core.Path.{◌≡◌, refl, sym, ap, ◌∙◌}
use mathlib.Core.Bool.{Bool, true, false, ◌||◌, or-true, or-false}
use mathlib.Core.List.{List, [], ◌∷◌}
use Prim.Native.Nat.{ℕ, zero, suc, ◌+◌, ◌%◌, ◌^◌, ◌≤◌, ◌<◌}
use native.Mathlib.Nat.{lt_of_le_of_lt}
use native.Mathlib.Omega.{arith}
use lib.Dec.{eqb, leb, ltb, lit<}
use lib.ListN.{set}
use lib.Bits.{bit_or, xor_lt, or_lt, and_lt, or_mod, or_zero_r}
use borrow.Author.Tests.{lt-ltb, eqb-true, ne_eqb, leb-true}
use Rattle.words.specs.Word.{pick, bit, has_of, merge_of, clear_of}
use Rattle.words.specs.Quad.{word_at}
use Rattle.words.proofs.PickLaws.{pick_both, and_both}
use Rattle.words.proofs.BitLaws.{bit-or, clear_bit, has_bit}
use Rattle.words.proofs.MaskLaws.{Within, merge_within, or_within, clear_within, merge_keeps, within_trans, outside_bit, has_none, within_high}
use Rattle.geometry.specs.declared.banks.Geometry.{Geometry}
use Rattle.words.specs.Decline.{accepted_of}
use Rattle.device.specs.declared.record.Device.{Device}
use Rattle.launch.specs.declared.launch.Launched.{Launched}
use Rattle.device.specs.Registers.{WR, WRERR, LVDERR, ALWAYS}
use Rattle.device.specs.Builders.{with_con, with_launched}
use Rattle.device.specs.Record.{register_of, running, op_of, operands_of}
use Rattle.nvmop.specs.Operation.{begins_of, length_of}
use Rattle.common_declines.specs.Possible.{launched_fits_of, running_of, resting_of, possible_of}
use Rattle.register_fields.specs.Fields.{wanted_of, key_after_read_of, con_takes_of, bwp_takes_of}
use Rattle.launch.specs.Launch.{launched, launch_of}
use Rattle.register_access.specs.Store.{loads_of, may_store_of, store_decline_of, data_after, applied_of}
use Rattle.register_access.specs.Store.{accepted, store_accepted_of, store_of, read_decline_of, register_read_of}
use Rattle.launch.specs.ConStore.{launches_of, con_store_of}
use Rattle.nvmop.proofs.OperationLaws.{length-pos}
use Rattle.register_fields.proofs.FieldLaws.{con_takes_within, pwp_takes_within, bwp_takes_within, con2_takes_within}
use Rattle.register_fields.proofs.KeyLaws.{key_next_high, key_kept, key_after_read_high}
use Rattle.common_declines.proofs.PossibleLaws.{Implemented, Possible, possible, possible_test, operands_fit, resting, idle_step, same_rows, same_launched}
use Rattle.register_access.proofs.AcceptedLaws.{AtRest, store_ready, store_at_rest, read_possible}

-- ---- the value asked for is a word
wanted_below : (form old value : ℕ) → old < 2 ^ 32 → value < 2 ^ 32 → wanted_of form old value < 2 ^ 32
wanted_below form old value ho hv =
    pick_both (λ (w : ℕ). w < 2 ^ 32) (eqb form 0) hv
    (pick_both (λ (w : ℕ). w < 2 ^ 32) (eqb form 1) (xor_lt 32 _ old (and_lt 32 old value ho hv) ho)
    (pick_both (λ (w : ℕ). w < 2 ^ 32) (eqb form 2) (or_lt 32 old value ho hv) (xor_lt 32 old value ho hv)))

-- ---- the data words
Words : List ℕ → Type 0
Words quad = (j : ℕ) → j < 4 → word_at quad j < 2 ^ 32

set_below : (l : List ℕ) (i j w n : ℕ) → word_at l j < n → w < n → word_at (set l i w) j < n
set_below [] i j w n h hw = h
set_below (x ∷ l) zero zero w n h hw = hw
set_below (x ∷ l) zero (suc j) w n h hw = h
set_below (x ∷ l) (suc i) zero w n h hw = h
set_below (x ∷ l) (suc i) (suc j) w n h hw = set_below l i j w n h hw

set_words : (quad : List ℕ) (i w : ℕ) → Words quad → w < 2 ^ 32 → Words (set quad i w)
unfolding Words
set_words quad i w h hw j l = set_below quad i j w (2 ^ 32) (h j l) hw

data_words : (quad : List ℕ) (r w : ℕ) → Words quad → w < 2 ^ 32 → Words (data_after quad r w)
data_words quad r w h hw =
    pick_both Words (eqb r 3) (set_words quad 0 w h hw)
    (pick_both Words (eqb r 4) (set_words quad 1 w h hw)
    (pick_both Words (eqb r 5) (set_words quad 2 w h hw)
    (pick_both Words (eqb r 6) (set_words quad 3 w h hw) h)))

-- ---- another register than NVMCON
module _ (g : Geometry) (d : Device) (can : possible_of g d ≡ true) where
  could : Possible g d
  could = possible g d can

  applied_rows : (r w : ℕ) → w < 2 ^ 32 → Implemented (applied_of d r w)
  unfolding applied_of Words
  applied_rows r w hw =
      let old = could.rows in
      record {
        con = old.con;
        key = old.key;
        addr = pick_both (λ (x : ℕ). x < 2 ^ 32) (eqb r 2) hw old.addr;
        words = data_words d.nvmdata r w old.words hw;
        src = pick_both (λ (x : ℕ). x < 2 ^ 32) (eqb r 7) hw old.src;
        pwp = pick_both (Within 0x80FF_FFFF) (eqb r 8) (merge_within 0x80FF_FFFF _ w _ (pwp_takes_within d) old.pwp) old.pwp;
        bwp = pick_both (Within 0x9FDF) (eqb r 9) (merge_within 0x9FDF _ w _ (within_trans 0x9FDF 0x9F9F _ (record { inside = refl }) (bwp_takes_within d))
            old.bwp) old.bwp;
        con2 = pick_both (Within 0xF01F_B3C0) (eqb r 10) (merge_within 0xF01F_B3C0 _ w _ (con2_takes_within d) old.con2) old.con2;
      }

  -- at rest the device rests on; an operation that runs asks none of registers 2 to 7
  applied_runs : (r w : ℕ) → may_store_of d r ≡ true → pick (running d) (running_of g (applied_of d r w)) (resting_of (applied_of d r w)) ≡ true
  unfolding applied_of may_store_of running_of resting_of
  applied_runs r w may = go (running d) may could.runs
    where
      go : (t : Bool) → pick t (loads_of r) true ≡ true → pick t (running_of g d) (resting_of d) ≡ true
          → pick t (running_of g (applied_of d r w)) (resting_of (applied_of d r w)) ≡ true
      go true may runs =
          let loads = and_both (leb 2 r) (leb r 7) may in
          let low : 2 ≤ r = leb-true 2 r loads.0 in
          let high : r ≤ 7 = leb-true r 7 loads.1 in
          rw (ne_eqb r 1 (λ e. omega arith), ne_eqb r 8 (λ e. omega arith)) (and_both (eqb d.keystep 0) _ runs).1
      go false may rests = rests

  applied_possible : (r w : ℕ) → w < 2 ^ 32 → may_store_of d r ≡ true → possible_of g (applied_of d r w) ≡ true
  unfolding applied_of
  applied_possible r w hw may =
      possible_test g (applied_of d r w)
      (record {
        rows = applied_rows r w hw;
        launched = could.launched;
        always = pick_both (λ (x : ℕ). has_of x ALWAYS ≡ true) (eqb r 9) kept could.always;
        keys = pick_both (λ (k : ℕ). k ≤ 3) (eqb r 1) (key_next_high d.keystep w) (omega arith);
        runs = applied_runs r w may;
      })
    where
      kept : has_of (merge_of (bwp_takes_of d) w d.nvmbwp.0) ALWAYS ≡ true
      kept =
          has_bit 6 (merge_of (bwp_takes_of d) w d.nvmbwp.0)
          ∙ merge_keeps 6 (bwp_takes_of d) w d.nvmbwp.0 (outside_bit 0x9F9F (bwp_takes_of d) 6 (bwp_takes_within d) refl)
          ∙ sym (has_bit 6 d.nvmbwp.0)
          ∙ could.always

-- ---- NVMCON: what it can be after a store
module _ (g : Geometry) (d : Device) (rest : AtRest g d) where
  was : Possible g d
  was = possible g d rest.possible

  step_zero : d.step ≡ 0
  step_zero = idle_step g d rest.possible rest.idle

  abbrev after : Launched → Device
  after l = with_launched (with_con d l.nvmcon 0 d.step) l.operands

  record Can (l : Launched) : Type 0 where
    within : Within 0xF0CF l.nvmcon
    fits : launched_fits_of l.operands ≡ true
    goes : pick (has_of l.nvmcon WR) (running_of g (after l)) (resting_of (after l)) ≡ true
    holds : l.operands ≡ pick (has_of l.nvmcon WR) (operands_of d) d.launched

  quiet : (c : ℕ) (event : Bool) → Within 0xF0CF c → bit 15 c ≡ false → Can (launched c event d.launched)
  unfolding resting_of
  quiet c event h off =
      record {
        within = h;
        fits = was.launched;
        goes = rw (has_bit 15 c ∙ off) (resting g d rest.possible rest.idle);
        holds = rw (has_bit 15 c ∙ off);
      }

  module _ (c : ℕ) (inside : Within 0xF0CF c) (off : bit 15 c ≡ false) where
    e : Device
    e = with_con d c d.keystep d.step

    -- the launch that begins steps
    begun : has_of c (WRERR + LVDERR) ≡ false → begins_of g e ≡ true → Can (launched (bit_or c (WR + WRERR)) false (operands_of d))
    unfolding e running_of
    begun clean begins =
        record {
          within = or_within 0xF0CF c 0xA000 inside (record { inside = refl });
          fits = operands_fit d was.rows;
          goes =
              rw (
                has_bit 15 (bit_or c 0xA000) ∙ bit-or 15 c 0xA000 ∙ or-true (bit 15 c),
                has_bit 13 (bit_or c 0xA000) ∙ bit-or 13 c 0xA000 ∙ or-true (bit 13 c),
                has_bit 12 (bit_or c 0xA000) ∙ bit-or 12 c 0xA000 ∙ or-false (bit 12 c) ∙ has_none c 0x3000 12 clean refl,
                or_mod c 0xA000 4 ∙ or_zero_r (c % 16),
                begins,
                step_zero,
                lt-ltb 0 (length_of g (c % 16)) (length-pos g rest.range (c % 16)),
              );
          holds = rw (has_bit 15 (bit_or c 0xA000) ∙ bit-or 15 c 0xA000 ∙ or-true (bit 15 c));
        }

    launch_can : Can (launch_of g e)
    unfolding launch_of e
    launch_can =
        pick_both Can (eqb (op_of e) 0) (quiet (clear_of c 0x3000) false (clear_within 0xF0CF c 0x3000 inside) (clear_bit 15 c 0x3000 ∙ rw off))
        (clean (has_of c (WRERR + LVDERR)) refl)
      where
        same : Can (launched c false d.launched)
        same = quiet c false inside off

        begin : (t : Bool) → begins_of g e ≡ t → has_of c (WRERR + LVDERR) ≡ false
            → Can (pick t (launched (bit_or c (WR + WRERR)) false (operands_of d)) (launched (bit_or c WRERR) true d.launched))
        begin true b h = begun h b
        begin false b h =
            quiet (bit_or c WRERR) true (or_within 0xF0CF c WRERR inside (record { inside = refl })) (bit-or 15 c WRERR ∙ or-false (bit 15 c) ∙ off)

        clean : (t : Bool) → has_of c (WRERR + LVDERR) ≡ t
            → Can (pick t (launched c false d.launched) (pick (ltb (op_of e) 2 || ltb 7 (op_of e)) (launched c false d.launched)
            (pick (begins_of g e) (launched (bit_or c (WR + WRERR)) false (operands_of d)) (launched (bit_or c WRERR) true d.launched))))
        clean true h = same
        clean false h = pick_both Can (ltb (op_of e) 2 || ltb 7 (op_of e)) same (begin (begins_of g e) refl h)

  -- no store takes WR
  pub taken_idle : (w : ℕ) → bit 15 (merge_of (con_takes_of d) w d.nvmcon.0) ≡ false
  taken_idle w =
      merge_keeps 15 (con_takes_of d) w d.nvmcon.0 (outside_bit 0x40CF (con_takes_of d) 15 (con_takes_within d) refl)
      ∙ sym (has_bit 15 d.nvmcon.0)
      ∙ rest.idle

  con_can : (w : ℕ) → Can (con_store_of g d w)
  unfolding con_store_of e
  con_can w = pick_both Can (launches_of d w) (launch_can c inside (taken_idle w)) (quiet c false inside (taken_idle w))
    where
      c : ℕ
      c = merge_of (con_takes_of d) w d.nvmcon.0

      inside : Within 0xF0CF c
      inside = merge_within 0xF0CF (con_takes_of d) w d.nvmcon.0 (within_trans 0xF0CF 0x40CF _ (record { inside = refl }) (con_takes_within d))
          was.rows.con

  -- what a store launches it takes from the registers
  pub con_holds : (w : ℕ) → let l = con_store_of g d w in l.operands ≡ pick (has_of l.nvmcon WR) (operands_of d) d.launched
  con_holds w = (con_can w).holds

  con_possible : (w : ℕ) → possible_of g (after (con_store_of g d w)) ≡ true
  con_possible w =
      let can = con_can w in
      possible_test g (after (con_store_of g d w))
      (record {
        rows = same_launched _ (con_store_of g d w).operands (same_rows d _ 0 d.step can.within was.rows);
        launched = can.fits;
        always = was.always;
        keys = omega arith;
        runs = can.goes;
      })

-- ---- the two calls
register_below : (d : Device) (r : ℕ) → Implemented d → register_of d r < 2 ^ 32
unfolding register_of
register_below d r h =
    word (eqb r 0) (lt_of_le_of_lt (within_high _ _ h.con) (lit< tt))
    (word (eqb r 1) (lt_of_le_of_lt (within_high _ _ h.key) (lit< tt))
    (word (eqb r 2) h.addr
    (word (eqb r 3) (h.words 0 (omega arith))
    (word (eqb r 4) (h.words 1 (omega arith))
    (word (eqb r 5) (h.words 2 (omega arith))
    (word (eqb r 6) (h.words 3 (omega arith))
    (word (eqb r 7) h.src
    (word (eqb r 8) (lt_of_le_of_lt (within_high _ _ h.pwp) (lit< tt))
    (word (eqb r 9) (lt_of_le_of_lt (within_high _ _ h.bwp) (lit< tt))
    (word (eqb r 10) (lt_of_le_of_lt (within_high _ _ h.con2) (lit< tt)) (lit< tt)))))))))))
  where
    word : (t : Bool) {x y : ℕ} → x < 2 ^ 32 → y < 2 ^ 32 → pick t x y < 2 ^ 32
    word = pick_both (λ (w : ℕ). w < 2 ^ 32)

pub store_possible : (g : Geometry) (d : Device) (r form value : ℕ) → value < 2 ^ 32 → accepted_of (store_decline_of g d r form) ≡ true
    → possible_of g (store_of g d r form value).device ≡ true
unfolding store_of store_accepted_of
store_possible g d r form value hv ok =
    let ready = store_ready g d r form ok in
    let w = wanted_of form (register_of d r) value in
    let hw = wanted_below form (register_of d r) value (register_below d r (possible g d ready.possible).rows) hv in
    rw ok (go (eqb r 0) refl w (applied_possible g d ready.possible r w hw ready.may))
  where
    go : (t : Bool) → eqb r 0 ≡ t → (w : ℕ) → possible_of g (applied_of d r w) ≡ true
        → let l = con_store_of g d w in
        possible_of g (pick t (accepted (with_launched (with_con d l.nvmcon 0 d.step) l.operands) l.event) (accepted (applied_of d r w) false)).device
        ≡ true
    go true e w other = con_possible g d (store_at_rest g d r form (ap loads_of (eqb-true r 0 e)) ok) w
    go false e w other = other

pub read_leaves_possible : (g : Geometry) (d : Device) (r : ℕ) → accepted_of (read_decline_of g d r) ≡ true
    → possible_of g (register_read_of g d r).device ≡ true
unfolding register_read_of running_of resting_of
read_leaves_possible g d r ok =
    let old = possible g d (read_possible g d r ok).1 in
    rw ok
    (possible_test g (with_con d d.nvmcon.0 (key_after_read_of d.keystep) d.step)
    (record {
      rows = same_rows d _ (key_after_read_of d.keystep) d.step old.rows.con old.rows;
      launched = old.launched;
      always = old.always;
      keys = key_after_read_high d.keystep old.keys;
      runs = go (running d) refl old.runs;
    }))
  where
    go : (t : Bool) → running d ≡ t → pick (running d) (running_of g d) (resting_of d) ≡ true
        → let f = with_con d d.nvmcon.0 (key_after_read_of d.keystep) d.step in pick (running d) (running_of g f) (resting_of f) ≡ true
    -- while an operation runs the key step is 0, and a read leaves it
    go true e h =
        let shut = eqb-true d.keystep 0 (and_both (eqb d.keystep 0) _ (rw e at h)).0 in
        rw (e, key_kept d.keystep (omega (arith, shut))) (rw e at h)
    go false e h = rw e (rw e at h)
