-- Each bit of the device after a reset is the one that its sentence names, and every bit is named: so no other device meets them. Assumes nothing.
use mathlib.Core.Path.{◌≡◌, refl, sym, ap, ◌∙◌}
use mathlib.Core.Bool.{Bool, true, false, not, ◌&&◌, ◌||◌, or-true, or-false, and-true, and-false}
use Prim.Native.Nat.{ℕ, ◌<◌}
use native.Mathlib.Decide.{ℕ_discrete, dec_lt}
use native.Mathlib.Omega.{arith}
use lib.Dec.{eqb, leb, ltb, lit<}
use lib.ListN.{get_or}
use lib.Bits.{bit_or}
use borrow.Author.Tests.{not-true, eqb-true, eq-eqb, ne_eqb, le-leb, lt-leb, le-ltb}
use Rattle.words.specs.Word.{pick, bit, merge_of, clear_of}
use Rattle.words.proofs.CaseLaws.{or_other}
use Rattle.words.proofs.PickLaws.{pick_same, pick_both, all-below}
use Rattle.words.proofs.BitLaws.{true_not_false, bit-or, merge_bit, clear_bit, equal_by_bits, bit_zero, bit_other, bit_above, has_bit}
use Rattle.device.specs.declared.record.Device.{Device}
use Rattle.device.specs.Registers.{LVDERR, BFSWAP, NVMERS}
use Rattle.device.specs.Record.{register_of, running}
use Rattle.device.specs.ByNumber.{reset_column, launched_of, FourWords}
use Rattle.device.proofs.ByNumber.{known_by_numbers}
use Rattle.resets.specs.Reset.{brown_out_reset, reset_con_of, reset_device_of}
use Rattle.resets.specs.ResetSentences.{ResetDevice}

-- ---- NVMCON after a reset
-- the bits that kinds 1 and 2 clear are 15, 14, 7 and 6
not_cleared : (k : ℕ) → (k ≡ 15 → ⊥) → (k ≡ 14 → ⊥) → (k ≡ 7 → ⊥) → (k ≡ 6 → ⊥) → bit k 0xC0C0 ≡ false
not_cleared k n15 n14 n7 n6 =
    bit-or k 0xC000 0xC0
    ∙ rw (bit-or k 0x8000 0x4000, bit-or k 0x80 0x40)
    (rw (bit_other 15 k (λ e. n15 (sym e)), bit_other 14 k (λ e. n14 (sym e)), bit_other 7 k (λ e. n7 (sym e)), bit_other 6 k (λ e. n6 (sym e))))

module _ (d : Device) (kind : ℕ) (swap : Bool) where
  abbrev was : ℕ
  was = register_of d 0

  abbrev con : ℕ
  con = register_of (reset_device_of d kind swap) 0

  -- the bits that kinds 1 and 2 keep
  abbrev kept : ℕ
  kept = clear_of d.nvmcon.0 0xC0C0

  con_is : con ≡ bit_or (reset_con_of d kind) (pick swap BFSWAP 0)
  unfolding reset_device_of register_of
  con_is = pick_both (λ (e : Device). e.nvmcon.0 ≡ bit_or (reset_con_of d kind) (pick swap BFSWAP 0)) (eqb kind 0) refl refl

  -- BFSWAP is put into bit 6 alone
  swapped : (k : ℕ) → (k ≡ 6 → ⊥) → bit k con ≡ bit k (reset_con_of d kind)
  swapped k ne =
      ap (bit k) con_is
      ∙ bit-or k (reset_con_of d kind) (pick swap BFSWAP 0)
      ∙ rw (pick_both (λ (w : ℕ). bit k w ≡ false) swap (bit_other 6 k (λ e. ne (sym e))) (bit_zero k)) (or-false (bit k (reset_con_of d kind)))

  module _ (some : 0 < kind) where
    -- LVDERR into bit 12 alone
    erred : (k : ℕ) → (k ≡ 12 → ⊥) → bit k (reset_con_of d kind) ≡ bit k kept
    unfolding reset_con_of
    erred k ne =
        rw (ne_eqb kind 0 (λ e. omega arith))
        (pick_both (λ (w : ℕ). bit k w ≡ bit k kept) (eqb kind brown_out_reset && running d)
        (bit-or k kept LVDERR ∙ rw (bit_other 12 k (λ e. ne (sym e))) (or-false (bit k kept))) refl)

    -- what is cleared, and what stays
    off : (k : ℕ) → (k ≡ 12 → ⊥) → (k ≡ 6 → ⊥) → bit k 0xC0C0 ≡ true → bit k con ≡ false
    off k error boot on =
        swapped k boot ∙ erred k error ∙ clear_bit k d.nvmcon.0 0xC0C0 ∙ rw on (and-false (bit k d.nvmcon.0))

    stays : (k : ℕ) → (k ≡ 12 → ⊥) → (k ≡ 6 → ⊥) → bit k 0xC0C0 ≡ false → bit k con ≡ bit k was
    unfolding register_of
    stays k error boot none =
        swapped k boot ∙ erred k error ∙ clear_bit k d.nvmcon.0 0xC0C0 ∙ rw none (and-true (bit k d.nvmcon.0))

    brown_out : kind ≡ 1 → bit 15 was ≡ true → bit 12 con ≡ true
    unfolding reset_con_of register_of
    brown_out one runs =
        swapped 12 (λ e. omega (arith, e))
        ∙ rw (ne_eqb kind 0 (λ e. omega arith), eq-eqb kind 1 one, has_bit 15 d.nvmcon.0 ∙ runs)
        (bit-or 12 kept LVDERR ∙ or-true (bit 12 kept))

    no_brown_out : (kind ≡ 1 → bit 15 was ≡ true → ⊥) → bit 12 con ≡ bit 12 was
    unfolding reset_con_of register_of
    no_brown_out none =
        swapped 12 (λ e. omega (arith, e))
        ∙ rw (ne_eqb kind 0 (λ e. omega arith), not_both (ℕ_discrete kind 1) (running d) refl)
        (clear_bit 12 d.nvmcon.0 0xC0C0 ∙ and-true (bit 12 d.nvmcon.0))
      where
        not_both : Dec (kind ≡ 1) → (t : Bool) → running d ≡ t → (eqb kind 1 && running d) ≡ false
        not_both (yes one) true on = absurd (none one (sym (has_bit 15 d.nvmcon.0) ∙ on))
        not_both (yes one) false on = rw (eq-eqb kind 1 one, on)
        not_both (no one) t on = rw (ne_eqb kind 1 one)

  -- bit 6 is as compared
  pub boot_bit : bit 6 con ≡ swap
  unfolding reset_con_of
  boot_bit = ap (bit 6) con_is ∙ bit-or 6 (reset_con_of d kind) (pick swap BFSWAP 0) ∙ rw clear (set swap)
    where
      P : ℕ → Type 0
      P w = bit 6 w ≡ false

      gone : P (clear_of d.nvmcon.0 0xC0C0)
      gone = clear_bit 6 d.nvmcon.0 0xC0C0 ∙ and-false (bit 6 d.nvmcon.0)

      clear : P (reset_con_of d kind)
      clear = pick_both P (eqb kind 0) refl (pick_both P (eqb kind brown_out_reset && running d) (bit-or 6 kept LVDERR ∙ rw gone) gone)

      set : (t : Bool) → bit 6 (pick t BFSWAP 0) ≡ t
      set true = refl
      set false = refl

-- ---- the other registers
-- NVMERS is bits 31 to 28
con2_bit : (k a : ℕ) → bit k (merge_of NVMERS a 0x001F_0000) ≡ pick (leb 28 k) (pick (leb k 31) (bit k a) false) (bit k 0x001F_0000)
con2_bit k a = merge_bit k NVMERS a 0x001F_0000 ∙ go (dec_lt k 28) (dec_lt k 32)
  where
    go : Dec (k < 28) → Dec (k < 32)
        → pick (bit k NVMERS) (bit k a) (bit k 0x001F_0000) ≡ pick (leb 28 k) (pick (leb k 31) (bit k a) false) (bit k 0x001F_0000)
    go (yes low) high = rw (lt-leb 28 k low, not-true (bit k NVMERS) (all-below (λ k. not (bit k NVMERS)) 28 refl k low))
    go (no low) (yes high) =
        let on : bit k NVMERS ≡ true = rw (le-ltb k 28 (omega arith)) at (all-below (λ k. ltb k 28 || bit k NVMERS) 32 refl k high) in
        rw (le-leb 28 k (omega arith), le-leb k 31 (omega arith), on)
    go (no low) (no high) =
        let none : (w : ℕ) → w < 0x1_0000_0000 → bit k w ≡ false = λ w l. bit_above 32 k w l (omega arith) in
        rw (le-leb 28 k (omega arith), lt-leb k 31 (omega arith), none NVMERS (lit< tt), none 0x001F_0000 (lit< tt))

module _ (d : Device) (kind : ℕ) (swap : Bool) where
  abbrev e : Device
  e = reset_device_of d kind swap

  power_on_lem : kind ≡ 0 → (r : ℕ) → 0 < r → r < 11 → register_of e r ≡ get_or reset_column r 0
  unfolding reset_device_of register_of
  power_on_lem first r some below =
      let same = all-below (λ r. eqb r 0 || eqb (register_of (reset_device_of d 0 swap) r) (get_or reset_column r 0)) 11 refl r below in
      let other = ne_eqb r 0 (λ e. omega arith) in
      rw (first, other) (eqb-true _ _ (rw other at same))

  power_on_con : kind ≡ 0 → (k : ℕ) → (k ≡ 6 → ⊥) → bit k (register_of e 0) ≡ false
  unfolding reset_con_of
  power_on_con first k ne = swapped d kind swap k ne ∙ rw first (bit_zero k)

  nothing-launched : (r : ℕ) → launched_of e r ≡ 0
  unfolding reset_device_of
  nothing-launched r = pick_both (λ (e : Device). launched_of e r ≡ 0) (eqb kind 0) (simp pick_same) (simp pick_same)

  rest : 0 < kind → (r : ℕ) → 0 < r → r < 8 → register_of e r ≡ register_of d r
  unfolding reset_device_of register_of
  rest other r some few =
      rw (
        ne_eqb kind 0 (λ e. omega arith),
        ne_eqb r 0 (λ e. omega arith),
        ne_eqb r 8 (λ e. omega arith),
        ne_eqb r 9 (λ e. omega arith),
        ne_eqb r 10 (λ e. omega arith),
      )

  protection : 0 < kind → (register_of e 8 ≡ 0x8000_0000) × (register_of e 9 ≡ 0x9FDF)
  unfolding reset_device_of register_of
  protection other = rw (ne_eqb kind 0 (λ e. omega arith)) (refl, refl)

  con2 : 0 < kind → (k : ℕ) → bit k (register_of e 10) ≡ pick (leb 28 k) (pick (leb k 31) (bit k (register_of d 10)) false) (bit k 0x001F_0000)
  unfolding reset_device_of register_of
  con2 other k = rw (ne_eqb kind 0 (λ e. omega arith)) (con2_bit k d.nvmcon2.0)

  steps : (e.keystep ≡ 0) × (e.step ≡ 0)
  unfolding reset_device_of
  steps = pick_both (λ (e : Device). (e.keystep ≡ 0) × (e.step ≡ 0)) (eqb kind 0) (refl, refl) (refl, refl)

  four_words : FourWords d → FourWords e
  unfolding reset_device_of
  four_words four =
      pick_both FourWords (eqb kind 0) (record { data_words = refl; launched_words = refl })
      (record { data_words = four.data_words; launched_words = refl })

  pub reset-device : FourWords d → ResetDevice d kind e
  reset-device four =
      let clear = off d kind swap in
      record {
        four = four_words four;
        power_on_lem = power_on_lem;
        power_on_con = power_on_con;
        cleared = λ other. (
          clear other 15 (λ e. omega (arith, e)) (λ e. omega (arith, e)) refl,
          (
            clear other 14 (λ e. omega (arith, e)) (λ e. omega (arith, e)) refl,
            clear other 7 (λ e. omega (arith, e)) (λ e. omega (arith, e)) refl,
          ),
        );
        steps = steps;
        protection = protection;
        con2 = con2;
        rest = rest;
        rest_of_con = λ other k n15 n14 n12 n7 n6. stays d kind swap other k n12 n6 (not_cleared k n15 n14 n7 n6);
        brown_out = λ one runs. brown_out d kind swap (omega arith) one runs;
        no_brown_out = no_brown_out d kind swap;
        nothing-launched = λ r low high. nothing-launched r;
      }

-- ---- two devices that are as asked, with one bit 6 of NVMCON
module _ (d : Device) (kind : ℕ) (e f : Device) (a : ResetDevice d kind e) (b : ResetDevice d kind f)
    (boot : bit 6 (register_of e 0) ≡ bit 6 (register_of f 0)) where
  abbrev Alike : ℕ → ℕ → Type 0
  Alike r k = bit k (register_of e r) ≡ bit k (register_of f r)

  same_error : 0 < kind → Alike 0 12
  same_error some = go (ℕ_discrete kind 1) (bit 15 (register_of d 0)) refl
    where
      none : (kind ≡ 1 → bit 15 (register_of d 0) ≡ true → ⊥) → Alike 0 12
      none h = a.no_brown_out some h ∙ sym (b.no_brown_out some h)

      go : Dec (kind ≡ 1) → (t : Bool) → bit 15 (register_of d 0) ≡ t → Alike 0 12
      go (yes one) true on = a.brown_out one on ∙ sym (b.brown_out one on)
      go (yes one) false idle = none (λ _ on. true_not_false (sym on ∙ idle))
      go (no other) t e = none (λ one _. absurd (other one))

  same_con : Dec (kind ≡ 0) → (k : ℕ) → Alike 0 k
  same_con (yes first) k = or_other (Alike 0) 6 k boot (λ n6. a.power_on_con first k n6 ∙ sym (b.power_on_con first k n6))
  same_con (no other) k =
      let some : 0 < kind = omega (arith, other) in
      let p = a.cleared some in
      let q = b.cleared some in
      or_other (Alike 0) 15 k (p.0 ∙ sym q.0)
      (λ n15. or_other (Alike 0) 14 k (p.1.0 ∙ sym q.1.0)
      (λ n14. or_other (Alike 0) 12 k (same_error some)
      (λ n12. or_other (Alike 0) 7 k (p.1.1 ∙ sym q.1.1)
      (λ n7. or_other (Alike 0) 6 k boot
      (λ n6. a.rest_of_con some k n15 n14 n12 n7 n6 ∙ sym (b.rest_of_con some k n15 n14 n12 n7 n6))))))

  abbrev Agree : ℕ → Type 0
  Agree r = register_of e r ≡ register_of f r

  same_register : Dec (kind ≡ 0) → (r : ℕ) → 0 < r → r < 11 → Agree r
  same_register (yes first) r low high = a.power_on_lem first r low high ∙ sym (b.power_on_lem first r low high)
  same_register (no other) r low high =
      let some : 0 < kind = omega (arith, other) in
      or_other Agree 8 r ((a.protection some).0 ∙ sym (b.protection some).0)
      (λ n8. or_other Agree 9 r ((a.protection some).1 ∙ sym (b.protection some).1)
      (λ n9. or_other Agree 10 r (equal_by_bits _ _ (λ k. a.con2 some k ∙ sym (b.con2 some k)))
      (λ n10. a.rest some r low (omega arith) ∙ sym (b.rest some r low (omega arith)))))

  pub one_device : e ≡ f
  one_device =
      let first = ℕ_discrete kind 0 in
      known_by_numbers e f a.four b.four
      (record {
        registers = λ r high. or_other Agree 0 r (equal_by_bits _ _ (same_con first)) (λ n0. same_register first r (omega arith) high);
        launched = λ r low high. a.nothing-launched r low high ∙ sym (b.nothing-launched r low high);
        keystep = a.steps.0 ∙ sym b.steps.0;
        step = a.steps.1 ∙ sym b.steps.1;
      })
