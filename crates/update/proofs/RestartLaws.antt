-- A reset clears WR, WREN and both swap bits, sets BFSWAP as compared, and gives protection and SWAPLOCK their reset values. So the
-- start-up after it finds the device at rest with the swap unlocked: where BFSWAP is 1 it sets PFSWAP, and it leaves BFSWAP and the protection.
-- A start-up that is cut leaves the swap unlocked, or PFSWAP as BFSWAP is, and so the next one ends the same.
-- No store and no step changes how many words NVMDATA has.
-- Assumes nothing.
use mathlib.Core.Path.{◌≡◌, refl, sym, ap, ◌∙◌}
use mathlib.Core.Bool.{Bool, true, false, ◌&&◌, ◌||◌, or-true, or-false, and-false}
use mathlib.Core.List.{List, [], ◌∷◌, ◌++◌}
use mathlib.Core.Logic.{◌⊎◌, inl, inr}
use Prim.Native.Nat.{ℕ, zero, suc, ◌+◌, ◌^◌, ◌<◌}
use native.Mathlib.Decide.{ℕ_discrete}
use native.Mathlib.Omega.{arith}
use lib.Dec.{eqb, lit<}
use lib.ListN.{length, take, length-set}
use lib.Bits.{bit_and, bit_or}
use Rattle.words.specs.Word.{pick, bit, has_of, merge_of, clear_of}
use Rattle.words.proofs.PickLaws.{pick_same, pick_both}
use Rattle.words.proofs.BitLaws.{true_not_false, bit-and, bit-or, merge_bit, clear_bit, bit_zero, equal_by_bits, bit_other, has_bit}
use Rattle.words.proofs.MaskLaws.{merge_set}
use Rattle.geometry.specs.declared.banks.Geometry.{Geometry}
use Rattle.geometry.specs.Banks.{in_range_of}
use Rattle.words.specs.Decline.{accepted_of}
use Rattle.geometry.proofs.SizeLaws.{in-range}
use Rattle.device.specs.declared.record.Device.{Device}
use Rattle.device.specs.Registers.{WR, WREN, LVDERR, PFSWAP, BFSWAP, NVMOP, UBWPULOCK, NVMERS, SWAPLOCK}
use Rattle.device.specs.Builders.{with_con}
use Rattle.device.specs.Record.{register_of, running, bfswap, pfswap, op_of, is_open}
use Rattle.nvmop.specs.Operation.{length_of}
use Rattle.protection.specs.Protection.{pwp_of}
use Rattle.common_declines.specs.Possible.{possible_of}
use Rattle.device.specs.Answer.{Answer}
use Rattle.register_fields.specs.Fields.{con_takes_of}
use Rattle.register_access.specs.Store.{has_form_of, store_decline_of, applied_of, accepted, store_accepted_of, store_of}
use Rattle.launch.specs.ConStore.{launches_of, con_store_of}
use Rattle.start_up.specs.StartUp.{Access, access, stores_of, key_stores, start_up_stores, start_up_decline_of, start_up_of}
use Rattle.register_access.proofs.AcceptedLaws.{AtRest, rest_opens}
use Rattle.start_up.proofs.StartUpLaws.{stores_append}
use Rattle.flash.specs.Step.{advance_of}
use Rattle.resets.specs.Reset.{reset_con_of, reset_device_of}
use Rattle.controller.proofs.DeviceLaws.{reset_swap, reset_possible}
use Rattle.controller.proofs.StoreEquations.{store_runs, key_rest, keys_open, wr_off}
use Rattle.controller.proofs.RestLaws.{no_launch_rests}

-- ---- a reset
-- it leaves the device at rest with BFSWAP as compared, PFSWAP, WREN and SWAPLOCK at 0, the upper alias's lock at 1 and PWP 0
pub record Fresh (g : Geometry) (swap : Bool) (e : Device) : Type 0 where
  pub rest : AtRest g e
  pub boot : bfswap e ≡ swap
  pub program : pfswap e ≡ false
  pub wren : has_of e.nvmcon.0 WREN ≡ false
  pub swaplock : has_of e.nvmcon2.0 SWAPLOCK ≡ false
  pub lock : has_of e.nvmbwp.0 UBWPULOCK ≡ true
  pub pwp : pwp_of e ≡ 0

-- a merge has none of the bits that neither its mask nor its second word has
merge_avoids : (t a b mask : ℕ) → bit_and t mask ≡ 0 → bit_and b mask ≡ 0 → bit_and (merge_of t a b) mask ≡ 0
merge_avoids t a b mask ht hb =
    equal_by_bits _ _
    (λ k. bit-and k (merge_of t a b) mask
    ∙ rw (merge_bit k t a b) (table (bit k t) (bit k a) (bit k b) (bit k mask) (none t ht k) (none b hb k))
    ∙ sym (bit_zero k))
  where
    none : (w : ℕ) → bit_and w mask ≡ 0 → (k : ℕ) → (bit k w && bit k mask) ≡ false
    none w h k = sym (bit-and k w mask) ∙ ap (bit k) h ∙ bit_zero k

    table : (t a b m : Bool) → (t && m) ≡ false → (b && m) ≡ false → (pick t a b && m) ≡ false
    table true a b true p q = true_not_false p
    table true a b false p q = and-false a
    table false a b m p q = q

module _ (d : Device) (kind : ℕ) (swap : Bool) where
  -- a bit of NVMCON that a reset clears, and that is neither LVDERR nor BFSWAP, is 0 after it
  module _ (k : ℕ) (cleared : bit k 0xC0C0 ≡ true) (error : bit k LVDERR ≡ false) (other : bit k BFSWAP ≡ false) where
    con_off : bit k (bit_or (reset_con_of d kind) (pick swap BFSWAP 0)) ≡ false
    unfolding reset_con_of
    con_off = bit-or k (reset_con_of d kind) (pick swap BFSWAP 0) ∙ rw (con, boot)
      where
        P : ℕ → Type 0
        P w = bit k w ≡ false

        kept : P (clear_of d.nvmcon.0 0xC0C0)
        kept = clear_bit k d.nvmcon.0 0xC0C0 ∙ rw cleared (and-false (bit k d.nvmcon.0))

        con : P (reset_con_of d kind)
        con =
            pick_both P (eqb kind 0) (bit_zero k)
            (pick_both P (eqb kind 1 && running d) (bit-or k (clear_of d.nvmcon.0 0xC0C0) LVDERR ∙ rw (kept, error)) kept)

        boot : P (pick swap BFSWAP 0)
        boot = pick_both P swap other (bit_zero k)

    reset_off : has_of (reset_device_of d kind swap).nvmcon.0 (2 ^ k) ≡ false
    unfolding reset_device_of
    reset_off =
        has_bit k (reset_device_of d kind swap).nvmcon.0
        ∙ pick_both (λ (e : Device). bit k e.nvmcon.0 ≡ false) (eqb kind 0) con_off con_off

  -- NVMDATA keeps its four words, or is reset to four
  pub reset_quad : length d.nvmdata ≡ 4 → length (reset_device_of d kind swap).nvmdata ≡ 4
  unfolding reset_device_of
  reset_quad four = pick_both (λ (e : Device). length e.nvmdata ≡ 4) (eqb kind 0) refl four

pub reset_fresh : (g : Geometry) → in_range_of g ≡ true → (d : Device) → possible_of g d ≡ true → (kind : ℕ) (swap : Bool)
    → Fresh g swap (reset_device_of d kind swap)
unfolding reset_device_of
reset_fresh g listed d can kind swap =
    record {
      rest =
          record {
            listed = listed;
            range = in-range g listed;
            possible = reset_possible g d can kind swap;
            idle = reset_off d kind swap 15 refl refl refl;
          };
      boot = reset_swap g d can kind swap;
      program = reset_off d kind swap 7 refl refl refl;
      wren = reset_off d kind swap 14 refl refl refl;
      swaplock =
          pick_both (λ (e : Device). has_of e.nvmcon2.0 SWAPLOCK ≡ false) (eqb kind 0) refl
          (rw (merge_avoids NVMERS d.nvmcon2.0 0x001F_0000 SWAPLOCK refl refl));
      lock = pick_both (λ (e : Device). has_of e.nvmbwp.0 UBWPULOCK ≡ true) (eqb kind 0) refl refl;
      pwp = pick_both (λ (e : Device). pwp_of e ≡ 0) (eqb kind 0) refl refl;
    }

-- ---- the words of NVMDATA
-- a store keeps their number, whatever it is
pub store_quad : (g : Geometry) (d : Device) (r form value : ℕ) → length (store_of g d r form value).device.nvmdata ≡ length d.nvmdata
unfolding store_of store_accepted_of applied_of
store_quad g d r form value =
    pick_both P (accepted_of (store_decline_of g d r form))
    (pick_both P (eqb r 0) refl
    (pick_both Q (eqb r 3) (length-set d.nvmdata 0 _)
    (pick_both Q (eqb r 4) (length-set d.nvmdata 1 _)
    (pick_both Q (eqb r 5) (length-set d.nvmdata 2 _)
    (pick_both Q (eqb r 6) (length-set d.nvmdata 3 _) refl)))))
    refl
  where
    P : Answer → Type 0
    P s = length s.device.nvmdata ≡ length d.nvmdata

    Q : List ℕ → Type 0
    Q quad = length quad ≡ length d.nvmdata

-- and so do stores in a row
pub stores_quad : (g : Geometry) (d : Device) (l : List Access) → length (stores_of g d l).nvmdata ≡ length d.nvmdata
stores_quad g d [] = refl
stores_quad g d (a ∷ l) = stores_quad g (store_of g d a.register a.form a.value).device l ∙ store_quad g d a.register a.form a.value

-- and so does a step
pub step_quad : (g : Geometry) (d : Device) (aborts : Bool) → length (advance_of g d aborts).device.nvmdata ≡ length d.nvmdata
unfolding advance_of
step_quad g d aborts = pick_both P aborts refl (pick_both P (eqb (d.step + 1) (length_of g (op_of d))) refl refl)
  where
    P : Answer → Type 0
    P a = length a.device.nvmdata ≡ length d.nvmdata

-- ---- a start-up
-- after it PFSWAP follows BFSWAP
pub record Started (g : Geometry) (swap : Bool) (f : Device) : Type 0 where
  pub rest : AtRest g f
  pub boot : bfswap f ≡ swap
  pub program : pfswap f ≡ swap
  pub lock : has_of f.nvmbwp.0 UBWPULOCK ≡ true
  pub pwp : pwp_of f ≡ 0

-- the last store, which locks the swap, changes NVMCON2 and the key step alone
locked : (g : Geometry) (swap : Bool) (d : Device) → Started g swap d → Started g swap (store_of g d 10 2 0xC0).device
unfolding has_form_of store_accepted_of applied_of
locked g swap d at =
    let runs = store_runs g d at.rest 10 2 0xC0 refl in
    record {
      rest = no_launch_rests g d at.rest (access 10 2 0xC0) (record { form = refl; word = lit< tt; off = refl });
      boot = rw runs at.boot;
      program = rw runs at.program;
      lock = rw runs at.lock;
      pwp = rw runs at.pwp;
    }

-- NVMCON set 0x80 asks for no launch
swap_asks_no_launch : (g : Geometry) (d : Device) → AtRest g d → has_of (bit_or d.nvmcon.0 PFSWAP) WR ≡ false
swap_asks_no_launch g d rest =
    has_bit 15 (bit_or d.nvmcon.0 PFSWAP) ∙ bit-or 15 d.nvmcon.0 PFSWAP ∙ or-false (bit 15 d.nvmcon.0) ∙ wr_off g d rest

-- what is merged with itself stays
merge_self : (t c : ℕ) → merge_of t c c ≡ c
merge_self t c = equal_by_bits _ _ (λ k. merge_bit k t c c ∙ pick_same (bit k t) (bit k c))

-- with the key open and the swap unlocked it sets PFSWAP
module _ (g : Geometry) (d : Device) (rest : AtRest g d) (off : has_of d.nvmcon.0 WREN ≡ false)
    (free : has_of d.nvmcon2.0 SWAPLOCK ≡ false) (key : is_open d ≡ true) where
  takes_swap : con_takes_of d ≡ WREN + NVMOP + (PFSWAP + BFSWAP)
  unfolding con_takes_of
  takes_swap = rw (off, free, key)

  set_swap : store_of g d 0 2 0x80 ≡ accepted (with_con d (bit_or d.nvmcon.0 PFSWAP) 0 d.step) false
  unfolding has_form_of store_accepted_of register_of con_store_of launches_of
  set_swap =
      store_runs g d rest 0 2 0x80 refl
      ∙ rw (swap_asks_no_launch g d rest)
      (ap (λ (c : ℕ). accepted (with_con d c 0 d.step) false)
      (rw takes_swap (merge_set 0x40CF d.nvmcon.0 PFSWAP (record { inside = refl }))))

-- ---- between a reset and the end of a start-up
-- PFSWAP is as BFSWAP, or 0 with the swap still unlocked
pub record Waking (g : Geometry) (swap : Bool) (e : Device) : Type 0 where
  pub rest : AtRest g e
  pub boot : bfswap e ≡ swap
  pub wren : has_of e.nvmcon.0 WREN ≡ false
  pub lock : has_of e.nvmbwp.0 UBWPULOCK ≡ true
  pub pwp : pwp_of e ≡ 0
  pub program : (pfswap e ≡ swap) ⊎ ((pfswap e ≡ false) × (has_of e.nvmcon2.0 SWAPLOCK ≡ false))

pub fresh_wakes : (g : Geometry) (swap : Bool) (e : Device) → Fresh g swap e → Waking g swap e
fresh_wakes g swap e fresh =
    record {
      rest = fresh.rest;
      boot = fresh.boot;
      wren = fresh.wren;
      lock = fresh.lock;
      pwp = fresh.pwp;
      program = inr (fresh.program, fresh.swaplock);
    }

started_wakes : (g : Geometry) (swap : Bool) (e : Device) → Started g swap e → has_of e.nvmcon.0 WREN ≡ false → Waking g swap e
started_wakes g swap e at off =
    record { rest = at.rest; boot = at.boot; wren = off; lock = at.lock; pwp = at.pwp; program = inl at.program }

-- NVMCON set 0x80 with PFSWAP at 1 leaves NVMCON as it is
module _ (g : Geometry) (d : Device) (rest : AtRest g d) (on : pfswap d ≡ true) where
  has_swap : bit_or d.nvmcon.0 PFSWAP ≡ d.nvmcon.0
  has_swap = equal_by_bits _ _ (λ k. bit-or k d.nvmcon.0 PFSWAP ∙ go k (ℕ_discrete k 7))
    where
      seven : bit 7 d.nvmcon.0 ≡ true
      seven = sym (has_bit 7 d.nvmcon.0) ∙ on

      go : (k : ℕ) → Dec (k ≡ 7) → (bit k d.nvmcon.0 || bit k PFSWAP) ≡ bit k d.nvmcon.0
      go k (yes e) = rw (e, seven)
      go k (no ne) = rw (bit_other 7 k (λ e. ne (sym e))) (or-false (bit k d.nvmcon.0))

  set_again : store_of g d 0 2 0x80 ≡ accepted (with_con d (bit_or d.nvmcon.0 PFSWAP) 0 d.step) false
  unfolding has_form_of store_accepted_of register_of con_store_of launches_of
  set_again =
      store_runs g d rest 0 2 0x80 refl
      ∙ rw (swap_asks_no_launch g d rest)
      (ap (λ (c : ℕ). accepted (with_con d c 0 d.step) false) (rw has_swap (merge_self (con_takes_of d) d.nvmcon.0)))

-- so it is not declined
module _ (g : Geometry) (swap : Bool) (e : Device) (wakes : Waking g swap e) where
  pub waking_answers : accepted_of (start_up_decline_of g e) ≡ true
  unfolding start_up_decline_of
  waking_answers = rw (rest_opens g e wakes.rest, wakes.rest.idle)

  pub start_up_answers : accepted_of (start_up_of g e).decline ≡ true
  unfolding start_up_of
  start_up_answers = waking_answers

  -- the device with the key open, and after the store that swaps
  opened : Device
  opened = with_con e e.nvmcon.0 3 e.step

  swapped : Device
  swapped = with_con e (bit_or e.nvmcon.0 PFSWAP) 0 e.step

  opened_rest : AtRest g opened
  unfolding opened
  opened_rest = key_rest g e wakes.rest 3 (omega arith)

  -- where the stores that swap are done, since BFSWAP is 1
  module _ (on : swap ≡ true) where
    set_opened : store_of g opened 0 2 0x80 ≡ accepted swapped false
    unfolding opened swapped
    set_opened = go wakes.program
      where
        go : (pfswap e ≡ swap) ⊎ ((pfswap e ≡ false) × (has_of e.nvmcon2.0 SWAPLOCK ≡ false)) → store_of g opened 0 2 0x80 ≡ accepted swapped false
        go (inl same) = set_again g opened opened_rest (same ∙ on)
        go (inr (off, free)) = set_swap g opened opened_rest wakes.wren free refl

    swap_runs : stores_of g e (key_stores ++ access 0 2 0x80 ∷ []) ≡ swapped
    unfolding opened
    swap_runs =
        stores_append g e key_stores (access 0 2 0x80 ∷ [])
        ∙ ap (λ (d : Device). stores_of g d (access 0 2 0x80 ∷ [])) (keys_open g e wakes.rest)
        ∙ ap (λ (s : Answer). s.device) set_opened

    swapped_rest : AtRest g swapped
    unfolding has_form_of
    swapped_rest = rw set_opened at (no_launch_rests g opened opened_rest (access 0 2 0x80) (record { form = refl; word = lit< tt; off = refl }))

    swapped_wren : has_of swapped.nvmcon.0 WREN ≡ false
    unfolding swapped
    swapped_wren =
        let con = e.nvmcon.0 in
        has_bit 14 (bit_or con PFSWAP) ∙ bit-or 14 con PFSWAP ∙ or-false (bit 14 con) ∙ sym (has_bit 14 con) ∙ wakes.wren

  swapped_started : swap ≡ true → Started g swap swapped
  unfolding swapped
  swapped_started on =
      record {
        rest = swapped_rest on;
        boot = has_bit 6 (bit_or con PFSWAP) ∙ bit-or 6 con PFSWAP ∙ or-false (bit 6 con) ∙ sym (has_bit 6 con) ∙ wakes.boot;
        program = has_bit 7 (bit_or con PFSWAP) ∙ bit-or 7 con PFSWAP ∙ or-true (bit 7 con) ∙ sym on;
        lock = wakes.lock;
        pwp = wakes.pwp;
      }
    where
      con : ℕ
      con = e.nvmcon.0

  -- where BFSWAP is 0 PFSWAP is, too
  unswapped : swap ≡ false → Started g swap e
  unswapped off = record { rest = wakes.rest; boot = wakes.boot; program = go wakes.program; lock = wakes.lock; pwp = wakes.pwp }
    where
      go : (pfswap e ≡ swap) ⊎ ((pfswap e ≡ false) × (has_of e.nvmcon2.0 SWAPLOCK ≡ false)) → pfswap e ≡ swap
      go (inl same) = same
      go (inr (none, free)) = none ∙ sym off

  stores_started : Started g swap (stores_of g e (start_up_stores e))
  unfolding start_up_stores
  stores_started = rw wakes.boot (go swap refl)
    where
      go : (t : Bool) → swap ≡ t → Started g swap (stores_of g e (pick t (key_stores ++ access 0 2 0x80 ∷ []) [] ++ access 10 2 0xC0 ∷ []))
      go true on =
          rw (stores_append g e (key_stores ++ access 0 2 0x80 ∷ []) (access 10 2 0xC0 ∷ []), swap_runs on)
          (locked g swap swapped (swapped_started on))
      go false off = locked g swap e (unswapped off)

  pub start_up_started : Started g swap (start_up_of g e).device
  unfolding start_up_of
  start_up_started = rw waking_answers stores_started

  pub start_up_quad : length e.nvmdata ≡ 4 → length (start_up_of g e).device.nvmdata ≡ 4
  unfolding start_up_of
  start_up_quad four = rw waking_answers (stores_quad g e (start_up_stores e) ∙ four)

  -- ---- a start-up that is cut
  key_wakes : (d : Device) → Waking g swap d → (value : ℕ) → value < 2 ^ 32 → Waking g swap (store_of g d 1 0 value).device
  unfolding has_form_of store_accepted_of applied_of
  key_wakes d at value word =
      let runs = store_runs g d at.rest 1 0 value refl in
      record {
        rest = no_launch_rests g d at.rest (access 1 0 value) (record { form = refl; word = word; off = refl });
        boot = rw runs at.boot;
        wren = rw runs at.wren;
        lock = rw runs at.lock;
        pwp = rw runs at.pwp;
        program = rw runs at.program;
      }

  locked_wakes : (d : Device) → Started g swap d → has_of d.nvmcon.0 WREN ≡ false → Waking g swap (store_of g d 10 2 0xC0).device
  unfolding has_form_of store_accepted_of applied_of
  locked_wakes d at off = started_wakes g swap _ (locked g swap d at) (rw (store_runs g d at.rest 10 2 0xC0 refl) off)

  pub cut_wakes : (n : ℕ) → Waking g swap (stores_of g e (take n (start_up_stores e)))
  unfolding start_up_stores
  cut_wakes n = rw wakes.boot (go swap refl n)
    where
      nothing : (n : ℕ) → take {A = Access} n [] ≡ []
      nothing zero = refl
      nothing (suc n) = refl

      go : (t : Bool) → swap ≡ t → (n : ℕ) → Waking g swap (stores_of g e (take n (pick t (key_stores ++ access 0 2 0x80 ∷ []) [] ++ access 10 2 0xC0 ∷ [])))
      go false off zero = wakes
      go false off (suc n) = rw (nothing n) (locked_wakes e (unswapped off) wakes.wren)
      go true on zero = wakes
      go true on (suc zero) = key_wakes e wakes 0 (lit< tt)
      go true on (suc (suc zero)) = key_wakes _ (key_wakes e wakes 0 (lit< tt)) 0xAA99_6655 (lit< tt)
      go true on (suc (suc (suc zero))) = key_wakes _ (key_wakes _ (key_wakes e wakes 0 (lit< tt)) 0xAA99_6655 (lit< tt)) 0x5566_99AA (lit< tt)
      go true on (suc (suc (suc (suc zero)))) = rw (swap_runs on) (started_wakes g swap swapped (swapped_started on) (swapped_wren on))
      go true on (suc (suc (suc (suc (suc n))))) =
          rw (nothing n, stores_append g e (key_stores ++ access 0 2 0x80 ∷ []) (access 10 2 0xC0 ∷ []), swap_runs on)
          (locked_wakes swapped (swapped_started on) (swapped_wren on))
