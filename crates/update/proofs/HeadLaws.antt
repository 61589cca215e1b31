-- What the stores of an update leave of a device at rest: the prologue clears the errors and frees the upper alias, and the stores of a page
-- or a quad launch its operation.
-- Assumes nothing.
use mathlib.Core.Path.{◌≡◌, refl, sym, ap, ◌∙◌}
use mathlib.Core.Bool.{Bool, true, false, not, ◌&&◌, ◌||◌, and-false}
use mathlib.Core.List.{List, [], ◌∷◌}
use Prim.Native.Nat.{ℕ, ◌+◌, ◌*◌, ◌%◌, ◌^◌, ◌≤◌, ◌<◌}
use native.Mathlib.Nat.{mul-lt-mul_of_pos_right, lt_of_le_of_lt, mod-lt}
use native.Mathlib.Omega.{arith}
use lib.Dec.{eqb, lit<}
use lib.ListN.{length, set}
use lib.Bits.{bit_or}
use borrow.Author.Tests.{eqb-true, not-true}
use Rattle.words.specs.Word.{pick, bit, has_of, merge_of, clear_of, all_below}
use Rattle.words.proofs.PickLaws.{pick_both, all-below}
use Rattle.words.proofs.BitLaws.{has_bit, clear_bit, bit-or, merge_bit, equal_below, bit_low, bit_zero, ones_bit}
use Rattle.words.proofs.MaskLaws.{Within, within_bit, merge_within, or_within, clear_within, within_high}
use Rattle.geometry.specs.declared.banks.Geometry.{Geometry}
use Rattle.geometry.specs.Banks.{pages_of, page_quads_of, program_bytes_of}
use Rattle.device.specs.declared.record.Device.{Device}
use Rattle.device.specs.Registers.{WR, WREN, WRERR, LVDERR, PFSWAP, BFSWAP, NVMOP, UBWPULOCK}
use Rattle.device.specs.Builders.{with_con, with_launched, with_address, with_bwp, with_data}
use Rattle.device.specs.Record.{bfswap, pfswap, is_open, operands_of}
use Rattle.protection.specs.Protection.{pwp_of}
use Rattle.nvmop.specs.Operation.{begins_at_of}
use Rattle.common_declines.proofs.PossibleLaws.{possible}
use Rattle.register_access.specs.Store.{has_form_of, accepted, store_of}
use Rattle.start_up.specs.StartUp.{access, stores_of, key_stores}
use Rattle.register_access.proofs.AcceptedLaws.{AtRest}
use Rattle.reads.specs.Read.{same}
use Rattle.reads.proofs.StepsLaws.{same_equal}
use Rattle.launch.proofs.LaunchLaws.{launch_clears, launch_begins}
use Rattle.controller.proofs.StoreEquations.{address_store, data_store, clear_wren, set_wren}
use Rattle.controller.proofs.StoreEquations.{plain_op, launch_store, upper_store, keys_open, store-accepted}
use Rattle.controller.proofs.StoreLaws.{store_possible}
use Rattle.controller.proofs.RestLaws.{NoLaunch, NoLaunches, no_launch_rests, stores_rest}
use Rattle.update.specs.Actions.{launch_stores, clearing_stores, unprotecting_stores, page_stores, quad_stores, upper_address_of, bank_quads_of}
use Rattle.update.proofs.TargetLaws.{UpperFree, address_word, page_begins, quad_begins}

-- ---- NVMCON by its swap bits, both b, and NVMOP: at rest, with WREN, while steps run
abbrev pub rest_con : Bool → ℕ → ℕ
rest_con b op = pick b 0xC0 0 + op

abbrev pub enabled_con : Bool → ℕ → ℕ
enabled_con b op = pick b 0x40C0 0x4000 + op

abbrev pub run_con : Bool → ℕ → ℕ
run_con b op = pick b 0xE0C0 0xE000 + op

-- what a launch, the steps after it and the end ask of these numbers
pub record Codes (b : Bool) (op : ℕ) : Type 0 where
  pub small : op < 16
  -- with WREN
  pub enables : bit_or (rest_con b op) WREN ≡ enabled_con b op
  pub enabled : has_of (enabled_con b op) WREN ≡ true
  pub clean : has_of (enabled_con b op) (WRERR + LVDERR) ≡ false
  pub code : enabled_con b op % 16 ≡ op
  pub end_idle : has_of (enabled_con b op) WR ≡ false
  pub end_boot : has_of (enabled_con b op) BFSWAP ≡ b
  pub rests : clear_of (enabled_con b op) WREN ≡ rest_con b op
  -- while steps run
  pub launches : bit_or (enabled_con b op) (WR + WRERR) ≡ run_con b op
  pub on : has_of (run_con b op) WR ≡ true
  pub boot : has_of (run_con b op) BFSWAP ≡ b
  pub program : has_of (run_con b op) PFSWAP ≡ b
  pub op_code : run_con b op % 16 ≡ op
  pub ends : clear_of (run_con b op) (WR + WRERR) ≡ enabled_con b op
  -- at rest
  pub rest_wren : has_of (rest_con b op) WREN ≡ false
  pub rest_page : merge_of (WREN + NVMOP) 4 (rest_con b op) ≡ rest_con b 4
  pub rest_quad : merge_of (WREN + NVMOP) 2 (rest_con b op) ≡ rest_con b 2
  pub rest_boot : has_of (rest_con b op) BFSWAP ≡ b
  pub rest_program : has_of (rest_con b op) PFSWAP ≡ b

-- every field is computed
pub none_codes : (b : Bool) → Codes b 0
none_codes true = search arith
none_codes false = search arith

pub page_codes : (b : Bool) → Codes b 4
page_codes true = search arith
page_codes false = search arith

pub quad_codes : (b : Bool) → Codes b 2
quad_codes true = search arith
quad_codes false = search arith

pub quiet_op : (op : ℕ) → bit 15 op ≡ false → op < 2 ^ 32 → NoLaunch (access 0 0 op)
unfolding has_form_of
quiet_op op off l = record { form = refl; word = l; off = off }

pub quiet_set : NoLaunch (access 0 2 0x4000)
unfolding has_form_of
quiet_set = search arith

pub quiet_clear : NoLaunch (access 0 1 0x4000)
unfolding has_form_of
quiet_clear = search arith

pub quiet_keys : NoLaunches key_stores
unfolding has_form_of
quiet_keys = search arith

-- ---- the launch of a page erase or a quad
-- the device with an operation launched from its registers
abbrev pub launched_device : Device → ℕ → ℕ → Device
launched_device d con step = with_launched (with_con d con 0 step) (operands_of d)

module _ (g : Geometry) (b : Bool) (op : ℕ) (codes : Codes b op) (d : Device) (rest : AtRest g d) where
  launch_head : has_of d.nvmcon.0 WREN ≡ false → is_open d ≡ false → merge_of (WREN + NVMOP) op d.nvmcon.0 ≡ rest_con b op → 2 ≤ op → op ≤ 7
      → bit 15 op ≡ false → op < 2 ^ 32 → begins_at_of g op d.nvmaddr (pwp_of d) ≡ true
      → stores_of g d (launch_stores op) ≡ launched_device d (run_con b op) d.step
  launch_head off shut takes lo hi low word begins =
      let r1 = rw (plain_op g d rest op codes.small off shut, takes) at (no_launch_rests g d rest (access 0 0 op) (quiet_op op low word)) in
      let r2 = rw (set_wren g _ r1, codes.enables) at (no_launch_rests g _ r1 (access 0 2 0x4000) quiet_set) in
      let r3 = rw (keys_open g _ r2) at (stores_rest g _ r2 key_stores quiet_keys) in
      rw (
        stores_of,
        plain_op g d rest op codes.small off shut,
        takes,
        set_wren g _ r1,
        codes.enables,
        keys_open g _ r2,
        launch_store g _ r3 codes.enabled refl,
        launch_begins g (with_con d (enabled_con b op) 3 d.step) (rw codes.code lo) (rw codes.code hi) codes.clean (rw codes.code begins),
        codes.launches,
      )

-- ---- between two blocks: the device at rest with the key shut, no error, both swap bits b, nothing of the upper side protected
pub record Between (g : Geometry) (b : Bool) (d : Device) : Type 0 where
  pub rest : AtRest g d
  pub shut : d.keystep ≡ 0
  pub wren : has_of d.nvmcon.0 WREN ≡ false
  pub page_op : merge_of (WREN + NVMOP) 4 d.nvmcon.0 ≡ rest_con b 4
  pub quad_op : merge_of (WREN + NVMOP) 2 d.nvmcon.0 ≡ rest_con b 2
  pub boot : bfswap d ≡ b
  pub program : pfswap d ≡ b
  pub free : UpperFree d
  pub lock : has_of d.nvmbwp.0 UBWPULOCK ≡ true
  pub reach : pwp_of d < program_bytes_of g
  pub quad : length d.nvmdata ≡ 4

-- after the end of a block the next begins: each field is a hypothesis or a field of the codes
pub ended_between : (g : Geometry) (b : Bool) (op : ℕ) → Codes b op → (d e : Device) → AtRest g d → d ≡ with_con e (rest_con b op) 0 0 → UpperFree e
    → has_of e.nvmbwp.0 UBWPULOCK ≡ true → pwp_of e < program_bytes_of g → length e.nvmdata ≡ 4 → Between g b d
ended_between g b op codes d e rest same free lock reach quad = let r = rw same at rest in rw same (search)

-- four stores fill NVMDATA
filled : (l : List ℕ) (a b c d : ℕ) → length l ≡ 4 → set (set (set (set l 0 a) 1 b) 2 c) 3 d ≡ a ∷ b ∷ c ∷ d ∷ []
filled [] a b c d e = absurd (omega arith)
filled (_ ∷ []) a b c d e = absurd (omega arith)
filled (_ ∷ _ ∷ []) a b c d e = absurd (omega arith)
filled (_ ∷ _ ∷ _ ∷ []) a b c d e = absurd (omega arith)
filled (_ ∷ _ ∷ _ ∷ _ ∷ []) a b c d e = refl
filled (_ ∷ _ ∷ _ ∷ _ ∷ _ ∷ l) a b c d e = absurd (omega arith)

module _ (g : Geometry) (b : Bool) (d : Device) (at : Between g b d) where
  address_rest : (a : ℕ) → a < 2 ^ 32 → AtRest g (with_address d a)
  unfolding has_form_of
  address_rest a l = rw (address_store g d at.rest a) at (no_launch_rests g d at.rest (access 2 0 a) (search))

  data_rest : (e : Device) → AtRest g e → (i w : ℕ) → i < 4 → NoLaunch (access (3 + i) 0 w) → AtRest g (with_data e (set e.nvmdata i w))
  data_rest e r i w l quiet = rw (data_store g e r i w l) at (no_launch_rests g e r (access (3 + i) 0 w) quiet)

  -- the stores of a page launch its erase
  pub page_head : (p : ℕ) → p < pages_of g
      → stores_of g d (page_stores g p) ≡ launched_device (with_address d (upper_address_of g (p * page_quads_of g))) (run_con b 4) d.step
  page_head p l =
      let a = upper_address_of g (p * page_quads_of g) in
      let ok = at.rest.range in
      let small : a < 2 ^ 32 = address_word g ok (p * page_quads_of g) (mul-lt-mul_of_pos_right l (omega (arith, ok.q_low))) in
      rw (stores_of, address_store g d at.rest a)
      (launch_head g b 4 (page_codes b) (with_address d a) (address_rest a small) at.wren refl at.page_op (omega arith) (omega arith) refl (lit< tt)
      (page_begins g ok p (pwp_of d) l at.reach))

  -- the stores of a quad launch its programming
  pub quad_head : (j w0 w1 w2 w3 : ℕ) → j < bank_quads_of g → w0 < 2 ^ 32 → w1 < 2 ^ 32 → w2 < 2 ^ 32 → w3 < 2 ^ 32
      → stores_of g d (quad_stores g j (w0 ∷ w1 ∷ w2 ∷ w3 ∷ []))
      ≡ launched_device (with_data (with_address d (upper_address_of g j)) (w0 ∷ w1 ∷ w2 ∷ w3 ∷ [])) (run_con b 2) d.step
  unfolding has_form_of
  quad_head j w0 w1 w2 w3 l l0 l1 l2 l3 =
      let a = upper_address_of g j in
      let r0 = address_rest a (address_word g at.rest.range j l) in
      let r1 = data_rest _ r0 0 w0 (omega arith) (search) in
      let r2 = data_rest _ r1 1 w1 (omega arith) (search) in
      let r3 = data_rest _ r2 2 w2 (omega arith) (search) in
      let r4 = data_rest _ r3 3 w3 (omega arith) (search) in
      rw (
        stores_of,
        address_store g d at.rest a,
        data_store g _ r0 0 w0 (omega arith),
        data_store g _ r1 1 w1 (omega arith),
        data_store g _ r2 2 w2 (omega arith),
        data_store g _ r3 3 w3 (omega arith),
        launch_head g b 2 (quad_codes b) _ r4 at.wren refl at.quad_op (omega arith) (omega arith) refl (lit< tt)
            (quad_begins g at.rest.range j (pwp_of d) l at.reach),
        filled d.nvmdata w0 w1 w2 w3 at.quad,
      )

-- ---- the prologue: whatever NVMCON is at rest with both swap bits b, its first part leaves WREN and the swap bits alone
-- NVMCON before the launch of NVMOP 0, and its bit k where bit k of c is x
abbrev readied : ℕ → ℕ
readied c = bit_or (merge_of (WREN + NVMOP) 0 (clear_of c WREN)) WREN

abbrev column : ℕ → Bool → Bool
column k x = pick (bit k 0x400F) (bit k 0) (x && not (bit k 0x4000)) || bit k 0x4000

readied_bit : (k c : ℕ) → bit k (readied c) ≡ column k (bit k c)
readied_bit k c = simp (bit-or, merge_bit, clear_bit)

readied_enabled : (c : ℕ) → has_of (readied c) WREN ≡ true
readied_enabled c = has_bit 14 (readied c) ∙ readied_bit 14 c

readied_op : (c : ℕ) → readied c % 16 ≡ 0
readied_op c =
    equal_below 4 (readied c % 2 ^ 4) 0 (mod-lt (readied c) (lit< tt)) (lit< tt)
    (λ k l. bit_low 4 k (readied c) l ∙ readied_bit k c ∙ not-true _ (all-below (λ k. not (column k (bit k c))) 4 refl k l) ∙ sym (bit_zero k))

-- bit k by bit j, which is x, and by what it is elsewhere
known : (c j k : ℕ) {x y : Bool} → has_of c (2 ^ j) ≡ x → bit k c ≡ y → bit k c ≡ pick (eqb k j) x y
known c j k {x} {y} e other = go (eqb k j) refl
  where
    go : (t : Bool) → eqb k j ≡ t → bit k c ≡ pick t x y
    go true h = rw (eqb-true k j h) (sym (has_bit j c) ∙ e)
    go false h = other

-- a bit x of NVMCON at rest by its place: t at 6 and 7, 0 at 15 and outside the mask
abbrev given : Bool → Bool → ℕ → Bool
given t x k = pick (eqb k 6) t (pick (eqb k 7) t (pick (eqb k 15) false (x && bit k 0xF0CF)))

-- computed for each bit: once the errors are cleared, only WREN and the swap bits are left
abbrev leaves : Bool → Bool → ℕ → Bool
leaves t x k = same (column k (given t x k) && not (bit k 0x3000)) (bit k (enabled_con t 0))

all_leave : (t x : Bool) → all_below (leaves t x) 16 ≡ true
all_leave true true = refl
all_leave true false = refl
all_leave false true = refl
all_leave false false = refl

errors_cleared : (b : Bool) (c : ℕ) → Within 0xF0CF c → has_of c WR ≡ false → has_of c BFSWAP ≡ b → has_of c PFSWAP ≡ b
    → clear_of (readied c) 0x3000 ≡ enabled_con b 0
errors_cleared b c inside idle boot program =
    equal_below 16 _ _ (lt_of_le_of_lt (within_high 0xF0CF _ (clear_within 0xF0CF (readied c) 0x3000 within)) (lit< tt))
    (pick_both (λ x. x + 0 < 2 ^ 16) b (lit< tt) (lit< tt))
    (λ k l. rw (clear_bit, readied_bit k c, bits k) (same_equal _ _ (all-below (leaves b (bit k c)) 16 (all_leave b (bit k c)) k l)))
  where
    within : Within 0xF0CF (readied c)
    within = or_within 0xF0CF _ WREN (merge_within 0xF0CF 0x400F 0 _ (search) (clear_within 0xF0CF c WREN inside)) (search)

    bits : (k : ℕ) → bit k c ≡ given b (bit k c) k
    bits k = known c 6 k boot (known c 7 k program (known c 15 k idle (sym (within_bit 0xF0CF c inside k))))

-- the lock of the upper alias is none of the bits that are cleared
upper_lock : (c : ℕ) → has_of c UBWPULOCK ≡ true → has_of (clear_of c 0x1F) UBWPULOCK ≡ true
upper_lock c on =
    has_bit 7 (clear_of c 0x1F) ∙ clear_bit 7 c 0x1F ∙ ap (λ (t : Bool). t && true) (sym (has_bit 7 c) ∙ on)

-- the device after the first part of the prologue, and after the whole
abbrev pub cleared_device : Bool → Device → Device
cleared_device b d = with_con d (enabled_con b 0) 0 d.step

abbrev ready_device : Bool → Device → Device
ready_device b d = with_bwp (with_con d (rest_con b 0) 3 d.step) (clear_of d.nvmbwp.0 0x1F)

module _ (g : Geometry) (b : Bool) (d : Device) (rest : AtRest g d) (boot : bfswap d ≡ b) (program : pfswap d ≡ b) where
  r1 : AtRest g (with_con d (clear_of d.nvmcon.0 WREN) 0 d.step)
  r1 = rw (clear_wren g d rest) at (no_launch_rests g d rest (access 0 1 0x4000) quiet_clear)

  wren_off : has_of (clear_of d.nvmcon.0 WREN) WREN ≡ false
  wren_off = has_bit 14 (clear_of d.nvmcon.0 WREN) ∙ clear_bit 14 d.nvmcon.0 WREN ∙ and-false (bit 14 d.nvmcon.0)

  r2 : AtRest g (with_con d (merge_of (WREN + NVMOP) 0 (clear_of d.nvmcon.0 WREN)) 0 d.step)
  r2 = rw (plain_op g _ r1 0 (omega arith) wren_off refl) at (no_launch_rests g _ r1 (access 0 0 0) (quiet_op 0 refl (lit< tt)))

  r3 : AtRest g (with_con d (readied d.nvmcon.0) 0 d.step)
  r3 = rw (set_wren g _ r2) at (no_launch_rests g _ r2 (access 0 2 0x4000) quiet_set)

  r4 : AtRest g (with_con d (readied d.nvmcon.0) 3 d.step)
  r4 = rw (keys_open g _ r3) at (stores_rest g _ r3 key_stores quiet_keys)

  launch : store_of g (with_con d (readied d.nvmcon.0) 3 d.step) 0 2 0x8000 ≡ accepted (cleared_device b d) false
  launch =
      launch_store g _ r4 (readied_enabled d.nvmcon.0) refl
      ∙ rw (
        launch_clears g (with_con d (readied d.nvmcon.0) 3 d.step) (readied_op d.nvmcon.0),
        errors_cleared b d.nvmcon.0 (possible g d rest.possible).rows.con rest.idle boot program,
      )

  pub clearing_head : stores_of g d clearing_stores ≡ cleared_device b d
  clearing_head = rw (stores_of, clear_wren g d rest, plain_op g _ r1 0 (omega arith) wren_off refl, set_wren g _ r2, keys_open g _ r3, launch)

  pub cleared_rest : AtRest g (cleared_device b d)
  unfolding has_form_of
  cleared_rest =
      record {
        listed = rest.listed;
        range = rest.range;
        possible = rw launch at (store_possible g _ 0 2 0x8000 (lit< tt) (store-accepted g _ r4 0 2 refl));
        idle = (none_codes b).end_idle;
      }

  r5 : AtRest g (with_con d (rest_con b 0) 0 d.step)
  r5 = rw (clear_wren g _ cleared_rest, (none_codes b).rests) at (no_launch_rests g _ cleared_rest (access 0 1 0x4000) quiet_clear)

  r6 : AtRest g (with_con d (rest_con b 0) 3 d.step)
  r6 = rw (keys_open g _ r5) at (stores_rest g _ r5 key_stores quiet_keys)

  module _ (lock : has_of d.nvmbwp.0 UBWPULOCK ≡ true) where
    pub unprotecting_head : stores_of g (cleared_device b d) unprotecting_stores ≡ ready_device b d
    unprotecting_head = rw (stores_of, clear_wren g _ cleared_rest, (none_codes b).rests, keys_open g _ r5, upper_store g _ r6 refl lock)

    ready_rest : AtRest g (ready_device b d)
    unfolding has_form_of
    ready_rest = rw (upper_store g _ r6 refl lock) at (no_launch_rests g _ r6 (access 9 1 0x1F) (search arith))

    -- the first block begins
    pub ready_between : pwp_of d < program_bytes_of g → length d.nvmdata ≡ 4 → Between g b (ready_device b d)
    ready_between reach quad =
        let free : UpperFree (ready_device b d) = λ i l. simp (clear_bit, ones_bit 5 i l, and-false) in
        let still = upper_lock d.nvmbwp.0 lock in
        search (ready_rest, none_codes b)
