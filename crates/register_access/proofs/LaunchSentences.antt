-- A store to NVMCON: with WREN at 1 it changes no other bit than WREN, so that NVMOP, NVMADDR, PWP and the errors before it decide the case of its
-- launch. Two launches that are as asked agree in each case. Assumes nothing.
use mathlib.Core.Path.{◌≡◌, refl, sym, ap, ◌∙◌}
use mathlib.Core.Bool.{Bool, true, false}
use mathlib.Core.Logic.{◌⊎◌, inl, inr, ⊎_elim}
use Prim.Native.Nat.{ℕ, ◌+◌, ◌%◌, ◌≤◌, ◌<◌}
use native.Mathlib.Decide.{dec_lt, ℕ_discrete}
use native.Mathlib.Omega.{arith}
use lib.Bits.{bit_or}
use borrow.Author.Tests.{eq-eqb, eqb-true}
use Rattle.words.specs.Word.{bit, has_of, clear_of}
use Rattle.words.proofs.BitLaws.{true_not_false, has_bit, merge_bit}
use Rattle.words.proofs.FieldMaskLaws.{one_bit, fields, raised, cleared}
use Rattle.words.proofs.PickLaws.{and_both, never_true}
use Rattle.geometry.specs.declared.banks.Geometry.{Geometry}
use Rattle.geometry.specs.Banks.{in_range_of}
use Rattle.device.specs.declared.record.Device.{Device}
use Rattle.device.specs.Record.{register_of, is_open, op_of, operands_of}
use Rattle.device.specs.Registers.{WR, WREN, WRERR, LVDERR}
use Rattle.device.specs.Builders.{with_con, with_launched}
use Rattle.device.specs.ByNumber.{launched_of}
use Rattle.device.proofs.NumberLaws.{launched_registers}
use Rattle.nvmop.specs.Operation.{begins_of}
use Rattle.nvmop.proofs.Failing.{beginning, fails_or_not}
use Rattle.register_fields.specs.Fields.{wanted_of, con_takes_of}
use Rattle.register_fields.proofs.TakesLaws.{wanted_bit_lem, con_takes_bit}
use Rattle.launch.specs.declared.launch.Launched.{Launched}
use Rattle.launch.specs.Launch.{launched, launch_of}
use Rattle.launch.specs.ConStore.{launches_of, taken_of}
use Rattle.launch.proofs.LaunchLaws.{launch_clears, launch_errors, launch_unknown, launch_begins, launch_fails, taken_op, taken_errors}
use Rattle.register_access.specs.StoreSentences.{wren, LaunchingStore, nvmop, failed, stored_bit, Tried, FailsNow, Launch}

-- ---- the cases of a launch
data Case (g : Geometry) (d : Device) : Type 0 where
  clears : nvmop d ≡ 0 → Case g d
  errors : 0 < nvmop d → failed d ≡ true → Case g d
  unknown : (nvmop d ≡ 1) ⊎ (8 ≤ nvmop d) → failed d ≡ false → Case g d
  fails : Tried d → FailsNow g d → Case g d
  begins : Tried d → (FailsNow g d → ⊥) → Case g d

-- each launch is one of them
which : (g : Geometry) (d : Device) → in_range_of g ≡ true → Case g d
which g d listed = go (ℕ_discrete (nvmop d) 0) (failed d) refl (ℕ_discrete (nvmop d) 1) (dec_lt 7 (nvmop d))
  where
    tried : (t : Tried d) → Case g d
    tried t = by_failure (fails_or_not g (nvmop d) (register_of d 2) (register_of d 8 % 0x100_0000) listed t.from t.to)
      where
        by_failure : Dec (FailsNow g d) → Case g d
        by_failure (yes f) = fails t f
        by_failure (no n) = begins t n

    go : Dec (nvmop d ≡ 0) → (f : Bool) → failed d ≡ f → Dec (nvmop d ≡ 1) → Dec (7 < nvmop d) → Case g d
    go (yes e) f ef one high = clears e
    go (no e) true ef one high = errors (omega (arith, e)) ef
    go (no e) false ef (yes one) high = unknown (inl one) ef
    go (no e) false ef (no one) (yes high) = unknown (inr high) ef
    go (no e) false ef (no one) (no high) = tried (record { from = omega (arith, e, one); to = omega (arith, high); no_error = ef })

-- ---- a store to NVMCON
module _ (g : Geometry) (d : Device) (form value : ℕ) where
  abbrev w : ℕ
  w = wanted_of form d.nvmcon.0 value

  abbrev taken : Device
  taken = taken_of d w

  -- the fields take
  pub stored_bit_lem : (k : ℕ) → bit k taken.nvmcon.0 ≡ stored_bit d form value k
  unfolding register_of
  stored_bit_lem k =
      merge_bit k (con_takes_of d) w d.nvmcon.0
      ∙ rw (con_takes_bit d k, wanted_bit_lem form d.nvmcon.0 value k)

  -- whether it launches
  pub launching : LaunchingStore d 0 form value → launches_of d w ≡ true
  unfolding launches_of register_of
  launching h = rw (has_bit 15 w ∙ wanted_bit_lem form d.nvmcon.0 value 15 ∙ h.wanted, has_bit 14 d.nvmcon.0 ∙ h.enabled, eq-eqb _ _ h.opened)

  pub launching_by : launches_of d w ≡ true → LaunchingStore d 0 form value
  unfolding launches_of register_of
  launching_by h =
      let (asked, rest) = and_both (has_of w WR) _ h in
      let (enabled, opened) = and_both (has_of d.nvmcon.0 WREN) (is_open d) rest in
      record {
        con = refl;
        wanted = sym (has_bit 15 w ∙ wanted_bit_lem form d.nvmcon.0 value 15) ∙ asked;
        enabled = sym (has_bit 14 d.nvmcon.0) ∙ enabled;
        opened = eqb-true _ _ opened;
      }

  pub launches_or_not : Dec (LaunchingStore d 0 form value)
  launches_or_not = go (launches_of d w) refl
    where
      go : (t : Bool) → launches_of d w ≡ t → Dec (LaunchingStore d 0 form value)
      go true on = yes (launching_by on)
      go false off = no (λ h. true_not_false (sym (launching h) ∙ off))

  -- the device after it, by what the launch gives
  abbrev after : Launched → Device
  after l = with_launched (with_con d l.nvmcon 0 d.step) l.operands

  module _ (listed : in_range_of g ≡ true) (on : wren d ≡ true) where
    enabled : has_of d.nvmcon.0 WREN ≡ true
    unfolding register_of
    enabled = has_bit 14 d.nvmcon.0 ∙ on

    -- what the launch gives in each case
    abbrev result : Case g d → Launched
    result (clears zero) = launched (clear_of taken.nvmcon.0 (WRERR + LVDERR)) false d.launched
    result (errors some e) = launched taken.nvmcon.0 false d.launched
    result (unknown op e) = launched taken.nvmcon.0 false d.launched
    result (fails t f) = launched (bit_or taken.nvmcon.0 WRERR) true d.launched
    result (begins t n) = launched (bit_or taken.nvmcon.0 (WR + WRERR)) false (operands_of d)

    abbrev l : Launched
    l = launch_of g taken

    same_op : op_of taken ≡ nvmop d
    unfolding register_of
    same_op = taken_op g d w enabled

    same_errors : has_of taken.nvmcon.0 (WRERR + LVDERR) ≡ failed d
    unfolding register_of
    same_errors = taken_errors g d w enabled

    begun : Tried d → (FailsNow g d → ⊥) → begins_of g taken ≡ true
    unfolding register_of
    begun t none = rw same_op (beginning.begins g (nvmop d) (register_of d 2) (register_of d 8 % 0x100_0000) listed t.from t.to none)

    not_begun : FailsNow g d → begins_of g taken ≡ false
    unfolding register_of
    not_begun f = rw same_op (never_true _ (λ on. (beginning.only g (nvmop d) (register_of d 2) (register_of d 8 % 0x100_0000) listed on).1.1 f))

    by_case : (c : Case g d) → l ≡ result c
    by_case (clears zero) = launch_clears g taken (same_op ∙ zero)
    by_case (errors some e) = launch_errors g taken (rw same_op some) (same_errors ∙ e)
    by_case (unknown op e) = launch_unknown g taken (rw same_op op) (same_errors ∙ e)
    by_case (fails t f) = launch_fails g taken (rw same_op t.from) (rw same_op t.to) (same_errors ∙ t.no_error) (not_begun f)
    by_case (begins t n) = launch_begins g taken (rw same_op t.from) (rw same_op t.to) (same_errors ∙ t.no_error) (begun t n)

    pub launched_store : Launch g d form value (after l) l.event
    unfolding register_of
    launched_store =
        record {
          clears = λ zero. (
            event (clears zero),
            λ k. con (clears zero) k ∙ cleared new 0x3000 k (fields 0x2000 0x1000 k (one_bit 13 k) (one_bit 12 k))
                ∙ rw (stored_bit_lem k),
          );
          errors = λ some e. (event (errors some e), λ k. con (errors some e) k ∙ stored_bit_lem k);
          unknown = λ op e. (event (unknown op e), λ k. con (unknown op e) k ∙ stored_bit_lem k);
          fails = λ t f. (event (fails t f), λ k. con (fails t f) k ∙ raised new 0x2000 k (one_bit 13 k) ∙ rw (stored_bit_lem k));
          begins = λ t n. (
            event (begins t n),
            λ k. con (begins t n) k ∙ raised new 0xA000 k (fields 0x8000 0x2000 k (one_bit 15 k) (one_bit 13 k))
                ∙ rw (stored_bit_lem k),
          );
          launched = λ t n q low high. operands q (begins t n) ∙ launched_registers d (after (result (begins t n))) q low high;
          kept = λ none q low high. kept q none (which g d listed);
        }
      where
        new : ℕ
        new = taken.nvmcon.0

        event : (c : Case g d) → l.event ≡ (result c).event
        event c = ap (λ (m : Launched). m.event) (by_case c)

        con : (c : Case g d) (k : ℕ) → bit k l.nvmcon ≡ bit k (result c).nvmcon
        con c k = ap (λ (m : Launched). bit k m.nvmcon) (by_case c)

        operands : (q : ℕ) (c : Case g d) → launched_of (after l) q ≡ launched_of (after (result c)) q
        operands q c = ap (λ (m : Launched). launched_of (after m) q) (by_case c)

        kept : (q : ℕ) → (Tried d → FailsNow g d) → Case g d → launched_of (after l) q ≡ launched_of d q
        kept q none (clears zero) = operands q (clears zero)
        kept q none (errors some e) = operands q (errors some e)
        kept q none (unknown op e) = operands q (unknown op e)
        kept q none (fails t f) = operands q (fails t f)
        kept q none (begins t n) = absurd (n (none t))

-- ---- nothing else is as asked
-- two launches that are as asked
pub record SameLaunch (d e : Device) (event other : Bool) : Type 0 where
  pub events : event ≡ other
  pub con : (k : ℕ) → bit k (register_of d 0) ≡ bit k (register_of e 0)
  pub launched : (q : ℕ) → 1 < q → q < 8 → launched_of d q ≡ launched_of e q

pub same_launch : (g : Geometry) (d : Device) (form value : ℕ) (e f : Device) (event other : Bool) → in_range_of g ≡ true → Launch g d form value e event
    → Launch g d form value f other → SameLaunch e f event other
same_launch g d form value e f event other listed a b = go (which g d listed)
  where
    -- by one case of each, both of which say the same
    same : {t : Bool} {x : ℕ → Bool} → (event ≡ t) × ((k : ℕ) → bit k (register_of e 0) ≡ x k)
        → (other ≡ t) × ((k : ℕ) → bit k (register_of f 0) ≡ x k)
        → ((q : ℕ) → 1 < q → q < 8 → launched_of e q ≡ launched_of f q) → SameLaunch e f event other
    same (p, con) (p', con') operands = record { events = p ∙ sym p'; con = λ k. con k ∙ sym (con' k); launched = operands }

    kept : (Tried d → FailsNow g d) → (q : ℕ) → 1 < q → q < 8 → launched_of e q ≡ launched_of f q
    kept none q low high = a.kept none q low high ∙ sym (b.kept none q low high)

    go : Case g d → SameLaunch e f event other
    go (clears zero) = same (a.clears zero) (b.clears zero) (kept (λ t. absurd (omega (arith, zero, t.from))))
    go (errors some set) = same (a.errors some set) (b.errors some set) (kept (λ t. true_not_false (sym set ∙ t.no_error)))
    go (unknown op none) =
        same (a.unknown op none) (b.unknown op none)
        (kept (λ t. absurd (⊎_elim (λ one. omega (arith, one, t.from)) (λ high. omega (arith, high, t.to)) op)))
    go (fails t x) = same (a.fails t x) (b.fails t x) (kept (λ t. x))
    go (begins t n) =
        same (a.begins t n) (b.begins t n) (λ q low high. a.launched t n q low high ∙ sym (b.launched t n q low high))
