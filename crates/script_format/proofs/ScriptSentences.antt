-- Bytes are a script just where each eight of them are a record, byte by byte. Assumes nothing.
use mathlib.Core.Path.{◌≡◌, refl, sym}
use mathlib.Core.Bool.{Bool, true, false, ◌&&◌}
use mathlib.Core.List.{List}
use Prim.Native.Nat.{ℕ, zero, suc, ◌+◌, ◌*◌, ◌/◌, ◌%◌, ◌<◌}
use native.Mathlib.Omega.{arith}
use borrow.Author.Tests.{eqb-true, leb-true, le-leb}
use lib.Dec.{eqb, leb}
use lib.ListN.{length, get_or}
use Rattle.words.specs.Word.{all_below}
use Rattle.words.proofs.PickLaws.{and_both, all-below, all_hold}
use Rattle.words.proofs.BitLaws.{true_not_false}
use Rattle.script_format.specs.Records.{value_of, record_of, is_store_of, is_step_of, is_reset_of, is_record_of, is_script_of}
use Rattle.script_format.specs.ScriptSentences.{RecordBytes, Script, ScriptSentences}

-- ---- one record

both : {a b : Bool} → a ≡ true → b ≡ true → (a && b) ≡ true
both e f = rw (e, f)

module _ (script : List ℕ) (i : ℕ) where
  abbrev byte : ℕ → ℕ
  byte k = get_or script (8 * i + k) 0

  abbrev tested : Bool
  tested = is_record_of (record_of script i)

  first_byte : byte 0 ≡ get_or script (8 * i) 0
  first_byte = let e : 8 * i + 0 ≡ 8 * i = omega arith in rw e

  little_endian : (record_of script i).value ≡ byte 4 + 0x100 * byte 5 + 0x1_0000 * byte 6 + 0x100_0000 * byte 7
  unfolding record_of value_of
  little_endian = omega arith

  -- where byte 3 and the value are 0, so is each byte from byte 3 on
  zeros : byte 3 ≡ 0 → value_of script i ≡ 0 → (k : ℕ) → 2 < k → k < 8 → byte k ≡ 0
  unfolding value_of
  zeros unused value zero m l = absurd (omega arith)
  zeros unused value (suc zero) m l = absurd (omega arith)
  zeros unused value (suc (suc zero)) m l = absurd (omega arith)
  zeros unused value (suc (suc (suc zero))) m l = unused
  zeros unused value (suc (suc (suc (suc zero)))) m l = omega (arith, value)
  zeros unused value (suc (suc (suc (suc (suc zero))))) m l = omega (arith, value)
  zeros unused value (suc (suc (suc (suc (suc (suc zero)))))) m l = omega (arith, value)
  zeros unused value (suc (suc (suc (suc (suc (suc (suc zero))))))) m l = omega (arith, value)
  zeros unused value (suc (suc (suc (suc (suc (suc (suc (suc k)))))))) m l = absurd (omega arith)

  no_value : ((k : ℕ) → 1 < k → k < 8 → byte k ≡ 0) → value_of script i ≡ 0
  unfolding value_of
  no_value z = rw (z 4 (omega arith) (omega arith), z 5 (omega arith) (omega arith), z 6 (omega arith) (omega arith), z 7 (omega arith) (omega arith))

  step_zeros : byte 1 ≡ 0 → byte 2 ≡ 0 → ((k : ℕ) → 2 < k → k < 8 → byte k ≡ 0) → (k : ℕ) → 0 < k → k < 8 → byte k ≡ 0
  step_zeros number form rest zero m l = absurd (omega arith)
  step_zeros number form rest (suc zero) m l = number
  step_zeros number form rest (suc (suc zero)) m l = form
  step_zeros number form rest (suc (suc (suc k))) m l = rest (suc (suc (suc k))) (omega arith) l

  reset_zeros : byte 2 ≡ 0 → ((k : ℕ) → 2 < k → k < 8 → byte k ≡ 0) → (k : ℕ) → 1 < k → k < 8 → byte k ≡ 0
  reset_zeros form rest zero m l = absurd (omega arith)
  reset_zeros form rest (suc zero) m l = absurd (omega arith)
  reset_zeros form rest (suc (suc zero)) m l = form
  reset_zeros form rest (suc (suc (suc k))) m l = rest (suc (suc (suc k))) (omega arith) l

  store_bytes : byte 3 ≡ 0 → byte 0 ≡ 0 → is_store_of (record_of script i) ≡ true → RecordBytes byte
  unfolding is_store_of record_of
  store_bytes unused kind h =
      let (number, form) = and_both (leb (byte 1) 10) (leb (byte 2) 3) h in
      RecordBytes.store kind (leb-true _ _ number) (leb-true _ _ form) unused

  step_bytes : byte 3 ≡ 0 → byte 0 ≡ 1 → is_step_of (record_of script i) ≡ true → RecordBytes byte
  unfolding is_step_of record_of
  step_bytes unused kind h =
      let (number, more) = and_both (eqb (byte 1) 0) (eqb (byte 2) 0 && eqb (value_of script i) 0) h in
      let (form, value) = and_both (eqb (byte 2) 0) (eqb (value_of script i) 0) more in
      RecordBytes.step kind (step_zeros (eqb-true _ _ number) (eqb-true _ _ form) (zeros unused (eqb-true _ _ value)))

  reset_bytes : byte 3 ≡ 0 → byte 0 ≡ 2 → is_reset_of (record_of script i) ≡ true → RecordBytes byte
  unfolding is_reset_of record_of
  reset_bytes unused kind h =
      let (number, more) = and_both (leb (byte 1) 2) (eqb (byte 2) 0 && eqb (value_of script i) 0) h in
      let (form, value) = and_both (eqb (byte 2) 0) (eqb (value_of script i) 0) more in
      RecordBytes.reset kind (leb-true _ _ number) (reset_zeros (eqb-true _ _ form) (zeros unused (eqb-true _ _ value)))

  record_bytes : tested ≡ true → RecordBytes byte
  unfolding is_record_of record_of
  record_bytes = go (eqb (byte 3) 0) refl (eqb (byte 0) 0) refl (eqb (byte 0) 1) refl (eqb (byte 0) 2) refl
    where
      go : (u : Bool) → eqb (byte 3) 0 ≡ u → (s : Bool) → eqb (byte 0) 0 ≡ s → (t : Bool) → eqb (byte 0) 1 ≡ t → (r : Bool) → eqb (byte 0) 2 ≡ r
          → tested ≡ true → RecordBytes byte
      go false u s se t te r re h = absurd (true_not_false (sym (rw u at h)))
      go true u true se t te r re h = store_bytes (eqb-true _ _ u) (eqb-true _ _ se) (rw (u, se) at h)
      go true u false se true te r re h = step_bytes (eqb-true _ _ u) (eqb-true _ _ te) (rw (u, se, te) at h)
      go true u false se false te true re h = reset_bytes (eqb-true _ _ u) (eqb-true _ _ re) (rw (u, se, te, re) at h)
      go true u false se false te false re h = absurd (true_not_false (sym (rw (u, se, te, re) at h)))

  bytes_record : RecordBytes byte → tested ≡ true
  unfolding is_record_of record_of is_store_of is_step_of is_reset_of
  bytes_record (RecordBytes.store kind number form unused) =
      rw (unused, kind) (both (le-leb (byte 1) _ (omega (arith, number))) (le-leb _ _ form))
  bytes_record (RecordBytes.step kind z) =
      rw (z 3 (omega arith) (omega arith), kind, z 1 (omega arith) (omega arith), z 2 (omega arith) (omega arith), no_value (λ k m l. z k (omega arith) l))
  bytes_record (RecordBytes.reset kind number z) =
      rw (z 3 (omega arith) (omega arith), kind, le-leb _ _ number, z 2 (omega arith) (omega arith), no_value z)

-- ---- all of them

module _ (script : List ℕ) where
  abbrev each : ℕ → Bool
  each i = is_record_of (record_of script i)

  script_bytes : is_script_of script ≡ true → Script script
  unfolding is_script_of
  script_bytes h =
      let (even, all) = and_both (eqb (length script % 8) 0) (all_below each (length script / 8)) h in
      let whole = eqb-true _ _ even in
      record { whole = whole; each = λ i l. record_bytes script i (all-below each (length script / 8) all i (omega (arith, whole, l))) }

  bytes_script : Script script → is_script_of script ≡ true
  unfolding is_script_of
  bytes_script s = rw s.whole (all_hold each (length script / 8) (λ i l. bytes_record script i (s.each i (omega (arith, l)))))

pub script_sentences : ScriptSentences
unfolding record_of
script_sentences =
    record {
      scripts = script_bytes;
      no_others = bytes_script;
      kind = first_byte;
      number = λ script i. refl;
      form = λ script i. refl;
      value = little_endian;
    }
