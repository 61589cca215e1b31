-- The buffer holds the eight bytes of each action and what it held after them, and a list is known by its bytes. Assumes nothing.
use mathlib.Core.Path.{◌≡◌, refl, sym, ap, ◌∙◌}
use Rattle.std.specs.Prelude.{Ok, Err}
use mathlib.Core.Bool.{Bool, true, false}
use mathlib.Core.List.{List, ◌++◌}
use Prim.Native.Nat.{ℕ, ◌+◌, ◌-◌, ◌*◌, ◌/◌, ◌%◌, ◌≤◌, ◌<◌}
use native.Mathlib.Decide.{dec_lt}
use native.Mathlib.Omega.{arith}
use lib.Dec.{ltb}
use lib.ListN.{length, get_or, take, drop, length-append, length-drop, get_or-append}
use lib.Seq.{take_at, ext_get_or, get_or-append-add, get_or-drop}
use borrow.Author.Tests.{le-leb, lt-leb, ltb-false, eq-eqb}
use Rattle.words.specs.Word.{pick}
use Rattle.words.specs.declared.decline.Decline.{Decline}
use Rattle.words.specs.Decline.{number_of, accepted_of}
use Rattle.words.proofs.BitLaws.{true_not_false}
use Rattle.words.proofs.Numbers.{numbers}
use Rattle.script_format.specs.Records.{bytes_of}
use Rattle.geometry.specs.declared.banks.Geometry.{Geometry}
use Rattle.device.specs.State.{State}
use Rattle.register_access.specs.Store.{has_form_of}
use Rattle.update.specs.declared.actions.Action.{Action}
use Rattle.update.specs.declared.actions.Action.TheVariants.{Store, Step}
use Rattle.update.specs.Actions.{recorded, actions_of, total_of}
use Rattle.update.specs.Start.{lower_word_of, start_of}
use Rattle.update.specs.Turn.{Formed}
use Rattle.update.proofs.ActionLaws.{actions_total, action_listed}
use Rattle.update.proofs.FormLaws.{actions_formed}
use Rattle.script_write.specs.Script.{script_of, Writing, writing, write_script_decline_of, write_script_of}
use Rattle.script_write.proofs.ScriptLaws.{script_length, record_byte}
use Rattle.script_update.specs.WrittenScript.{script_for, eight_of, Room, Answers}

-- ---- the bytes of an action that has its form
below_if : (n most : ℕ) (x : Bool) → pick (ltb most n) false x ≡ true → (n ≤ most) × (x ≡ true)
below_if n most x h = go (ltb most n) refl h
  where
    go : (t : Bool) → ltb most n ≡ t → pick t false x ≡ true → (n ≤ most) × (x ≡ true)
    go true e k = true_not_false (sym k)
    go false e k = (ltb-false _ _ e, k)

eight : (a : Action) → Formed a → bytes_of (recorded a) ≡ eight_of a
unfolding bytes_of has_form_of
eight (Store r form value) formed =
    let (known, rest) = below_if r 10 _ formed in
    let (plain, key) = below_if form 3 _ rest in
    let number : r % 256 ≡ r = omega (arith, known) in
    let form_byte : form % 256 ≡ form = omega (arith, plain) in
    rw (number, form_byte)
eight Step formed = refl

module _ (g : Geometry) (s : State) (image buffer : List ℕ) where
  abbrev script : List ℕ
  script = script_for g s image

  abbrev all : List Action
  all = actions_of g image (lower_word_of g s)

  abbrev own : Writing
  own = write_script_of g s image buffer

  size : length script ≡ 8 * total_of g
  size = script_length g image (lower_word_of g s)

  -- ---- what the call gives
  refused : accepted_of (start_of g s image).decline ≡ false → own ≡ writing (start_of g s image).decline 0 buffer
  unfolding write_script_of write_script_decline_of
  refused off = rw (off, off)

  short : accepted_of (start_of g s image).decline ≡ true → length buffer < 8 * total_of g → own ≡ writing (Err Decline.ScriptBuffer) 0 buffer
  unfolding write_script_of write_script_decline_of
  short on l = rw (on, lt-leb (8 * total_of g) (length buffer) l)

  given : Room g s image buffer → own ≡ writing (Ok tt) (total_of g) (script ++ drop (8 * total_of g) buffer)
  unfolding write_script_of write_script_decline_of
  given r = rw (r.started, le-leb (8 * total_of g) (length buffer) r.room, size)

  -- one of the three
  by_answer : (P : Writing → Type 0) → (accepted_of (start_of g s image).decline ≡ false → P (writing (start_of g s image).decline 0 buffer))
      → P (writing (Err Decline.ScriptBuffer) 0 buffer) → (Room g s image buffer → P (writing (Ok tt) (total_of g) (script ++ drop (8 * total_of g) buffer)))
      → P own
  by_answer P off less full = go (accepted_of (start_of g s image).decline) refl (dec_lt (length buffer) (8 * total_of g))
    where
      go : (t : Bool) → accepted_of (start_of g s image).decline ≡ t → Dec (length buffer < 8 * total_of g) → P own
      go false e d = rw (refused e) (off e)
      go true e (yes l) = rw (short e l) less
      go true e (no l) = let r : Room g s image buffer = record { started = e; room = omega (arith, l) } in rw (given r) (full r)

  -- ---- the bytes
  byte : Room g s image buffer → (i k : ℕ) → i < total_of g → k < 8
      → get_or (script ++ drop (8 * total_of g) buffer) (8 * i + k) 0 ≡ get_or (eight_of (get_or all i Step)) k 0
  unfolding script_of
  byte r i k h l =
      let formed : Formed (get_or all i Step) = rw (sym (action_listed g image (lower_word_of g s) i h)) (actions_formed g image (lower_word_of g s) i) in
      get_or-append script (drop (8 * total_of g) buffer) 0 (8 * i + k) (omega (arith, size, h, l))
      ∙ record_byte all i k (omega (arith, h, actions_total g image (lower_word_of g s))) l
      ∙ ap (λ (b : List ℕ). get_or b k 0) (eight (get_or all i Step) formed)

  past : (k : ℕ) → 8 * total_of g ≤ k → get_or (script ++ drop (8 * total_of g) buffer) k 0 ≡ get_or buffer k 0
  past k l =
      let from : k ≡ length script + (k - 8 * total_of g) = omega (arith, size, l) in
      let back : 8 * total_of g + (k - 8 * total_of g) ≡ k = omega (arith, l) in
      ap (λ (n : ℕ). get_or (script ++ drop (8 * total_of g) buffer) n 0) from
      ∙ get_or-append-add script (drop (8 * total_of g) buffer) (k - 8 * total_of g) 0
      ∙ get_or-drop (8 * total_of g) buffer (k - 8 * total_of g) 0
      ∙ ap (λ (n : ℕ). get_or buffer n 0) back

  long : Room g s image buffer → length (script ++ drop (8 * total_of g) buffer) ≡ length buffer
  long r = omega (arith, length-append script (drop (8 * total_of g) buffer), length-drop (8 * total_of g) buffer, size, r.room)

  pub is_written : Room g s image buffer → take (8 * total_of g) own.buffer ≡ script
  is_written r = ap (λ (w : Writing). take (8 * total_of g) w.buffer) (given r) ∙ take_at script (drop (8 * total_of g) buffer) (8 * total_of g) size

  pub answers : Answers g s image buffer own
  answers =
      record {
        start_first = λ off. ap (λ (w : Writing). number_of w.decline) (refused off);
        too_short = λ on l. ap (λ (w : Writing). number_of w.decline) (short on l);
        accepted = λ r. ap (λ (w : Writing). number_of w.decline) (given r);
        declined =
            by_answer (λ w. (number_of w.decline ≡ 0 → ⊥) → (w.records ≡ 0) × (w.buffer ≡ buffer))
            (λ off no_number. (refl, refl))
            (λ no_number. (refl, refl))
            (λ r not_zero. absurd (not_zero refl));
        counted = λ r. rw (given r) (refl, long r);
        written = λ r i k h l. ap (λ (w : Writing). get_or w.buffer (8 * i + k) 0) (given r) ∙ byte r i k h l;
        rest = λ r k l. ap (λ (w : Writing). get_or w.buffer k 0) (given r) ∙ past k l;
      }

-- ---- nothing else is as asked
module _ (g : Geometry) (s : State) (image buffer : List ℕ) (r : Writing) (a : Answers g s image buffer r) where
  abbrev b : Answers g s image buffer (own g s image buffer)
  b = answers g s image buffer

  -- declined with one number
  alike : number_of r.decline ≡ number_of (own g s image buffer).decline → (number_of r.decline ≡ 0 → ⊥) → r ≡ own g s image buffer
  alike e off =
      let (none, kept) = a.declined off in
      let (zero-too, same) = b.declined (λ h. off (e ∙ h)) in
      let decline = numbers.one r.decline (own g s image buffer).decline e in
      λ i. writing (decline i) ((none ∙ sym zero-too) i) ((kept ∙ sym same) i)

  same_bytes : Room g s image buffer → r.buffer ≡ (own g s image buffer).buffer
  same_bytes room =
      ext_get_or 0 r.buffer (own g s image buffer).buffer ((a.counted room).1 ∙ sym (b.counted room).1)
      (λ k l. go k (dec_lt k (8 * total_of g)))
    where
      go : (k : ℕ) → Dec (k < 8 * total_of g) → get_or r.buffer k 0 ≡ get_or (own g s image buffer).buffer k 0
      go k (no past) = a.rest room k (omega (arith, past)) ∙ sym (b.rest room k (omega (arith, past)))
      go k (yes l) =
          let e : 8 * (k / 8) + k % 8 ≡ k = omega arith in
          rw e at (a.written room (k / 8) (k % 8) (omega (arith, l)) (omega arith) ∙ sym (b.written room (k / 8) (k % 8) (omega (arith, l)) (omega arith)))

  pub one_answer : r ≡ own g s image buffer
  one_answer = go (accepted_of (start_of g s image).decline) refl (dec_lt (length buffer) (8 * total_of g))
    where
      go : (t : Bool) → accepted_of (start_of g s image).decline ≡ t → Dec (length buffer < 8 * total_of g) → r ≡ own g s image buffer
      go false off d =
          alike (a.start_first off ∙ sym (b.start_first off)) (λ h. true_not_false (sym (eq-eqb _ _ (sym (a.start_first off) ∙ h)) ∙ off))
      go true on (yes l) = alike (a.too_short on l ∙ sym (b.too_short on l)) (λ h. omega (arith, h, a.too_short on l))
      go true on (no l) =
          let room : Room g s image buffer = record { started = on; room = omega (arith, l) } in
          let decline = numbers.one r.decline (own g s image buffer).decline (a.accepted room ∙ sym (b.accepted room)) in
          let records = (a.counted room).0 ∙ sym (b.counted room).0 in
          let bytes = same_bytes room in
          λ i. writing (decline i) (records i) (bytes i)
