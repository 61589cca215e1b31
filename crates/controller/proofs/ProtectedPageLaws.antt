-- A protected page stays: only the quad of a step is written, its four words have the kind, the side and the page of its location, since
-- a page is a number of quads, and that page is not protected.
-- Assumes nothing.
use mathlib.Core.Path.{◌≡◌, refl, sym, ap, ◌∙◌}
use mathlib.Core.Bool.{Bool, true, false, not}
use mathlib.Core.List.{List}
use mathlib.Core.Logic.{inl, inr}
use Prim.Native.Nat.{ℕ, ◌+◌, ◌-◌, ◌*◌, ◌/◌, ◌≤◌, ◌<◌}
use native.Mathlib.Nat.{add-sub_of_le, div-div-eq-div-mul, div-lt_iff_lt-mul, mul-add-div_right}
use native.Mathlib.Decide.{dec_le}
use native.Mathlib.Omega.{arith}
use lib.Arith.{digits_div}
use lib.ListN.{length, drop, length-take, length-drop}
use lib.Seq.{ext_get_or, get_or-take, get_or-drop}
use borrow.Author.Tests.{le-leb, lt-leb}
use Rattle.words.specs.Word.{pick}
use Rattle.words.specs.Quad.{word_at}
use Rattle.words.proofs.BitLaws.{true_not_false}
use Rattle.geometry.specs.declared.banks.Geometry.{Geometry}
use Rattle.map.specs.Windows.{Location}
use Rattle.geometry.specs.Banks.{InRange, page_bytes_of, page_words_of, page_at, boot_words_of, boot_quads_of}
use Rattle.map.specs.Windows.{window_bytes_of, page_of, quad_index_of}
use Rattle.device.specs.declared.record.Device.{Device}
use Rattle.device.specs.Record.{bfswap, pfswap}
use Rattle.protection.specs.Protection.{protected_of}
use Rattle.flash.specs.Effect.{step_location_of}
use Rattle.flash.proofs.EffectLaws.{runs_room}
use Rattle.reads.specs.Read.{second_at_of}
use Rattle.controller.specs.Protection.{is_program_page, of_its_kind, is_upper_page, protected_page_of}
use Rattle.device.specs.State.{State, bank_of}
use Rattle.controller.specs.Controller.{step_second_of, step_quad_of, Keeps}
use Rattle.controller.proofs.WriteLaws.{Writes, one_quad, unwritten, bank_length}

-- the words of quad offset / 16 lie in the page of the offset
quad_page : (g : Geometry) (v offset : ℕ) → 4 * (offset / 16) ≤ v → v < 4 * (offset / 16) + 4 → v / page_words_of g ≡ offset / page_bytes_of g
quad_page g v offset lo hi =
    let words : page_words_of g ≡ 4 * (8 * g.q) = omega arith in
    let bytes : 16 * (8 * g.q) ≡ page_bytes_of g = omega arith in
    let quad : v / 4 ≡ offset / 16 = omega arith in
    ap (λ (n : ℕ). v / n) words
    ∙ sym (div-div-eq-div-mul v 4 (8 * g.q))
    ∙ ap (λ (n : ℕ). n / (8 * g.q)) quad
    ∙ div-div-eq-div-mul offset 16 (8 * g.q)
    ∙ ap (λ (n : ℕ). offset / n) bytes

-- ---- a word of a location's quad lies in a page of its kind, its number and its side
module _ (g : Geometry) (ok : InRange g) (l : Location) (room : l.offset < window_bytes_of g l.program)
    (v : ℕ) (lo : 4 * quad_index_of g l ≤ v) (hi : v < 4 * quad_index_of g l + 4) where
  quad_for : Bool → ℕ
  quad_for program = pick program (boot_quads_of g + l.offset / 16) (l.offset / 16)

  -- the page of the word, by the kind of the location
  word_page : v / page_words_of g ≡ pick l.program (g.b + page_of g l) (page_of g l)
  unfolding quad_for
  word_page = go l.program lo hi
    where
      go : (program : Bool) → 4 * quad_for program ≤ v → v < 4 * quad_for program + 4 → v / page_words_of g ≡ pick program (g.b + page_of g l) (page_of g l)
      go true lo hi =
          let below : boot_words_of g + (v - boot_words_of g) ≡ v = add-sub_of_le (omega arith) in
          ap (λ (w : ℕ). w / page_words_of g) (sym below)
          ∙ mul-add-div_right (omega (arith, ok.q_low)) g.b (v - boot_words_of g)
          ∙ ap (λ (n : ℕ). g.b + n) (quad_page g (v - boot_words_of g) l.offset (omega arith) (omega arith))
      go false lo hi = quad_page g v l.offset lo hi

  page_kind : is_program_page g (v / page_words_of g) ≡ l.program
  page_kind = ap (is_program_page g) word_page ∙ go l.program room
    where
      go : (program : Bool) → l.offset < window_bytes_of g program → is_program_page g (pick program (g.b + page_of g l) (page_of g l)) ≡ program
      go true room = le-leb g.b (g.b + page_of g l) (omega arith)
      go false room = lt-leb g.b (page_of g l) ((div-lt_iff_lt-mul (omega (arith, ok.q_low))).1 room)

  page_number : of_its_kind g (v / page_words_of g) ≡ page_of g l
  page_number = rw (page_kind, word_page) (go l.program)
    where
      go : (program : Bool) → pick program (pick program (g.b + page_of g l) (page_of g l) - g.b) (pick program (g.b + page_of g l) (page_of g l)) ≡ page_of g l
      go true = omega arith
      go false = refl

  page_side : (d : Device) → is_upper_page g d (second_at_of d l) (v / page_words_of g) ≡ l.upper
  page_side d = rw page_kind (go l.upper (pick l.program (pfswap d) (bfswap d)))
    where
      go : (upper swap : Bool) → (let second = pick upper (not swap) swap in pick second (not swap) swap) ≡ upper
      go true true = refl
      go true false = refl
      go false true = refl
      go false false = refl

  page_protected : (d : Device) → protected_page_of g d (second_at_of d l) (v / page_words_of g) ≡ protected_of g d l.program l.upper (page_of g l)
  unfolding protected_page_of
  page_protected d = cc (page_kind, page_number, page_side d)

-- pages with the same words are equal
by_words : (g : Geometry) (n : ℕ) (one two : List ℕ) → length one ≡ length two
    → ((k : ℕ) → k < page_words_of g → word_at one (n * page_words_of g + k) ≡ word_at two (n * page_words_of g + k)) → page_at g one n ≡ page_at g two n
by_words g n one two long same = ext_get_or 0 (page_at g one n) (page_at g two n) (simp (length-take, length-drop, long)) word
  where
    word : (k : ℕ) → k < length (page_at g one n) → word_at (page_at g one n) k ≡ word_at (page_at g two n) k
    word k l =
        let inside : k < page_words_of g = omega (arith, length-take (page_words_of g) (drop (n * page_words_of g) one)) in
        get_or-take (page_words_of g) (drop (n * page_words_of g) one) k 0 inside
        ∙ get_or-drop (n * page_words_of g) one k 0
        ∙ same k inside
        ∙ sym (get_or-drop (n * page_words_of g) two k 0)
        ∙ sym (get_or-take (page_words_of g) (drop (n * page_words_of g) two) k 0 inside)

-- ---- a protected page stays
module _ (g : Geometry) (s t : State) (w : Writes g s t) where
  module _ (n : ℕ) where
    abbrev Kept : Bool → Type 0
    Kept second = page_at g (bank_of t second) n ≡ page_at g (bank_of s second) n

    -- in the bank of the step, whose quad is in no protected page
    here : w.write.writes ≡ true → protected_page_of g s.device (step_second_of g s) n ≡ true → Kept (step_second_of g s)
    here on p =
        by_words g n _ _ (bank_length g s t w (step_second_of g s)) (λ k h. low k h (dec_le (4 * step_quad_of g s) (n * page_words_of g + k)))
      where
        Same : ℕ → Type 0
        Same v = word_at (bank_of t (step_second_of g s)) v ≡ word_at (bank_of s (step_second_of g s)) v

        apart : (v : ℕ) → v / page_words_of g ≡ n → 4 * step_quad_of g s ≤ v → v < 4 * step_quad_of g s + 4 → ⊥
        apart v e lo hi =
            let (runs, free) = w.allowed on in
            true_not_false
            (sym p
            ∙ ap (protected_page_of g s.device (step_second_of g s)) (sym e)
            ∙ page_protected g runs.range (step_location_of g s.device) (omega (arith, runs_room g s.device runs)) v lo hi s.device
            ∙ free)

        high : (k : ℕ) → k < page_words_of g → 4 * step_quad_of g s ≤ n * page_words_of g + k → Dec (4 * step_quad_of g s + 4 ≤ n * page_words_of g + k)
            → Same (n * page_words_of g + k)
        high k h lo (yes m) = (one_quad g s t w).outside (n * page_words_of g + k) (inr m)
        high k h lo (no m) = absurd (apart (n * page_words_of g + k) (digits_div n h) lo (omega arith))

        low : (k : ℕ) → k < page_words_of g → Dec (4 * step_quad_of g s ≤ n * page_words_of g + k) → Same (n * page_words_of g + k)
        low k h (yes m) = high k h m (dec_le (4 * step_quad_of g s + 4) (n * page_words_of g + k))
        low k h (no m) = (one_quad g s t w).outside (n * page_words_of g + k) (inl (omega arith))

    -- the step is in this bank, or in the other
    side : (a b : Bool) → (protected_page_of g s.device b n ≡ true → Kept b) → Kept (not b) → protected_page_of g s.device a n ≡ true → Kept a
    side true true same other p = same p
    side true false same other p = other
    side false true same other p = other
    side false false same other p = same p

    kept : (second : Bool) → protected_page_of g s.device second n ≡ true → Kept second
    kept second p = written w.write.writes refl
      where
        written : (on : Bool) → w.write.writes ≡ on → Kept second
        written true e =
            side second (step_second_of g s) (here e) (ap (λ (bank : List ℕ). page_at g bank n) (one_quad g s t w).other_bank) p
        written false e = ap (λ (bank : List ℕ). page_at g bank n) (unwritten g s t w e second)

  pub writes_keep : Keeps g s t
  writes_keep = record { long = bank_length g s t w; page = λ second n p. kept n second p }
