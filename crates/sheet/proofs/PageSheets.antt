-- What the call gives is as asked, and two answers that are as asked are the same: the number by the first decline that applies, the buffer by
-- its positions, each a byte of one line or past the sheet. Assumes nothing.
use mathlib.Core.Path.{◌≡◌, refl, sym, subst, ◌∙◌}
use mathlib.Core.Bool.{Bool, true, false}
use mathlib.Core.List.{List, [], ◌∷◌}
use Prim.Native.Nat.{ℕ, ◌*◌, ◌≤◌, ◌<◌}
use native.Mathlib.Decide.{dec_lt}
use native.Mathlib.Omega.{arith}
use lib.ListN.{length, get_or}
use lib.Seq.{ext_get_or}
use borrow.Author.Tests.{eqb-false, le-leb, lt-leb}
use Rattle.words.specs.Word.{pick}
use Rattle.words.specs.Decline.{Verdict, number_of, accepted_of}
use Rattle.words.proofs.BitLaws.{true_not_false}
use Rattle.words.proofs.Numbers.{numbers}
use Rattle.text.specs.Digits.{digit_of, width_of}
use Rattle.geometry.specs.declared.banks.Geometry.{Geometry}
use Rattle.geometry.specs.Banks.{InRange, in_range_up_to, listed_of, pages_of}
use Rattle.geometry.specs.Lent.{lengths_fit_of, lent_decline_up_to}
use Rattle.geometry.proofs.SizeLaws.{in-range}
use Rattle.device.specs.declared.record.Device.{Device}
use Rattle.device.specs.Record.{register_of}
use Rattle.protection.specs.Protection.{program_protected_of, protected_of}
use Rattle.common_declines.specs.Possible.{implemented_of, launched_fits_of, nothing_launched_of, resting_of, possible_of}
use Rattle.common_declines.specs.CommonDecline.{common_decline_of, Usable}
use Rattle.common_declines.proofs.DeclineLaws.{usable, used, common_meets, common_none, common_fixes}
use Rattle.sheet_page.specs.State.{page_state_of}
use Rattle.sheet_line.specs.Line.{line_of}
use Rattle.sheet.specs.Sheet.{sheet_of, Given, page_sheet_decline_of, page_sheet_of}
use Rattle.sheet.specs.PageSheets.{PageSheet, PageSheets}
use Rattle.sheet.proofs.PlaceLaws.{line_placed, rest_kept, same_length, OnLine, on_line}
use Rattle.sheet.proofs.LineLaws.{line_meets, one_line}

module _ (g : Geometry) (d : Device) (one two buffer : List ℕ) where
  abbrev lent : List ℕ
  lent = length one ∷ length two ∷ []

  abbrev common : Verdict
  common = common_decline_of g d lent 0

  -- ---- the answer of the call is as asked

  abbrev AsAsked : Type 0
  AsAsked = PageSheet g d one two buffer (page_sheet_of g d one two buffer)

  declined_first : accepted_of common ≡ false → AsAsked
  unfolding page_sheet_of page_sheet_decline_of
  declined_first e =
      rw (e, e)
      (record {
        declines = common_meets g d lent 0;
        too_short = λ u short. true_not_false (sym (used g d lent 0 u) ∙ e);
        accepted = λ u room. true_not_false (sym (used g d lent 0 u) ∙ e);
        declined = λ not_zero. (refl, refl);
        written = λ zero. absurd (eqb-false _ _ e zero);
        lines = λ zero second program i l. absurd (eqb-false _ _ e zero);
        rest = λ zero k past. refl;
      })

  declined_last : Usable g d lent 0 → length buffer < 34 * pages_of g → AsAsked
  unfolding page_sheet_of page_sheet_decline_of
  declined_last u short =
      rw (used g d lent 0 u, lt-leb (34 * pages_of g) (length buffer) short)
      (record {
        declines = common_none g d lent 0 u _;
        too_short = λ v s. refl;
        accepted = λ v room. absurd (omega arith);
        declined = λ not_zero. (refl, refl);
        written = λ zero. absurd (omega arith);
        lines = λ zero second program i l. absurd (omega arith);
        rest = λ zero k past. refl;
      })

  sheet_given : Usable g d lent 0 → 34 * pages_of g ≤ length buffer → AsAsked
  unfolding page_sheet_of page_sheet_decline_of
  sheet_given u room =
      let ok = in-range g u.listed in
      rw (used g d lent 0 u, le-leb (34 * pages_of g) (length buffer) room)
      (record {
        declines = common_none g d lent 0 u _;
        too_short = λ v short. absurd (omega arith);
        accepted = λ v r. refl;
        declined = λ not_zero. absurd (not_zero refl);
        written = λ zero. (refl, same_length g ok d one two buffer room);
        lines =
            λ zero second program i l.
            line_meets g ok d (pick second two one) second program i l _ (λ c narrow. line_placed g ok d one two buffer second program i c l narrow);
        rest = λ zero k past. rest_kept g ok d one two buffer k past;
      })

  as_asked : AsAsked
  as_asked = go (accepted_of common) refl (dec_lt (length buffer) (34 * pages_of g))
    where
      go : (t : Bool) → accepted_of common ≡ t → Dec (length buffer < 34 * pages_of g) → AsAsked
      go false e room = declined_first e
      go true e (yes short) = declined_last (usable g d lent 0 e) short
      go true e (no room) = sheet_given (usable g d lent 0 e) (omega arith)

  -- ---- and nothing else is

  module _ (a b : Given) (p : PageSheet g d one two buffer a) (q : PageSheet g d one two buffer b) where
    pieces : number_of a.decline ≡ number_of b.decline → a.bytes ≡ b.bytes → a.buffer ≡ b.buffer → a ≡ b
    pieces numbered bytes buffers =
        let declines = numbers.one a.decline b.decline numbered in
        λ j. record { decline = declines j; bytes = bytes j; buffer = buffers j }

    both_declined : (n : ℕ) → (n ≡ 0 → ⊥) → number_of a.decline ≡ n → number_of b.decline ≡ n → a ≡ b
    both_declined n not_zero e f =
        let (p-bytes, p-buffer) = p.declined (λ zero. not_zero (sym e ∙ zero)) in
        let (q-bytes, q-buffer) = q.declined (λ zero. not_zero (sym f ∙ zero)) in
        pieces (e ∙ sym f) (p-bytes ∙ sym q-bytes) (p-buffer ∙ sym q-buffer)

    both_given : InRange g → number_of a.decline ≡ 0 → number_of b.decline ≡ 0 → a ≡ b
    both_given ok e f =
        let (p-bytes, p-length) = p.written e in
        let (q-bytes, q-length) = q.written f in
        pieces (e ∙ sym f) (p-bytes ∙ sym q-bytes)
        (ext_get_or 0 a.buffer b.buffer (p-length ∙ sym q-length) (λ k inside. go k (dec_lt k (34 * pages_of g))))
      where
        on : (k : ℕ) → OnLine g k → get_or a.buffer k 0 ≡ get_or b.buffer k 0
        on k o =
            let line = p.lines e o.second o.program o.i o.inside in
            let other = q.lines f o.second o.program o.i o.inside in
            subst (λ (n : ℕ). get_or a.buffer n 0 ≡ get_or b.buffer n 0) (sym o.is)
            (one_line g ok d (pick o.second two one) o.second o.program o.i o.inside _ _ line other o.column o.narrow)

        go : (k : ℕ) → Dec (k < 34 * pages_of g) → get_or a.buffer k 0 ≡ get_or b.buffer k 0
        go k (yes l) = on k (on_line g k l)
        go k (no l) = p.rest e k (omega arith) ∙ sym (q.rest f k (omega arith))

    one_answer : a ≡ b
    one_answer = go (accepted_of common) refl (dec_lt (length buffer) (34 * pages_of g))
      where
        go : (t : Bool) → accepted_of common ≡ t → Dec (length buffer < 34 * pages_of g) → a ≡ b
        go false e room =
            both_declined (number_of common) (eqb-false _ _ e) (common_fixes g d lent 0 _ p.declines e) (common_fixes g d lent 0 _ q.declines e)
        go true e (yes short) = let u = usable g d lent 0 e in both_declined 18 (λ n. omega (arith, n)) (p.too_short u short) (q.too_short u short)
        go true e (no l) =
            let u = usable g d lent 0 e in
            let room : 34 * pages_of g ≤ length buffer = omega arith in
            both_given (in-range g u.listed) (p.accepted u room) (q.accepted u room)

pub page_sheets : PageSheets
unfolding page_sheet_of page_sheet_decline_of sheet_of line_of page_state_of width_of digit_of protected_of program_protected_of common_decline_of
    lent_decline_up_to in_range_up_to listed_of lengths_fit_of possible_of implemented_of launched_fits_of resting_of nothing_launched_of register_of
page_sheets =
    record {
      meets = as_asked;
      fixes = λ g d one two buffer a p. one_answer g d one two buffer a (page_sheet_of g d one two buffer) p (as_asked g d one two buffer);
      first_line = refl;
      last_line = refl;
    }
