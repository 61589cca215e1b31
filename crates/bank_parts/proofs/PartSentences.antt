-- The lower bank is one of the two, and a page is known by its words. Assumes nothing.
use Prim.Native.Nat.{ℕ, ◌+◌, ◌*◌, ◌≤◌, ◌<◌}
use Rattle.std.specs.Prelude.{Ok, Err}
use mathlib.Core.Path.{◌≡◌, refl, sym, ap, ◌∙◌}
use mathlib.Core.Bool.{Bool, true, false}
use mathlib.Core.List.{List, [], ◌∷◌}
use native.Mathlib.Decide.{ℕ_discrete, dec_lt}
use native.Mathlib.Omega.{arith}
use lib.Dec.{ltb}
use lib.ListN.{length, get_or, drop, length-drop}
use lib.Seq.{ext_get_or, get_or-take, get_or-drop, length-take-le}
use borrow.Author.Tests.{eqb-true, eq-eqb, ne_eqb, lt-ltb, le-ltb}
use Rattle.words.specs.Word.{pick, bit}
use Rattle.words.specs.declared.decline.Decline.{Decline}
use Rattle.words.specs.Decline.{Verdict, number_of, accepted_of, first_of}
use Rattle.words.proofs.BitLaws.{true_not_false, has_bit}
use Rattle.words.proofs.DeclineLaws.{neither}
use Rattle.words.proofs.Numbers.{numbers}
use Rattle.geometry.specs.declared.banks.Geometry.{Geometry}
use Rattle.geometry.specs.Banks.{in_range_of, pages_of, page_words_of, page_at}
use Rattle.geometry.specs.Lent.{Fit, LentDeclines, lent_decline_of, lent_decline_up_to, lengths_fit_of}
use Rattle.geometry.proofs.FitLaws.{fit, fitted, lent_meets, lent_fixes}
use Rattle.geometry.proofs.SizeLaws.{in-range, page_in_bank_lem}
use Rattle.device.specs.declared.record.Device.{Device}
use Rattle.device.specs.Record.{register_of, bfswap}
use Rattle.common_declines.specs.CommonDecline.{common_decline_of, Usable}
use Rattle.common_declines.proofs.DeclineLaws.{usable, used, common_meets, common_fixes}
use Rattle.bank_parts.specs.Parts.{lower_bank_decline_of, lower_bank_of, page_decline_of, page_part_of}
use Rattle.bank_parts.specs.PartSentences.{LowerBankSentences, PageSentences, PartsFixed}

-- ---- the lower bank
module _ (g : Geometry) (d : Device) (one two : List ℕ) where
  abbrev judged : Verdict
  judged = lower_bank_decline_of g d (length one) (length two)

  is_common : judged ≡ common_decline_of g d (length one ∷ length two ∷ []) 0
  unfolding lower_bank_decline_of
  is_common = refl

  swap : bit 6 (register_of d 0) ≡ bfswap d
  unfolding register_of
  swap = sym (has_bit 6 d.nvmcon.0)

  empty : (number_of judged ≡ 0 → ⊥) → lower_bank_of g d one two ≡ []
  unfolding lower_bank_of
  empty off = rw (ne_eqb (number_of judged) 0 off)

  handed : (t : Bool) → number_of judged ≡ 0 → bit 6 (register_of d 0) ≡ t → lower_bank_of g d one two ≡ pick t two one
  unfolding lower_bank_of
  handed t ok e = rw (eq-eqb (number_of judged) 0 ok, sym swap ∙ e)

  lower_meets : LowerBankSentences g d one two judged (lower_bank_of g d one two)
  lower_meets =
      record {
        declines = rw is_common (common_meets g d (length one ∷ length two ∷ []) 0);
        accepted = λ u. rw is_common (number_zero u);
        declined = empty;
        first = handed false;
        second = handed true;
      }
    where
      number_zero : Usable g d (length one ∷ length two ∷ []) 0 → number_of (common_decline_of g d (length one ∷ length two ∷ []) 0) ≡ 0
      number_zero u = eqb-true _ _ (used g d (length one ∷ length two ∷ []) 0 u)

  module _ (decline : Verdict) (part : List ℕ) (m : LowerBankSentences g d one two decline part) where
    same_number : number_of decline ≡ number_of judged
    same_number = go (accepted_of (common_decline_of g d (length one ∷ length two ∷ []) 0)) refl
      where
        go : (t : Bool) → accepted_of (common_decline_of g d (length one ∷ length two ∷ []) 0) ≡ t → number_of decline ≡ number_of judged
        go true on =
            let u = usable g d (length one ∷ length two ∷ []) 0 on in
            m.accepted u ∙ sym (lower_meets.accepted u)
        go false off = rw is_common (common_fixes g d (length one ∷ length two ∷ []) 0 _ m.declines off)

    same_part : part ≡ lower_bank_of g d one two
    same_part = go (ℕ_discrete (number_of decline) 0) (bit 6 (register_of d 0)) refl
      where
        go : Dec (number_of decline ≡ 0) → (t : Bool) → bit 6 (register_of d 0) ≡ t → part ≡ lower_bank_of g d one two
        go (no off) t e = m.declined off ∙ sym (empty (λ h. off (same_number ∙ h)))
        go (yes ok) true e = m.second ok e ∙ sym (handed true (sym same_number ∙ ok) e)
        go (yes ok) false e = m.first ok e ∙ sym (handed false (sym same_number ∙ ok) e)

-- ---- a page
module _ (g : Geometry) (bank : List ℕ) (page : ℕ) where
  abbrev asked : Verdict
  asked = page_decline_of g (length bank) page

  abbrev lent : Verdict
  lent = lent_decline_of g (length bank ∷ []) 0

  abbrev numbered : Verdict
  numbered = pick (ltb page (pages_of g)) (Ok tt) (Err Decline.Address)

  is_first : asked ≡ first_of lent numbered
  unfolding page_decline_of
  is_first = refl

  lent_fits : accepted_of lent ≡ true → (in_range_of g ≡ true) × Fit g (length bank ∷ []) 0
  unfolding lent_decline_up_to
  lent_fits h = go (in_range_of g) refl (lengths_fit_of g (length bank ∷ []) 0) refl
    where
      go : (a : Bool) → in_range_of g ≡ a → (b : Bool) → lengths_fit_of g (length bank ∷ []) 0 ≡ b → (in_range_of g ≡ true) × Fit g (length bank ∷ []) 0
      go true ea true eb = (ea, fit g (length bank ∷ []) 0 eb)
      go true ea false eb = true_not_false (sym (simp (ea, eb) at h))
      go false ea b eb = true_not_false (sym (simp ea at h))

  fits_lent : in_range_of g ≡ true → Fit g (length bank ∷ []) 0 → accepted_of lent ≡ true
  unfolding lent_decline_up_to
  fits_lent listed f = rw (listed, fitted g (length bank ∷ []) 0 f)

  after_lent : in_range_of g ≡ true → Fit g (length bank ∷ []) 0 → number_of asked ≡ number_of numbered
  after_lent listed f = ap number_of is_first ∙ rw (fits_lent listed f)

  page_declines : LentDeclines g (length bank ∷ []) 0 (number_of asked)
  page_declines = rw is_first (go (accepted_of lent) refl)
    where
      go : (t : Bool) → accepted_of lent ≡ t → LentDeclines g (length bank ∷ []) 0 (number_of (pick t numbered lent))
      go false off = lent_meets g (length bank ∷ []) 0
      go true on =
          let (listed, f) = lent_fits on in
          record { geometry = λ out. true_not_false (sym listed ∙ out); lengths_differ = λ l unfit. absurd (unfit f) }

  no_part : (number_of asked ≡ 0 → ⊥) → page_part_of g bank page ≡ []
  unfolding page_part_of
  no_part off = rw (ne_eqb (number_of asked) 0 off)

  module _ (ok : number_of asked ≡ 0) where
    the_part : page_part_of g bank page ≡ page_at g bank page
    unfolding page_part_of
    the_part = rw (eq-eqb (number_of asked) 0 ok)

    passes : accepted_of (first_of lent numbered) ≡ true
    passes = eq-eqb _ _ (sym (ap number_of is_first) ∙ ok)

    below : page < pages_of g
    below = go (dec_lt page (pages_of g))
      where
        go : Dec (page < pages_of g) → page < pages_of g
        go (yes l) = l
        go (no l) =
            let (first, other) = neither lent numbered passes in
            true_not_false (sym other ∙ rw (le-ltb page (pages_of g) (omega (arith, l))))

    inside : page * page_words_of g + page_words_of g ≤ length bank
    inside =
        let (first, other) = neither lent numbered passes in
        let (listed, f) = lent_fits first in
        omega (arith, f.banks 0 (omega arith), page_in_bank_lem g (in-range g listed) page below)

    part_long : length (page_part_of g bank page) ≡ 32 * g.q
    part_long =
        ap length the_part
        ∙ length-take-le (page_words_of g) (drop (page * page_words_of g) bank) (omega (arith, length-drop (page * page_words_of g) bank, inside))

    part_word : (i : ℕ) → i < 32 * g.q → get_or (page_part_of g bank page) i 0 ≡ get_or bank (page * (32 * g.q) + i) 0
    part_word i l =
        ap (λ (x : List ℕ). get_or x i 0) the_part
        ∙ get_or-take (page_words_of g) (drop (page * page_words_of g) bank) i 0 l
        ∙ get_or-drop (page * page_words_of g) bank i 0

  page_meets : PageSentences g bank page asked (page_part_of g bank page)
  page_meets =
      record {
        declines = page_declines;
        no_page = λ listed f high. after_lent listed f ∙ rw (le-ltb page (pages_of g) high);
        accepted = λ listed f low. after_lent listed f ∙ rw (lt-ltb page (pages_of g) low);
        declined = no_part;
        long = part_long;
        words = part_word;
      }

  module _ (decline : Verdict) (part : List ℕ) (m : PageSentences g bank page decline part) where
    one_number : number_of decline ≡ number_of asked
    one_number = go (accepted_of lent) refl (dec_lt page (pages_of g))
      where
        go : (t : Bool) → accepted_of lent ≡ t → Dec (page < pages_of g) → number_of decline ≡ number_of asked
        go false off d = lent_fixes g (length bank ∷ []) 0 _ m.declines off ∙ sym (lent_fixes g (length bank ∷ []) 0 _ page_declines off)
        go true on (yes low) = let (listed, f) = lent_fits on in m.accepted listed f low ∙ sym (page_meets.accepted listed f low)
        go true on (no l) =
            let (listed, f) = lent_fits on in
            let high : pages_of g ≤ page = omega (arith, l) in
            m.no_page listed f high ∙ sym (page_meets.no_page listed f high)

    one_part : part ≡ page_part_of g bank page
    one_part = go (ℕ_discrete (number_of decline) 0)
      where
        go : Dec (number_of decline ≡ 0) → part ≡ page_part_of g bank page
        go (no off) = m.declined off ∙ sym (no_part (λ h. off (one_number ∙ h)))
        go (yes ok) =
            let own : number_of asked ≡ 0 = sym one_number ∙ ok in
            ext_get_or 0 part (page_part_of g bank page) (m.long ok ∙ sym (part_long own))
            (λ i l. let few : i < 32 * g.q = omega (arith, l, m.long ok) in m.words ok i few ∙ sym (part_word own i few))

pub parts_fixed : PartsFixed
parts_fixed =
    record {
      lower_meets = lower_meets;
      lower_fixes = λ g d one two decline part m.
          (numbers.one decline (judged g d one two) (same_number g d one two decline part m), same_part g d one two decline part m);
      page_meets = page_meets;
      page_fixes = λ g bank page decline part m.
          (numbers.one decline (asked g bank page) (one_number g bank page decline part m), one_part g bank page decline part m);
    }
