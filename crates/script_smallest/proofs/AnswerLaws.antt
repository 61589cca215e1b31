-- Which decline the call gives, and where: 1, 2, 3, 14, 20, 21 in this order. Assumes nothing.
use Prim.Native.Nat.{ℕ, ◌<◌}
use Rattle.std.specs.Prelude.{Ok, Err}
use mathlib.Core.Path.{◌≡◌, refl, sym, ap, ◌∙◌}
use mathlib.Core.Bool.{Bool, true, false, ◌&&◌}
use mathlib.Core.List.{List, [], ◌∷◌}
use mathlib.Core.Logic.{◌⊎◌, ⊎_elim}
use lib.Dec.{eqb, leb}
use lib.ListN.{length}
use borrow.Author.Tests.{eqb-true, eq-eqb, ne_eqb, le-leb, lt-leb}
use Rattle.words.specs.Word.{pick}
use Rattle.words.proofs.BitLaws.{true_not_false}
use Rattle.words.proofs.PickLaws.{pick_both}
use Rattle.words.specs.declared.decline.Decline.{Decline}
use Rattle.words.specs.Decline.{Verdict, number_of, accepted_of, first_of}
use Rattle.geometry.specs.declared.banks.Geometry.{Geometry}
use Rattle.geometry.specs.Banks.{in_range_of, bank_words_of}
use Rattle.geometry.specs.Lent.{most_sram, lengths_fit_of, lent_decline_up_to, lent_decline_of, LentDeclines}
use Rattle.geometry.proofs.FitLaws.{lent_meets}
use native.Mathlib.Omega.{arith}
use Rattle.device.specs.State.{State}
use Rattle.common_declines.specs.Possible.{possible_of}
use Rattle.common_declines.specs.CommonDecline.{common_decline_of}
use Rattle.script_format.specs.Records.{Bytes, records_of, is_script_of}
use Rattle.script_play.specs.Play.{play_decline_of, decline_of}
use Rattle.script_play.proofs.AnswerLaws.{record_answers}
use Rattle.script_smallest.specs.Smallest.{answer_of, shows_of, unplayed_decline_of, searched_of, smallest_of}
use Rattle.script_smallest.specs.SmallestScripts.{lent_of, Playable, Declines}
use Rattle.script_smallest.proofs.ShowLaws.{gives_shows, not_shown}

-- what holds of each answer that can be given before a record is played holds of the one that is
pub one_of_six : (P : Verdict → Type 0) (g : Geometry) (s : State) (sram : ℕ) (x : List ℕ) (one two result : ℕ)
    → P (Ok tt) → P (Err Decline.Geometry) → P (Err Decline.Length) → P (Err Decline.Device) → P (Err Decline.Script) → P (Err Decline.Records)
    → P (unplayed_decline_of g s sram x one two result)
unfolding unplayed_decline_of common_decline_of lent_decline_up_to
one_of_six P g s sram x one two result accepted geometry length-differs device script records =
    first (lent_decline_of g (length s.one ∷ length s.two ∷ []) sram) (lent (length s.one ∷ length s.two ∷ []) sram)
    (first (pick (eqb result (length x)) (Ok tt) (Err Decline.Length)) (pick_both P (eqb result (length x)) accepted length-differs)
    (first (common_decline_of g s.device (one ∷ two ∷ []) 0) common
    (first (pick (is_script_of x) (Ok tt) (Err Decline.Script)) (pick_both P (is_script_of x) accepted script)
    (pick_both P (leb (records_of x) 64) accepted records))))
  where
    first : (a : Verdict) {b : Verdict} → P a → P b → P (first_of a b)
    first a pa pb = pick_both P (accepted_of a) pb pa

    lent : (lengths : List ℕ) (n : ℕ) → P (lent_decline_of g lengths n)
    lent lengths n = pick_both P (in_range_of g) (pick_both P (lengths_fit_of g lengths n) accepted length-differs) geometry

    common : P (common_decline_of g s.device (one ∷ two ∷ []) 0)
    common = first (lent_decline_of g (one ∷ two ∷ []) 0) (lent (one ∷ two ∷ []) 0) (pick_both P (possible_of g s.device) accepted device)

-- ---- four banks are two and two

fit_four : (g : Geometry) (a b c d sram : ℕ)
    → lengths_fit_of g (a ∷ b ∷ c ∷ d ∷ []) sram ≡ (lengths_fit_of g (a ∷ b ∷ []) sram && lengths_fit_of g (c ∷ d ∷ []) 0)
unfolding lengths_fit_of
fit_four g a b c d sram = go (eqb a (bank_words_of g)) (eqb b (bank_words_of g)) (eqb c (bank_words_of g)) (eqb d (bank_words_of g)) (leb sram most_sram)
  where
    go : (a b c d s : Bool) → ((a && (b && (c && (d && true)))) && s) ≡ (((a && (b && true)) && s) && ((c && (d && true)) && true))
    go false b c d s = refl
    go true false c d s = refl
    go true true false d true = refl
    go true true false d false = refl
    go true true true false true = refl
    go true true true false false = refl
    go true true true true true = refl
    go true true true true false = refl

-- the one that applies first
module _ (possible : Verdict) (rest : Verdict) where
  lent_first : (range two other t : Bool)
      → accepted_of (pick range (pick (two && other) (Ok tt) (Err Decline.Length)) (Err Decline.Geometry)) ≡ false
      → first_of (pick range (pick two (Ok tt) (Err Decline.Length)) (Err Decline.Geometry))
      (first_of (pick t (Ok tt) (Err Decline.Length))
      (first_of (first_of (pick range (pick other (Ok tt) (Err Decline.Length)) (Err Decline.Geometry)) possible) rest))
      ≡ pick range (pick (two && other) (Ok tt) (Err Decline.Length)) (Err Decline.Geometry)
  lent_first false two other t h = refl
  lent_first true false other t h = refl
  lent_first true true false false h = refl
  lent_first true true false true h = refl
  lent_first true true true t h = absurd (true_not_false h)

lent_passed : (range two other : Bool) → accepted_of (pick range (pick (two && other) (Ok tt) (Err Decline.Length)) (Err Decline.Geometry)) ≡ true
    → (range ≡ true) × (two ≡ true) × (other ≡ true)
lent_passed true true true h = (refl, refl, refl)
lent_passed true true false h = absurd (true_not_false (sym h))
lent_passed true false other h = absurd (true_not_false (sym h))
lent_passed false two other h = absurd (true_not_false (sym h))

module _ (g : Geometry) (sram : List ℕ) (s : State) (x : List ℕ) (number : ℕ) (one two result : List ℕ) where
  abbrev unplayed : Verdict
  unplayed = unplayed_decline_of g s (length sram) x (length one) (length two) (length result)

  -- ---- a call that is declined before a record is played, and one that is played

  declined_is : accepted_of unplayed ≡ false → (smallest_of g sram s x number one two result).decline ≡ unplayed
  unfolding smallest_of
  declined_is e = rw e

  played_is : accepted_of unplayed ≡ true → (smallest_of g sram s x number one two result).decline ≡ (searched_of g sram s x number result).decline
  unfolding smallest_of
  played_is e = rw e

  lent_declined : accepted_of (lent_of g sram s one two) ≡ false → unplayed ≡ lent_of g sram s one two
  unfolding unplayed_decline_of common_decline_of lent_decline_up_to
  lent_declined h =
      let four = fit_four g (length s.one) (length s.two) (length one) (length two) (length sram) in
      rw four
      (lent_first _ _ (in_range_of g) (lengths_fit_of g (length s.one ∷ length s.two ∷ []) (length sram)) (lengths_fit_of g (length one ∷ length two ∷ []) 0)
      (eqb (length result) (length x)) (rw four at h))

  -- both pairs of banks have their length
  both_fit : accepted_of (lent_of g sram s one two) ≡ true
      → (lent_decline_of g (length s.one ∷ length s.two ∷ []) (length sram) ≡ Ok tt)
      × (lent_decline_of g (length one ∷ length two ∷ []) 0 ≡ Ok tt)
  unfolding lent_decline_up_to
  both_fit h =
      let four = fit_four g (length s.one) (length s.two) (length one) (length two) (length sram) in
      let (range, first, other) =
      lent_passed (in_range_of g) (lengths_fit_of g (length s.one ∷ length s.two ∷ []) (length sram)) (lengths_fit_of g (length one ∷ length two ∷ []) 0)
      (rw four at h) in
      (rw (range, first), rw (range, other))

  module _ (lent : accepted_of (lent_of g sram s one two) ≡ true) where
    other_buffer : (length result ≡ length x → ⊥) → unplayed ≡ Err Decline.Length
    unfolding unplayed_decline_of
    other_buffer e = rw ((both_fit lent).0, ne_eqb (length result) (length x) e)

    module _ (buffer : length result ≡ length x) where
      no_device : possible_of g s.device ≡ false → unplayed ≡ Err Decline.Device
      unfolding unplayed_decline_of common_decline_of
      no_device e = rw ((both_fit lent).0, eq-eqb (length result) (length x) buffer, (both_fit lent).1, e)

      module _ (possible : possible_of g s.device ≡ true) where
        not_script : is_script_of x ≡ false → unplayed ≡ Err Decline.Script
        unfolding unplayed_decline_of common_decline_of
        not_script e = rw ((both_fit lent).0, eq-eqb (length result) (length x) buffer, (both_fit lent).1, possible, e)

        too_many : is_script_of x ≡ true → 64 < records_of x → unplayed ≡ Err Decline.Records
        unfolding unplayed_decline_of common_decline_of
        too_many e l =
            rw ((both_fit lent).0, eq-eqb (length result) (length x) buffer, (both_fit lent).1, possible, e, lt-leb (records_of x) 64 l)

  module _ (p : Playable g sram s x one two result) where
    is_played : accepted_of unplayed ≡ true
    unfolding unplayed_decline_of common_decline_of
    is_played =
        rw (
          (both_fit p.lent).0,
          eq-eqb (length result) (length x) p.buffer,
          (both_fit p.lent).1,
          p.device,
          p.script,
          le-leb (records_of x) 64 p.few,
        )

    -- the play is accepted, too
    plays : accepted_of (decline_of g sram s x) ≡ true
    unfolding play_decline_of common_decline_of
    plays = rw ((both_fit p.lent).0, p.device, p.script)

    not_given : shows_of g sram s number x ≡ false → number_of (smallest_of g sram s x number one two result).decline ≡ 21
    unfolding searched_of
    not_given e = ap number_of (played_is is_played) ∙ rw e

    given : shows_of g sram s number x ≡ true → number_of (smallest_of g sram s x number one two result).decline ≡ 0
    unfolding searched_of
    given e = ap number_of (played_is is_played) ∙ rw e

    zero_not_shown : number ≡ 0 → shows_of g sram s number x ≡ false
    unfolding shows_of
    zero_not_shown e = rw (eq-eqb number 0 e)

    only : Bytes x → (i : ℕ) → i < records_of x → let n = answer_of g sram s x i in (n ≡ 0) ⊎ ((n ≡ 4) ⊎ ((n ≡ 5) ⊎ (n ≡ 6)))
    only bytes i l = record_answers g sram s x bytes plays i l

    others : Bytes x → (number ≡ 4 → ⊥) → (number ≡ 5 → ⊥) → (number ≡ 6 → ⊥) → shows_of g sram s number x ≡ false
    others bytes no4 no5 no6 = go (eqb number 0) refl
      where
        go : (t : Bool) → eqb number 0 ≡ t → shows_of g sram s number x ≡ false
        go true e = zero_not_shown (eqb-true number 0 e)
        go false e =
            not_shown g sram s number x
            (λ gives.
            let is = sym gives.answers in
            ⊎_elim (λ zero. true_not_false (sym (eq-eqb number 0 (is ∙ zero)) ∙ e))
            (⊎_elim (λ four. no4 (is ∙ four)) (⊎_elim (λ five. no5 (is ∙ five)) (λ six. no6 (is ∙ six))))
            (only bytes gives.at gives.below))

  pub declines : Declines g sram s x number one two result (smallest_of g sram s x number one two result)
  declines =
      record {
        lent =
            record {
              geometry = λ out. refused 1 (lent_numbers.geometry out) (omega arith);
              lengths_differ = λ listed unfit. refused 2 (lent_numbers.lengths_differ listed unfit) (omega arith);
            };
        buffer = λ lent e. ap number_of (before (other_buffer lent e) refl);
        device = λ lent buffer e. ap number_of (before (no_device lent buffer e) refl);
        no_script = λ lent buffer possible e. ap number_of (before (not_script lent buffer possible e) refl);
        records = λ lent buffer possible script l. ap number_of (before (too_many lent buffer possible script l) refl);
        never =
            λ p why.
            not_given p (⊎_elim (λ zero. zero_not_shown p zero) (λ none. not_shown g sram s number x none) why);
        accepted = λ p some gives. given p (gives_shows g sram s number x some gives);
        only = only;
        others = λ p bytes no4 no5 no6. not_given p (others p bytes no4 no5 no6);
      }
    where
      before : {d : Verdict} → unplayed ≡ d → accepted_of d ≡ false → (smallest_of g sram s x number one two result).decline ≡ d
      before e off = declined_is (ap accepted_of e ∙ off) ∙ e

      lent_numbers : LentDeclines g (length s.one ∷ length s.two ∷ length one ∷ length two ∷ []) (length sram) (number_of (lent_of g sram s one two))
      lent_numbers = lent_meets g (length s.one ∷ length s.two ∷ length one ∷ length two ∷ []) (length sram)

      -- by the number that 1 or 2 gives
      refused : (n : ℕ) → number_of (lent_of g sram s one two) ≡ n → 0 < n → number_of (smallest_of g sram s x number one two result).decline ≡ n
      refused n is some =
          let off = ne_eqb (number_of (lent_of g sram s one two)) 0 (λ e. omega (arith, e, is, some)) in
          ap number_of (before (lent_declined off) off) ∙ is
