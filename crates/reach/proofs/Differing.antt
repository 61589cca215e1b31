-- Two images are of one of four kinds: declined; one word differs, outside the sequence quad or inside it; or not exactly one word differs.
-- Each kind has one answer that is as asked: a word's store is the only action that differs, and no action looks at the sequence quad's words.
-- Assumes nothing.
use mathlib.Core.Path.{◌≡◌, refl, sym, ap, ◌∙◌}
use mathlib.Core.Bool.{Bool, true, false}
use mathlib.Core.List.{List, [], ◌∷◌}
use Prim.Native.Nat.{ℕ, ◌-◌, ◌/◌}
use native.Mathlib.Decide.{ℕ_discrete}
use native.Mathlib.Omega.{arith}
use lib.ListN.{length, get_or}
use borrow.Author.Tests.{eq-eqb, ne_eqb, eqb-true}
use Rattle.words.specs.Quad.{word_at}
use Rattle.words.specs.Decline.{number_of, accepted_of}
use Rattle.words.proofs.BitLaws.{true_not_false}
use Rattle.words.proofs.ListLaws.{ascending_same}
use Rattle.words.proofs.Numbers.{numbers}
use Rattle.geometry.specs.declared.banks.Geometry.{Geometry}
use Rattle.geometry.specs.Banks.{in_range_of, bank_words_of}
use Rattle.geometry.specs.Lent.{lengths_fit_of, lent_decline_up_to}
use Rattle.geometry.proofs.LentLaws.{fits}
use Rattle.geometry.proofs.FitLaws.{fit, fitted, lent_meets, lent_fixes}
use Rattle.sequence.specs.Sequence.{sequence_quad_of}
use Rattle.update.specs.declared.actions.Action.{Action}
use Rattle.update.specs.declared.actions.Action.TheVariants.{Step}
use Rattle.reach.specs.declared.Difference.{Difference}
use Rattle.reach.specs.Reach.{ReachAnswer, Reached, reach_number_of, difference_of, data_place_of, answer_of, reach_decline_of, reach_of}
use Rattle.reach.specs.Differing.{OneWord, Differs, WordsGiven, DifferAt, Reaches, Found, NotFound, OneAction, Differing}
use Rattle.reach.proofs.DifferenceLaws.{differing_of, meaning}
use Rattle.reach.proofs.OneWordLaws.{within, found_one, only_one}
use Rattle.reach.proofs.OneActionLaws.{one_action, same_actions}

-- ---- the actions that differ
module _ (g : Geometry) (image other : List ℕ) (i w : ℕ) (one : OneWord image other i) where
  outside : length image ≡ bank_words_of g → length other ≡ bank_words_of g → (i / 4 ≡ sequence_quad_of g → ⊥) → OneAction g image other i w
  outside long too = one_action g image other i w (within image other i one (bank_words_of g) long too) one

  -- those of the word's place, whose stores have its two words
  differ_there : OneAction g image other i w → DifferAt g image other w (data_place_of g i)
  differ_there actions same =
      let stores = sym actions.first ∙ same ∙ actions.second in
      let words : word_at image i ≡ word_at other i = cc in
      one.differs words

  only_there : OneAction g image other i w → (place : ℕ) → DifferAt g image other w place → data_place_of g i ≡ place
  only_there actions place differ = go (ℕ_discrete place (data_place_of g i))
    where
      go : Dec (place ≡ data_place_of g i) → data_place_of g i ≡ place
      go (yes e) = sym e
      go (no away) = absurd (differ (actions.same place away))

  -- inside the sequence quad none
  never : i / 4 ≡ sequence_quad_of g → (place : ℕ) → DifferAt g image other w place → ⊥
  never left_out place differ = differ (ap (λ (actions : List Action). get_or actions place Step) (same_actions g image other i w one left_out))

-- ---- the four kinds
module _ (g : Geometry) (image other : List ℕ) where
  abbrev lengths : List ℕ
  lengths = length image ∷ length other ∷ []

  abbrev number : ℕ
  number = number_of (reach_decline_of g image other)

  abbrev d : Difference
  d = difference_of image other (bank_words_of g)

  -- with the answer that the call gives
  data Kind (answer : ReachAnswer) : Type 0 where
    declined : (number ≡ 0 → ⊥) → answer ≡ ReachAnswer.Declined → Kind answer
    one_outside : number ≡ 0 → (i : ℕ) → OneWord image other i → (i / 4 ≡ sequence_quad_of g → ⊥) → ((w : ℕ) → OneAction g image other i w)
        → answer ≡ ReachAnswer.Action (data_place_of g i) → Kind answer
    one_inside : number ≡ 0 → (i : ℕ) → OneWord image other i → i / 4 ≡ sequence_quad_of g → answer ≡ ReachAnswer.NoAction → Kind answer
    not_one : number ≡ 0 → ((i : ℕ) → OneWord image other i → ⊥) → WordsGiven image other (bank_words_of g) answer → Kind answer

  kind : Kind (reach_of g image other).answer
  unfolding reach_of answer_of
  kind = go (accepted_of (reach_decline_of g image other)) refl (ℕ_discrete d.count 1) (ℕ_discrete (d.lowest / 4) (sequence_quad_of g))
    where
      go : (t : Bool) → accepted_of (reach_decline_of g image other) ≡ t → Dec (d.count ≡ 1) → Dec (d.lowest / 4 ≡ sequence_quad_of g)
          → Kind (reach_of g image other).answer
      go false off counted quad = declined (λ none. true_not_false (sym (eq-eqb number 0 none) ∙ off)) (rw off)
      go true on (no not) quad =
          let (long, (too, end)) = (fits g lengths 0 on).banks in
          not_one (eqb-true number 0 on)
          (λ i one. not (ap (λ (e : Difference). e.count)
          (found_one image other i one (bank_words_of g) (within image other i one (bank_words_of g) long too))))
          (record {
            difference = d;
            words = differing_of image other (bank_words_of g);
            is = rw (on, ne_eqb d.count 1 not);
            means = meaning image other (bank_words_of g);
          })
      go true on (yes one) (yes is) =
          let (long, (too, end)) = (fits g lengths 0 on).banks in
          one_inside (eqb-true number 0 on) d.lowest (only_one image other (bank_words_of g) long too one) is
          (rw (on, eq-eqb d.count 1 one, eq-eqb (d.lowest / 4) (sequence_quad_of g) is))
      go true on (yes one) (no ne) =
          let (long, (too, end)) = (fits g lengths 0 on).banks in
          let word = only_one image other (bank_words_of g) long too one in
          one_outside (eqb-true number 0 on) d.lowest word ne (λ w. outside g image other d.lowest w word long too ne)
          (rw (on, eq-eqb d.count 1 one, ne_eqb (d.lowest / 4) (sequence_quad_of g) ne))

  -- ---- its answer is as asked
  module _ (answer : ReachAnswer) where
    action_given : number ≡ 0 → (i : ℕ) → OneWord image other i → (w place : ℕ) → DifferAt g image other w place → Kind answer
        → (answer ≡ ReachAnswer.Action place) × (reach_number_of answer ≡ 0)
    action_given ok i one w place differ (declined off e) = absurd (off ok)
    action_given ok i one w place differ (one_outside on j word ne actions e) =
        (e ∙ ap ReachAnswer.Action (only_there g image other j w word (actions w) place differ), ap reach_number_of e)
    action_given ok i one w place differ (one_inside on j word is e) = absurd (never g image other j w word is place differ)
    action_given ok i one w place differ (not_one on none given) = absurd (none i one)

    none_given : number ≡ 0 → (i : ℕ) → OneWord image other i → ((w place : ℕ) → DifferAt g image other w place → ⊥) → Kind answer
        → (answer ≡ ReachAnswer.NoAction) × (reach_number_of answer ≡ 1)
    none_given ok i one none (declined off e) = absurd (off ok)
    none_given ok i one none (one_outside on j word ne actions e) = absurd (none 0 (data_place_of g j) (differ_there g image other j 0 word (actions 0)))
    none_given ok i one none (one_inside on j word is e) = (e, ap reach_number_of e)
    none_given ok i one none (not_one on not given) = absurd (not i one)

    words_given : number ≡ 0 → ((i : ℕ) → OneWord image other i → ⊥) → Kind answer
        → WordsGiven image other (bank_words_of g) answer × (reach_number_of answer ≡ 2)
    words_given ok none (declined off e) = absurd (off ok)
    words_given ok none (one_outside on j word ne actions e) = absurd (none j word)
    words_given ok none (one_inside on j word is e) = absurd (none j word)
    words_given ok none (not_one on not given) = (given, ap reach_number_of given.is)

  meets : Reaches g image other (reach_of g image other)
  unfolding reach_of lent_decline_up_to
  meets =
      record {
        declines = lent_meets g lengths 0;
        accepted = λ listed fits. rw (listed, fitted g lengths 0 fits);
        declined = λ off. rw (ne_eqb number 0 off);
        action = λ ok i one w place differ. action_given (reach_of g image other).answer ok i one w place differ kind;
        no_action = λ ok i one none. none_given (reach_of g image other).answer ok i one none kind;
        words = λ ok none. words_given (reach_of g image other).answer ok none kind;
      }

  -- ---- what it tells
  action : (place : ℕ) → (reach_of g image other).answer ≡ ReachAnswer.Action place → Found g image other place
  action place e = go kind
    where
      go : Kind (reach_of g image other).answer → Found g image other place
      go (declined off is) = let z : ◌≡◌ {A = ℕ} 0 1 = cc in absurd (omega arith)
      go (one_outside on i word ne actions is) = record { word = i; one = word; outside = ne; at = cc }
      go (one_inside on i word at is) = let z : ◌≡◌ {A = ℕ} 0 1 = cc in absurd (omega arith)
      go (not_one on none given) = let z : ◌≡◌ {A = ℕ} 0 1 = cc in absurd (omega arith)

  no_action : (reach_of g image other).answer ≡ ReachAnswer.NoAction → NotFound g image other
  no_action e = go kind
    where
      go : Kind (reach_of g image other).answer → NotFound g image other
      go (declined off is) = let z : ◌≡◌ {A = ℕ} 0 1 = cc in absurd (omega arith)
      go (one_outside on i word ne actions is) = let z : ◌≡◌ {A = ℕ} 0 1 = cc in absurd (omega arith)
      go (one_inside on i word at is) = record { word = i; one = word; inside = at }
      go (not_one on none given) = let z : ◌≡◌ {A = ℕ} 0 1 = cc in absurd (omega arith)

-- ---- and no other answer is as asked
-- only the answer beside a decline has number 3
one_declined : (answer : ReachAnswer) → reach_number_of answer ≡ 3 → answer ≡ ReachAnswer.Declined
one_declined (ReachAnswer.Action place) e = absurd (omega (arith, e))
one_declined ReachAnswer.NoAction e = absurd (omega (arith, e))
one_declined (ReachAnswer.Words difference) e = absurd (omega (arith, e))
one_declined ReachAnswer.Declined e = refl

-- one list of the words that differ, so one count, lowest and highest
same-words : (image other : List ℕ) (n : ℕ) (a b : ReachAnswer) → WordsGiven image other n a → WordsGiven image other n b → a ≡ b
same-words image other n a b p q =
    let list : p.words ≡ q.words = ascending_same (Differs image other) n p.words q.words p.means.differ q.means.differ in
    let count : p.difference.count ≡ q.difference.count = p.means.count ∙ ap length list ∙ sym q.means.count in
    let lowest : p.difference.lowest ≡ q.difference.lowest =
    p.means.lowest ∙ ap (λ (l : List ℕ). get_or l 0 0) list ∙ sym q.means.lowest in
    let highest : p.difference.highest ≡ q.difference.highest =
    p.means.highest ∙ ap (λ (l : List ℕ). get_or l (length l - 1) 0) list ∙ sym q.means.highest in
    p.is ∙ (λ i. ReachAnswer.Words (record { count = count i; lowest = lowest i; highest = highest i })) ∙ sym q.is

module _ (g : Geometry) (image other : List ℕ) (a : Reached) (p : Reaches g image other a) where
  same_number : number_of a.decline ≡ number g image other
  unfolding lent_decline_up_to
  same_number = go (in_range_of g) refl (lengths_fit_of g (lengths g image other) 0) refl
    where
      go : (s : Bool) → in_range_of g ≡ s → (t : Bool) → lengths_fit_of g (lengths g image other) 0 ≡ t → number_of a.decline ≡ number g image other
      go true listed true fits = p.accepted listed (fit g (lengths g image other) 0 fits) ∙ rw (listed, fits)
      go true listed false unfit = lent_fixes g (lengths g image other) 0 (number_of a.decline) p.declines (rw (listed, unfit))
      go false out t fits = lent_fixes g (lengths g image other) 0 (number_of a.decline) p.declines (rw out)

  same_answer : a.answer ≡ (reach_of g image other).answer
  same_answer = go (kind g image other)
    where
      go : Kind g image other (reach_of g image other).answer → a.answer ≡ (reach_of g image other).answer
      go (declined off e) = one_declined a.answer (p.declined (λ none. off (sym same_number ∙ none))) ∙ sym e
      go (one_outside on i word ne actions e) =
          (p.action (same_number ∙ on) i word 0 (data_place_of g i) (differ_there g image other i 0 word (actions 0))).0 ∙ sym e
      go (one_inside on i word is e) = (p.no_action (same_number ∙ on) i word (λ w. never g image other i w word is)).0 ∙ sym e
      go (not_one on none given) = same-words image other (bank_words_of g) _ _ (p.words (same_number ∙ on) none).0 given

  fixes : a ≡ reach_of g image other
  unfolding reach_of
  fixes = let decline = numbers.one a.decline (reach_decline_of g image other) same_number in λ i. record { decline = decline i; answer = same_answer i }

pub differing : Differing
differing =
    record {
      meets = meets;
      fixes = fixes;
      action = action;
      no_action = no_action;
      outside = λ g image other i w listed long too one. outside g image other i w one long too;
      inside = same_actions;
    }
