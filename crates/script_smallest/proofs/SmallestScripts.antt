-- What the call leaves, and all that is promised of it. Assumes nothing.
use Prim.Native.Nat.{ℕ, ◌*◌, ◌-◌, ◌%◌, ◌<◌}
use Rattle.std.specs.Prelude.{Ok, Err}
use mathlib.Core.Path.{◌≡◌, refl, sym, ap, subst, ◌∙◌}
use mathlib.Core.Bool.{Bool, true, false, not}
use mathlib.Core.List.{List, ◌++◌}
use mathlib.Core.Logic.{inl, inr, ⊎_elim}
use native.Mathlib.Decide.{ℕ_discrete, dec_lt}
use native.Mathlib.Omega.{arith}
use lib.Dec.{eqb}
use lib.ListN.{length, take, drop, replicate, length-append, length-replicate, length-take, take-append-drop}
use lib.Seq.{take_at, drop_at}
use borrow.Author.Tests.{eqb-true, eq-eqb}
use Rattle.words.specs.Word.{pick}
use Rattle.words.proofs.BitLaws.{true_not_false}
use Rattle.words.proofs.PickLaws.{and_both}
use Rattle.words.specs.declared.decline.Decline.{Decline}
use Rattle.words.specs.Decline.{Verdict, number_of, accepted_of}
use Rattle.words.proofs.Numbers.{numbers}
use Rattle.geometry.specs.declared.banks.Geometry.{Geometry}
use Rattle.geometry.proofs.FitLaws.{lent_fixes}
use Rattle.device.specs.State.{State}
use Rattle.common_declines.specs.Possible.{possible_of}
use Rattle.script_format.specs.Records.{records_of, is_script_of}
use Rattle.script_smallest.specs.Smallest.{shows_of, smallest_script_of, unplayed_decline_of, Smallest, answer, with_zeros, searched_of, smallest_of}
use Rattle.script_smallest.specs.SmallestScripts.{Gives, Shown, lent_of, Playable, Declines, Leaves, Answers, SmallestScripts}
use Rattle.script_smallest.proofs.WithoutLaws.{without}
use Rattle.script_smallest.proofs.DropLaws.{one_result}
use Rattle.script_smallest.proofs.SearchLaws.{opened, smallest_shorter}
use Rattle.script_smallest.proofs.ShowLaws.{shows_gives, gives_shows}
use Rattle.script_smallest.proofs.ShownLaws.{shown}
use Rattle.script_smallest.proofs.Examples.{four, five, six}
use Rattle.script_smallest.proofs.AnswerLaws.{one_of_six, declines}

-- ---- 21 is given by a play alone

before_play : (g : Geometry) (s : State) (sram : ℕ) (x : List ℕ) (one two result : ℕ) → number_of (unplayed_decline_of g s sram x one two result) ≡ 21 → ⊥
before_play g s sram x one two result =
    one_of_six (λ (d : Verdict). number_of d ≡ 21 → ⊥) g s sram x one two result (λ e. omega arith) (λ e. omega arith) (λ e. omega arith) (λ e. omega arith)
    (λ e. omega arith) (λ e. omega arith)

module _ (g : Geometry) (sram : List ℕ) (s : State) (x : List ℕ) (number : ℕ) (one two result : List ℕ) where
  abbrev unplayed : Verdict
  unplayed = unplayed_decline_of g s (length sram) x (length one) (length two) (length result)

  abbrev smallest : List ℕ
  smallest = smallest_script_of g sram s number x

  -- a number that is shown is not 0
  not_zero : shows_of g sram s number x ≡ true → number ≡ 0 → ⊥
  unfolding shows_of
  not_zero h e = true_not_false (sym (and_both (not (eqb number 0)) _ h).0 ∙ ap not (eq-eqb number 0 e))

  -- ---- the result in front of its buffer, zeros after it

  module _ (accepted : accepted_of unplayed ≡ true) (shows : shows_of g sram s number x ≡ true) where
    result_shown : Shown g sram s x number smallest
    result_shown = shown g sram s number x (opened _ _ _ _ _ _ _ accepted).known (not_zero shows) shows

    whole : length smallest ≡ 8 * records_of smallest
    unfolding is_script_of
    whole =
        let records : length smallest % 8 ≡ 0 = eqb-true _ _ (and_both (eqb (length smallest % 8) 0) _ result_shown.is-script).0 in
        omega (arith, records)

    found : Leaves g sram s x number one two result (answer (Ok tt) (records_of smallest) s.one s.two (with_zeros smallest (length x)))
    found =
        record {
          long =
              λ on.
              length-append smallest (replicate (length x - length smallest) 0)
              ∙ omega (arith, length-replicate {A = ℕ} (length x - length smallest) 0, smallest_shorter g sram s number x);
          count = λ on. omega (arith, whole, smallest_shorter g sram s number x);
          shown =
              λ on.
              subst (λ (r : List ℕ). Shown g sram s x number r)
              (sym (take_at smallest (replicate (length x - length smallest) 0) (8 * records_of smallest) whole))
              result_shown;
          rest =
              λ on.
              drop_at smallest (replicate (length x - length smallest) 0) (8 * records_of smallest) whole
              ∙ ap (λ (n : ℕ). replicate (length x - n) 0) whole;
          scratch = λ why. (refl, refl);
          kept = λ off. absurd (true_not_false off);
          untouched = λ some other. absurd (some refl);
        }

  not_found : Leaves g sram s x number one two result (answer (Err Decline.NotShown) 0 s.one s.two result)
  not_found =
      record {
        long = λ on. absurd (true_not_false (sym on));
        count = λ on. absurd (true_not_false (sym on));
        shown = λ on. absurd (true_not_false (sym on));
        rest = λ on. absurd (true_not_false (sym on));
        scratch = λ why. (refl, refl);
        kept = λ off. (refl, refl);
        untouched = λ some other. absurd (other refl);
      }

  declined : accepted_of unplayed ≡ false → Leaves g sram s x number one two result (answer unplayed 0 one two result)
  declined off =
      record {
        long = λ on. absurd (true_not_false (sym on ∙ off));
        count = λ on. absurd (true_not_false (sym on ∙ off));
        shown = λ on. absurd (true_not_false (sym on ∙ off));
        rest = λ on. absurd (true_not_false (sym on ∙ off));
        scratch =
            λ why.
            absurd (⊎_elim (λ zero. true_not_false (sym (eq-eqb (number_of unplayed) 0 zero) ∙ off))
            (before_play g s (length sram) x (length one) (length two) (length result)) why);
        kept = λ off. (refl, refl);
        untouched = λ some other. (refl, refl);
      }

  leaves : Leaves g sram s x number one two result (smallest_of g sram s x number one two result)
  unfolding smallest_of searched_of
  leaves = go (accepted_of unplayed) refl (shows_of g sram s number x) refl
    where
      go : (t : Bool) → accepted_of unplayed ≡ t → (v : Bool) → shows_of g sram s number x ≡ v
          → Leaves g sram s x number one two result
          (pick t
          (pick v (answer (Ok tt) (records_of smallest) s.one s.two (with_zeros smallest (length x)))
          (answer (Err Decline.NotShown) 0 s.one s.two result))
          (answer unplayed 0 one two result))
      go true et true ev = found et ev
      go true et false ev = not_found
      go false et v ev = declined et

  abbrev own : Smallest
  own = smallest_of g sram s x number one two result

  answers : Answers g sram s x number one two result own
  answers = record { declines = declines g sram s x number one two result; leaves = leaves }

  -- ---- nothing else is as asked
  module _ (a : Smallest) (m : Answers g sram s x number one two result a) where
    -- one number, by the tests in their order
    same_number : number_of a.decline ≡ number_of own.decline
    same_number =
        go (accepted_of (lent_of g sram s one two)) refl (ℕ_discrete (length result) (length x)) (possible_of g s.device) refl (is_script_of x) refl
      where
        d : Declines g sram s x number one two result a
        d = m.declines

        e : Declines g sram s x number one two result own
        e = answers.declines

        played : Playable g sram s x one two result → (t : Bool) → shows_of g sram s number x ≡ t → number_of a.decline ≡ number_of own.decline
        played p true shows =
            let gives = shows_gives g sram s number x shows in
            d.accepted p (not_zero shows) gives ∙ sym (e.accepted p (not_zero shows) gives)
        played p false hides = never (ℕ_discrete number 0)
          where
            never : Dec (number ≡ 0) → number_of a.decline ≡ number_of own.decline
            never (yes zero) = d.never p (inl zero) ∙ sym (e.never p (inl zero))
            never (no some) =
                let none : Gives g sram s x number → ⊥ = λ gives. true_not_false (sym (gives_shows g sram s number x some gives) ∙ hides) in
                d.never p (inr none) ∙ sym (e.never p (inr none))

        counted : accepted_of (lent_of g sram s one two) ≡ true → length result ≡ length x → possible_of g s.device ≡ true → is_script_of x ≡ true
            → Dec (64 < records_of x) → number_of a.decline ≡ number_of own.decline
        counted lent buffer can known (yes many) = d.records lent buffer can known many ∙ sym (e.records lent buffer can known many)
        counted lent buffer can known (no few) =
            played (record { lent = lent; buffer = buffer; device = can; script = known; few = omega (arith, few) }) (shows_of g sram s number x) refl

        go : (t : Bool) → accepted_of (lent_of g sram s one two) ≡ t → Dec (length result ≡ length x) → (u : Bool) → possible_of g s.device ≡ u
            → (v : Bool) → is_script_of x ≡ v → number_of a.decline ≡ number_of own.decline
        go false off r u eu v ev = lent_fixes g _ _ _ d.lent off ∙ sym (lent_fixes g _ _ _ e.lent off)
        go true lent (no differs) u eu v ev = d.buffer lent differs ∙ sym (e.buffer lent differs)
        go true lent (yes same) false eu v ev = d.device lent same eu ∙ sym (e.device lent same eu)
        go true lent (yes same) true eu false ev = d.no_script lent same eu ev ∙ sym (e.no_script lent same eu ev)
        go true lent (yes same) true eu true ev = counted lent same eu ev (dec_lt 64 (records_of x))

    same_decline : a.decline ≡ own.decline
    same_decline = numbers.one a.decline own.decline same_number

    -- what is left of an accepted call: the result, its records and zeros
    record Same : Type 0 where
      records : a.records ≡ own.records
      first : a.scratch_one ≡ own.scratch_one
      other : a.scratch_two ≡ own.scratch_two
      bytes : a.result ≡ own.result

    abbrev l : Leaves g sram s x number one two result a
    l = m.leaves

    abbrev k : Leaves g sram s x number one two result own
    k = answers.leaves

    accepted_same : accepted_of a.decline ≡ true → Same
    accepted_same on =
        let also : accepted_of own.decline ≡ true = ap accepted_of (sym same_decline) ∙ on in
        let front = one_result g sram s number x _ _ (l.shown on).drops (k.shown also).drops in
        let size : (b : Smallest) (n : Leaves g sram s x number one two result b) → accepted_of b.decline ≡ true
        → length (take (8 * b.records) b.result) ≡ 8 * b.records
        = λ b n ok. omega (arith, length-take (8 * b.records) b.result, n.long ok, n.count ok) in
        let records : a.records ≡ own.records = omega (arith, size a l on, size own k also, ap length front) in
        let (first, other) = l.scratch (inl (eqb-true _ _ on)) in
        let (one-too, two-too) = k.scratch (inl (eqb-true _ _ also)) in
        let zeros : drop (8 * a.records) a.result ≡ drop (8 * own.records) own.result =
        l.rest on ∙ ap (λ (n : ℕ). replicate (length x - 8 * n) 0) records ∙ sym (k.rest also) in
        record {
          records = records;
          first = first ∙ sym one-too;
          other = other ∙ sym two-too;
          bytes = sym (take-append-drop (8 * a.records) a.result) ∙ (λ i. front i ++ zeros i) ∙ take-append-drop (8 * own.records) own.result;
        }

    declined_same : accepted_of a.decline ≡ false → Same
    declined_same off =
        let also : accepted_of own.decline ≡ false = ap accepted_of (sym same_decline) ∙ off in
        let (bytes, none) = l.kept off in
        let (kept, zero) = k.kept also in
        let (first, other) = scratch (ℕ_discrete (number_of a.decline) 21) in
        record { records = none ∙ sym zero; first = first; other = other; bytes = bytes ∙ sym kept }
      where
        some : number_of a.decline ≡ 0 → ⊥
        some e = true_not_false (sym (eq-eqb _ _ e) ∙ off)

        scratch : Dec (number_of a.decline ≡ 21) → (a.scratch_one ≡ own.scratch_one) × (a.scratch_two ≡ own.scratch_two)
        scratch (yes shown) =
            let (first, other) = l.scratch (inr shown) in
            let (one-too, two-too) = k.scratch (inr (sym same_number ∙ shown)) in
            (first ∙ sym one-too, other ∙ sym two-too)
        scratch (no other) =
            let (first, second) = l.untouched some other in
            let (one-too, two-too) = k.untouched (λ e. some (same_number ∙ e)) (λ e. other (same_number ∙ e)) in
            (first ∙ sym one-too, second ∙ sym two-too)

    one_answer : a ≡ own
    one_answer = by_decline (accepted_of a.decline) refl
      where
        all : Same → a ≡ own
        all same = λ i. answer (same_decline i) (same.records i) (same.first i) (same.other i) (same.bytes i)

        by_decline : (t : Bool) → accepted_of a.decline ≡ t → a ≡ own
        by_decline true on = all (accepted_same on)
        by_decline false off = all (declined_same off)

pub smallest_scripts : SmallestScripts
smallest_scripts = record { without = without; one_result = one_result; meets = answers; fixes = one_answer; four = four; five = five; six = six }
