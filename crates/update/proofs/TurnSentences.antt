-- A turn is judged by its place and by the action that the list has there, and does that action. Assumes nothing.
use Prim.Native.Nat.{ℕ, zero, suc, ◌+◌, ◌<◌}
use Rattle.std.specs.Prelude.{Ok, Err}
use mathlib.Core.Path.{◌≡◌, refl, sym, ap, subst, ◌∙◌}
use mathlib.Core.Bool.{Bool, true, false}
use mathlib.Core.List.{List, [], ◌∷◌}
use mathlib.Core.Logic.{inl, inr}
use native.Mathlib.Decide.{ℕ_discrete, dec_lt}
use native.Mathlib.Omega.{arith}
use lib.Dec.{eqb, leb, ltb}
use lib.ListN.{length, get_or}
use borrow.Author.Tests.{eq-eqb, ne_eqb, lt-ltb, le-ltb, leb-true, le-leb}
use Rattle.words.specs.Word.{pick, bit}
use Rattle.words.specs.declared.decline.Decline.{Decline}
use Rattle.words.specs.Decline.{Verdict, number_of, accepted_of, first_of}
use Rattle.words.proofs.BitLaws.{true_not_false}
use Rattle.words.proofs.Numbers.{numbers}
use Rattle.words.proofs.PickLaws.{and_both}
use Rattle.geometry.specs.declared.banks.Geometry.{Geometry}
use Rattle.device.specs.Record.{register_of, running}
use Rattle.device.specs.State.{State}
use Rattle.common_declines.specs.CommonDecline.{common_decline_of, Usable, CommonDeclines}
use Rattle.common_declines.proofs.DeclineLaws.{usable, used, common_first, common_fixes}
use Rattle.register_access.specs.Store.{loads_of, may_store_of}
use Rattle.update.specs.declared.actions.Action.{Action}
use Rattle.update.specs.declared.actions.Action.TheVariants.{Store, Step}
use Rattle.update.specs.Actions.{actions_of, total_of}
use Rattle.update.specs.Start.{lower_word_of}
use Rattle.update.specs.Turn.{next_action_of, action_decline_of, turn_decline_of, Turning, turning, perform_of, performed, turn_of}
use Rattle.update.specs.TurnSentences.{listed_action, Passes, Done, TurnSentences, TurnsFixed}
use Rattle.update.proofs.ActionLaws.{action_listed}
use Rattle.update.proofs.StartSentences.{wr, lower_word}
use Rattle.update.proofs.TurnLaws.{answers_so, performs}

-- ---- a store that 5 lets pass
passes : (g : Geometry) (s : State) (r : ℕ) → may_store_of s.device r ≡ true → Passes s r
unfolding may_store_of
passes g s r h = go (running s.device) refl h
  where
    go : (t : Bool) → running s.device ≡ t → pick t (loads_of r) true ≡ true → Passes s r
    go true on k = let (low, high) = and_both (leb 2 r) (leb r 7) k in inr (leb-true 2 r low, leb-true r 7 high)
    go false off k = inl (wr g s ∙ off)

passed : (g : Geometry) (s : State) (r : ℕ) → Passes s r → may_store_of s.device r ≡ true
unfolding may_store_of
passed g s r (inl off) = rw (sym (wr g s) ∙ off)
passed g s r (inr (low, high)) = go (running s.device)
  where
    go : (t : Bool) → pick t (loads_of r) true ≡ true
    go true = rw (le-leb 2 r low, le-leb r 7 high)
    go false = refl

not_passed : (g : Geometry) (s : State) (r : ℕ) → (Passes s r → ⊥) → may_store_of s.device r ≡ false
not_passed g s r off = go (may_store_of s.device r) refl
  where
    go : (t : Bool) → may_store_of s.device r ≡ t → may_store_of s.device r ≡ false
    go true e = absurd (off (passes g s r e))
    go false e = e

module _ (g : Geometry) (s : State) (image sram : List ℕ) (place : ℕ) where
  abbrev lent : List ℕ
  lent = length s.one ∷ length s.two ∷ length image ∷ []

  abbrev Called : Type 0
  Called = Usable g s.device lent (length sram)

  abbrev own : Turning
  own = turn_of g s image sram place

  abbrev next : Action
  next = next_action_of g s image place

  abbrev tests : Verdict
  tests = pick (ltb place (total_of g)) (action_decline_of s.device next) (pick (eqb place (total_of g)) (Ok tt) (Err Decline.Place))

  same_number : number_of own.decline ≡ number_of (first_of (common_decline_of g s.device lent (length sram)) tests)
  unfolding turn_decline_of
  same_number = ap number_of (answers_so g s image sram place)

  by_tests : Called → number_of own.decline ≡ number_of tests
  by_tests u = same_number ∙ rw (used g s.device lent (length sram) u)

  by_action : Called → place < total_of g → number_of own.decline ≡ number_of (action_decline_of s.device next)
  by_action u l = by_tests u ∙ rw (lt-ltb place (total_of g) l)

  beyond : Called → total_of g < place → number_of own.decline ≡ 13
  beyond u l = by_tests u ∙ rw (le-ltb place (total_of g) (omega (arith, l)), ne_eqb place (total_of g) (λ e. omega (arith, l, e)))

  at_total : Called → place ≡ total_of g → number_of own.decline ≡ 0
  at_total u e = by_tests u ∙ rw (le-ltb place (total_of g) (omega (arith, e)), eq-eqb place (total_of g) e)

  accepts : number_of own.decline ≡ 0 → accepted_of (turn_decline_of g s image (length sram) place) ≡ true
  accepts h = eq-eqb _ _ (sym (ap number_of (answers_so g s image sram place)) ∙ h)

  says_done : Called → place ≡ total_of g
      → (number_of own.decline ≡ 0) × ((own.done ≡ true) × ((own.state ≡ s) × ((own.place ≡ place) × (own.event ≡ false))))
  unfolding turn_of
  says_done u e = (at_total u e, rw (accepts (at_total u e), eq-eqb place (total_of g) e) (refl, (refl, (refl, refl))))

  refused : (number_of own.decline ≡ 0 → ⊥) → (own.done ≡ false) × ((own.state ≡ s) × ((own.place ≡ place) × (own.event ≡ false)))
  unfolding turn_of
  refused off =
      let declined : accepted_of (turn_decline_of g s image (length sram) place) ≡ false =
      ne_eqb _ _ (λ e. off (ap number_of (answers_so g s image sram place) ∙ e)) in
      rw declined (refl, (refl, (refl, refl)))

  is_next : place < total_of g → next ≡ listed_action g s image place
  is_next l =
      action_listed g image (lower_word_of g s) place l ∙ ap (λ (w : ℕ). get_or (actions_of g image w) place Step) (sym (lower_word g s))

  -- an accepted turn before the total does its action
  does : place < total_of g → (a : Action) → listed_action g s image place ≡ a → number_of own.decline ≡ 0
      → own ≡ performed place (perform_of g s sram a)
  does l a e ok =
      performs g s image sram place l (accepts ok) ∙ ap (λ (b : Action). performed place (perform_of g s sram b)) (is_next l ∙ e)

  judged : Called → place < total_of g → (a : Action) → listed_action g s image place ≡ a
      → number_of own.decline ≡ number_of (action_decline_of s.device a)
  judged u l a e = by_action u l ∙ ap (λ (b : Action). number_of (action_decline_of s.device b)) (is_next l ∙ e)

  done_so : (t : State) (event : Bool) → (decline : Verdict) → number_of own.decline ≡ 0 → own ≡ turning decline false t (place + 1) event
      → Done t place own × (own.event ≡ event)
  done_so t event decline ok e = (
    record {
      accepted = ok;
      more = ap (λ (r : Turning). r.done) e;
      left = ap (λ (r : Turning). r.state) e;
      raised = ap (λ (r : Turning). r.place) e;
    },
    ap (λ (r : Turning). r.event) e,
  )

  store_number : Called → place < total_of g → (r form value : ℕ) → listed_action g s image place ≡ Store r form value → Passes s r
      → number_of own.decline ≡ 0
  store_number u l r form value e p = judged u l (Store r form value) e ∙ rw (passed g s r p)

  step_number : Called → place < total_of g → listed_action g s image place ≡ Step → bit 15 (register_of s.device 0) ≡ true
      → number_of own.decline ≡ 0
  step_number u l e on = judged u l Step e ∙ rw (sym (wr g s) ∙ on)

  sentences : TurnSentences g s image sram place own
  unfolding total_of
  sentences =
      record {
        declines = subst (CommonDeclines g s.device lent (length sram)) (sym same_number) (common_first g s.device lent (length sram) tests);
        beyond = beyond;
        done = says_done;
        no_store = λ u l r form value e off. judged u l (Store r form value) e ∙ rw (not_passed g s r off);
        no_step = λ u l e off. judged u l Step e ∙ rw (sym (wr g s) ∙ off);
        declined = refused;
        stores = λ u l r form value e p.
            let ok = store_number u l r form value e p in done_so _ _ _ ok (does l (Store r form value) e ok);
        steps = λ u l e on. let ok = step_number u l e on in done_so _ _ _ ok (does l Step e ok);
      }

  module _ (a : Turning) (m : TurnSentences g s image sram place a) where
    alike : number_of a.decline ≡ number_of own.decline → a.done ≡ own.done → a.state ≡ own.state → a.place ≡ own.place
        → a.event ≡ own.event → a ≡ own
    alike number done st pl event =
        let decline = numbers.one a.decline own.decline number in
        λ i. record { decline = decline i; done = done i; state = st i; place = pl i; event = event i }

    both_refused : (k : ℕ) → 0 < k → number_of a.decline ≡ k → number_of own.decline ≡ k → a ≡ own
    both_refused k positive x y =
        let (done, (st, (pl, event))) = m.declined (λ h. omega (arith, positive, sym x ∙ h)) in
        let (own-done, (own-st, (own-pl, own-event))) = refused (λ h. omega (arith, positive, sym y ∙ h)) in
        alike (x ∙ sym y) (done ∙ sym own-done) (st ∙ sym own-st) (pl ∙ sym own-pl) (event ∙ sym own-event)

    both_done : (t : State) (event : Bool) → Done t place a × (a.event ≡ event) → Done t place own × (own.event ≡ event) → a ≡ own
    both_done t event (x, ex) (y, ey) =
        alike (x.accepted ∙ sym y.accepted) (x.more ∙ sym y.more) (x.left ∙ sym y.left) (x.raised ∙ sym y.raised) (ex ∙ sym ey)

    by_listed : Called → place < total_of g → (b : Action) → listed_action g s image place ≡ b → a ≡ own
    unfolding total_of
    by_listed u l (Store r form value) e = go (may_store_of s.device r) refl
      where
        go : (t : Bool) → may_store_of s.device r ≡ t → a ≡ own
        go true may =
            let p = passes g s r may in
            both_done _ _ (m.stores u l r form value e p) (sentences.stores u l r form value e p)
        go false may =
            let off : Passes s r → ⊥ = λ p. true_not_false (sym (passed g s r p) ∙ may) in
            both_refused 5 (omega arith) (m.no_store u l r form value e off) (sentences.no_store u l r form value e off)
    by_listed u l Step e = go (bit 15 (register_of s.device 0)) refl
      where
        go : (t : Bool) → bit 15 (register_of s.device 0) ≡ t → a ≡ own
        go true on = both_done _ _ (m.steps u l e on) (sentences.steps u l e on)
        go false off = both_refused 6 (omega arith) (m.no_step u l e off) (sentences.no_step u l e off)

    by_place : Called → Dec (place < total_of g) → Dec (place ≡ total_of g) → a ≡ own
    unfolding total_of
    by_place u (yes l) d = by_listed u l (listed_action g s image place) refl
    by_place u (no l) (yes e) =
        let (number, (done, (st, (pl, event)))) = m.done u e in
        let (own_number, (own-done, (own-st, (own-pl, own-event)))) = says_done u e in
        alike (number ∙ sym own_number) (done ∙ sym own-done) (st ∙ sym own-st) (pl ∙ sym own-pl) (event ∙ sym own-event)
    by_place u (no l) (no ne) =
        let above : total_of g < place = omega (arith, l, ne) in
        both_refused 13 (omega arith) (m.beyond u above) (beyond u above)

    one_turn : a ≡ own
    one_turn = go (accepted_of (common_decline_of g s.device lent (length sram))) refl
      where
        positive : (k : ℕ) → eqb k 0 ≡ false → 0 < k
        positive zero e = absurd (true_not_false e)
        positive (suc k) e = omega arith

        go : (t : Bool) → accepted_of (common_decline_of g s.device lent (length sram)) ≡ t → a ≡ own
        go true on = by_place (usable g s.device lent (length sram) on) (dec_lt place (total_of g)) (ℕ_discrete place (total_of g))
        go false off =
            let first = common_fixes g s.device lent (length sram) _ m.declines off in
            let second = common_fixes g s.device lent (length sram) _ sentences.declines off in
            both_refused _ (positive _ off) first second

pub turns_fixed : TurnsFixed
turns_fixed = record { meets = sentences; fixes = one_turn }
