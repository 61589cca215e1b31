-- A turn is declined by its own list of declines alone: an action that is not declined is carried out, since its store has a form of its
-- register and its step finds an operation running. So it leaves its position, or performs the action of its place and goes to the next.
-- Assumes nothing.
use mathlib.Core.Path.{◌≡◌, refl, sym, ap, ◌∙◌}
use Rattle.std.specs.Prelude.{Ok, Err}
use mathlib.Core.Bool.{Bool, true, false, ◌&&◌}
use mathlib.Core.List.{List, [], ◌∷◌}
use mathlib.Core.Logic.{◌⊎◌, inl, inr}
use Prim.Native.Nat.{ℕ, ◌≤◌, ◌<◌}
use native.Mathlib.Omega.{arith}
use lib.Dec.{eqb, ltb}
use lib.ListN.{length}
use borrow.Author.Tests.{eqb-true, eq-eqb, ltb-true, lt-ltb, le-ltb, ne_eqb}
use Rattle.words.specs.Word.{pick}
use Rattle.words.specs.declared.decline.Decline.{Decline}
use Rattle.words.specs.Decline.{Verdict, accepted_of}
use Rattle.words.proofs.DeclineLaws.{neither}
use Rattle.words.proofs.PickLaws.{pick_both}
use Rattle.words.proofs.BitLaws.{true_not_false}
use Rattle.geometry.specs.declared.banks.Geometry.{Geometry}
use Rattle.geometry.specs.Banks.{in_range_of, bank_words_of}
use Rattle.device.specs.declared.record.Device.{Device}
use Rattle.device.specs.Record.{running}
use Rattle.common_declines.specs.CommonDecline.{common_decline_of}
use Rattle.common_declines.proofs.CommonDeclineLaws.{Ready, ready, opens}
use Rattle.device.specs.Answer.{Answer}
use Rattle.register_access.specs.Store.{may_store_of, store_accepted_of, store_of}
use Rattle.register_access.proofs.AcceptedLaws.{store_carried}
use Rattle.flash.specs.Step.{step_of}
use Rattle.device.specs.State.{State, After}
use Rattle.controller.specs.Controller.{Operation, Keeps, Sound}
use Rattle.controller.proofs.Controller.{controller}
use Rattle.update.specs.declared.actions.Action.{Action}
use Rattle.update.specs.declared.actions.Action.TheVariants.{Store, Step}
use Rattle.update.specs.Actions.{total_of}
use Rattle.update.specs.Start.{lower_word_of}
use Rattle.update.specs.Turn.{next_action_of, action_decline_of, turn_decline_of, turning, perform_of, performed, Turning, Formed, turn_of, EveryTurn}
use Rattle.update.specs.PowerFail.{Position, at, turned_of}
use Rattle.update.proofs.FormLaws.{actions_formed, step_carried}

-- an action that is not declined
acts : (d : Device) (a : Action) → accepted_of (action_decline_of d a) ≡ true → action_decline_of d a ≡ Ok tt
acts d (Store r form value) h = go (may_store_of d r) h
  where
    go : (t : Bool) → accepted_of (pick t (Ok (tt {0})) (Err Decline.Running)) ≡ true → pick t (Ok (tt {0})) (Err Decline.Running) ≡ Ok (tt {0})
    go true h = refl
    go false h = true_not_false (sym h)
acts d Step h = go (running d) h
  where
    go : (t : Bool) → accepted_of (pick t (Ok (tt {0})) (Err Decline.Idle)) ≡ true → pick t (Ok (tt {0})) (Err Decline.Idle) ≡ Ok (tt {0})
    go true h = refl
    go false h = true_not_false (sym h)

module _ (g : Geometry) (s : State) (image sram : List ℕ) (place : ℕ) where
  abbrev lengths : List ℕ
  lengths = length s.one ∷ length s.two ∷ length image ∷ []

  -- the turn that performs its action
  abbrev performing : Turning
  performing = performed place (perform_of g s sram (next_action_of g s image place))

  abbrev Accepts : Type 0
  Accepts = accepted_of (turn_decline_of g s image (length sram) place) ≡ true

  -- what a turn tells that is not declined
  opened : Accepts → Ready g s.device lengths (length sram)
  unfolding turn_decline_of
  opened h = ready g s.device lengths (length sram) (neither (common_decline_of g s.device lengths (length sram)) _ h).0

  acting : Accepts → eqb place (total_of g) ≡ false → (place < total_of g) × (accepted_of (action_decline_of s.device (next_action_of g s image place)) ≡ true)
  unfolding turn_decline_of
  acting h e = go (ltb place (total_of g)) refl (rw e at (neither (common_decline_of g s.device lengths (length sram)) _ h).1)
    where
      go : (t : Bool) → ltb place (total_of g) ≡ t
          → accepted_of (pick t (action_decline_of s.device (next_action_of g s image place)) (Err Decline.Place)) ≡ true
          → (place < total_of g) × (accepted_of (action_decline_of s.device (next_action_of g s image place)) ≡ true)
      go true l k = (ltb-true place (total_of g) l, k)
      go false l k = true_not_false (sym k)

  -- its action is carried out
  carries : Ready g s.device lengths (length sram) → (a : Action) → Formed a → accepted_of (action_decline_of s.device a) ≡ true
      → (perform_of g s sram a).decline ≡ Ok tt
  unfolding store_accepted_of
  carries opened (Store r form value) ok h = go (may_store_of s.device r) refl h
    where
      go : (t : Bool) → may_store_of s.device r ≡ t → accepted_of (pick t (Ok tt) (Err Decline.Running)) ≡ true
          → (store_of g s.device r form value).decline ≡ Ok tt
      go true may h =
          ap (λ (a : Answer). a.decline) (store_carried g s.device r form value opened.lent.listed opened.possible ok may)
          ∙ pick_both (λ (a : Answer). a.decline ≡ Ok tt) (eqb r 0) refl refl
      go false may h = true_not_false (sym h)
  carries opened Step ok h = rest (running s.device) refl h
    where
      rest : (t : Bool) → running s.device ≡ t → accepted_of (pick t (Ok tt) (Err Decline.Idle)) ≡ true
          → (step_of g s sram).decline ≡ Ok tt
      rest true e h =
          let banks = opened.lent.banks in
          ap (λ (a : After). a.decline)
          (step_carried g s sram opened.lent.listed (record { possible = opened.possible; first = banks.0; other = banks.1.0 }) opened.lent.room e)
      rest false e h = true_not_false (sym h)

  accepts : Accepts → turn_decline_of g s image (length sram) place ≡ Ok tt
  unfolding turn_decline_of
  accepts h =
      let r = opened h in
      rw (opens g s.device lengths (length sram) r.lent.listed r.lent.banks r.lent.room r.possible) (go (eqb place (total_of g)) refl)
    where
      go : (t : Bool) → eqb place (total_of g) ≡ t
          → pick (ltb place (total_of g)) (action_decline_of s.device (next_action_of g s image place))
          (pick t (Ok tt) (Err Decline.Place)) ≡ Ok tt
      go true e = rw (le-ltb place (total_of g) (omega (arith, eqb-true place (total_of g) e)))
      go false e = let (below, ok) = acting h e in rw (lt-ltb place (total_of g) below, acts s.device (next_action_of g s image place) ok)

  -- declined it leaves its position
  turn_declined : accepted_of (turn_decline_of g s image (length sram) place) ≡ false → turned_of g image (at s place) sram ≡ at s place
  unfolding turn_of
  turn_declined h = rw h

  -- and it answers by its list of declines
  pub answers_so : (turn_of g s image sram place).decline ≡ turn_decline_of g s image (length sram) place
  unfolding turn_of
  answers_so = go (accepted_of (turn_decline_of g s image (length sram) place)) refl
    where
      decline : Verdict
      decline = turn_decline_of g s image (length sram) place

      go : (t : Bool) → accepted_of (turn_decline_of g s image (length sram) place) ≡ t
          → (pick t (pick (eqb place (total_of g)) (turning (Ok tt) true s place false) performing)
          (turning decline false s place false)).decline ≡ decline
      go true h = at_total (eqb place (total_of g)) refl ∙ sym (accepts h)
        where
          at_total : (t : Bool) → eqb place (total_of g) ≡ t
              → (pick t (turning (Ok tt) true s place false) performing).decline ≡ Ok tt
          at_total true e = refl
          at_total false e = carries (opened h) (next_action_of g s image place) (actions_formed g image (lower_word_of g s) place) (acting h e).1
      go false h = refl

  -- at the total nothing changes
  pub turn_done : place ≡ total_of g → turned_of g image (at s place) sram ≡ at s place
  unfolding turn_of
  turn_done e = go (accepted_of (turn_decline_of g s image (length sram) place))
    where
      go : (t : Bool)
          → let r = pick t (pick (eqb place (total_of g)) (turning (Ok tt) true s place false) performing)
          (turning (turn_decline_of g s image (length sram) place) false s place false) in at r.state r.place ≡ at s place
      go true = rw (eq-eqb place (total_of g) e)
      go false = refl

  -- an accepted turn before the total performs its action
  pub performs : place < total_of g → Accepts → turn_of g s image sram place ≡ performing
  unfolding turn_of
  performs l h = rw (h, ne_eqb place (total_of g) (λ e. omega arith))

  -- a turn leaves its position, or its SRAM is short and it performs its action
  pub turn_cases : place < total_of g
      → (turned_of g image (at s place) sram ≡ at s place)
      ⊎ ((length sram ≤ 16384) × (turned_of g image (at s place) sram ≡ at performing.state performing.place))
  turn_cases l = go (accepted_of (turn_decline_of g s image (length sram) place)) refl
    where
      go : (t : Bool) → accepted_of (turn_decline_of g s image (length sram) place) ≡ t
          → (turned_of g image (at s place) sram ≡ at s place)
          ⊎ ((length sram ≤ 16384) × (turned_of g image (at s place) sram ≡ at performing.state performing.place))
      go true h = inr ((opened h).lent.room, ap (λ (r : Turning). at r.state r.place) (performs l h))
      go false h = inl (turn_declined h)

  pub every_turn : EveryTurn g s image sram place
  unfolding turn_of
  every_turn =
      record {
        answer = answers_so;
        declined = λ h. apart (turn_declined (ap accepted_of (sym answers_so) ∙ h));
        done = rw answers_so (done (accepted_of (turn_decline_of g s image (length sram) place)) (eqb place (total_of g)));
        unchanged = λ e. apart (turn_done e);
        performs = λ h l. performs l (ap accepted_of (sym answers_so) ∙ h);
        raises = λ h l. ap (λ (r : Turning). r.place) (performs l (ap accepted_of (sym answers_so) ∙ h));
      }
    where
      apart : turned_of g image (at s place) sram ≡ at s place → ((turn_of g s image sram place).state ≡ s) × ((turn_of g s image sram place).place ≡ place)
      apart e = (ap (λ (p : Position). p.state) e, ap (λ (p : Position). p.place) e)

      done : (t u : Bool)
          → (pick t (pick u (turning (Ok tt) true s place false) performing)
          (turning (turn_decline_of g s image (length sram) place) false s place false)).done ≡ (t && u)
      done true true = refl
      done true false = refl
      done false u = refl

  -- ---- with a short SRAM a turn is declined for its action alone, and at the total for nothing
  module _ (listed : in_range_of g ≡ true) (sound : Sound g s) (long : length image ≡ bank_words_of g) (short : length sram ≤ 16384) where
    common : common_decline_of g s.device lengths (length sram) ≡ Ok tt
    common = opens g s.device lengths (length sram) listed (sound.first, (sound.other, (long, tt))) short sound.possible

    pub turn_answers : place < total_of g → accepted_of (action_decline_of s.device (next_action_of g s image place)) ≡ true
        → accepted_of (turn_of g s image sram place).decline ≡ true
    unfolding turn_decline_of
    turn_answers l ok = ap accepted_of answers_so ∙ rw (common, lt-ltb place (total_of g) l) ok

    pub total_answers : place ≡ total_of g → accepted_of (turn_of g s image sram place).decline ≡ true
    unfolding turn_decline_of
    total_answers e = ap accepted_of answers_so ∙ rw (common, le-ltb place (total_of g) (omega arith), eq-eqb place (total_of g) e)

-- ---- a turn is an operation of the controller, or none
keeps_same : (g : Geometry) (s : State) → Keeps g s s
keeps_same g s = record { long = λ second. refl; page = λ second n h. refl }

pub turn_keeps : (g : Geometry) (image : List ℕ) (p : Position) (sram : List ℕ) → Keeps g p.state (turned_of g image p sram).state
unfolding turn_of
turn_keeps g image p sram =
    pick_both (λ (t : Turning). Keeps g s t.state) (accepted_of (turn_decline_of g s image (length sram) p.place))
    (pick_both (λ (t : Turning). Keeps g s t.state) (eqb p.place (total_of g)) (keeps_same g s) (action (next_action_of g s image p.place)))
    (keeps_same g s)
  where
    s : State
    s = p.state

    action : (a : Action) → Keeps g p.state (perform_of g p.state sram a).state
    action (Store r form value) = controller.keeps g p.state (Operation.store r form value)
    action Step = controller.keeps g p.state (Operation.step sram)
