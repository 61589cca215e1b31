-- A call for a row is declined, says idle or serves one record: what it leaves in each case. Assumes nothing.
use Prim.Native.Nat.{ℕ, ◌<◌}
use mathlib.Core.Path.{◌≡◌, refl, sym, ap, ◌∙◌}
use mathlib.Core.Bool.{Bool, true, false}
use mathlib.Core.List.{List}
use native.Mathlib.Omega.{arith}
use lib.Dec.{ltb}
use lib.ListN.{length, set}
use lib.Seq.{set_out}
use borrow.Author.Tests.{ltb-true, eq-eqb}
use Rattle.words.specs.Decline.{Verdict, number_of, accepted_of}
use Rattle.words.proofs.BitLaws.{true_not_false}
use Rattle.geometry.specs.declared.banks.Geometry.{Geometry}
use Rattle.row_signs.specs.declared.sign.Sign.{Sign}
use Rattle.row_signs.specs.Signs.{no_sign, sign_at, queue_of}
use Rattle.row_judge.specs.Judge.{row_decline_of}
use Rattle.row_turn.specs.SignTurn.{sign_turning_of, turned_sign, turned_store}
use Rattle.row_choice.specs.Choice.{Known, served_of, waiters_of}
use Rattle.row_schedule.specs.Schedule.{Scheduling, scheduling, declined, idle, served_sign, known_of, serving_of, schedule_row_of}
use Rattle.row.specs.Row.{RowState, Call, scheduled_of, answer_of, after_of, turn_at}

-- what is known of a row when a call comes, and why the call is declined
abbrev pub known_at : Geometry → RowState → Call → Known
known_at g r c = known_of g c.k r.signs (length r.signs) r.queue r.last r.store c.image c.sram

abbrev pub decline_at : Geometry → RowState → Call → Verdict
decline_at g r c =
    row_decline_of g c.k r.signs (length r.signs) r.queue r.last (length r.store) (length c.image) (length c.sram)

pub record DeclinedCall (g : Geometry) (r : RowState) (c : Call) : Type 0 where
  pub refused : accepted_of (decline_at g r c) ≡ false
  pub decline : (answer_of g r c).decline ≡ number_of (decline_at g r c)
  pub idle : (answer_of g r c).idle ≡ false
  pub served : (answer_of g r c).served ≡ 0
  pub event : (answer_of g r c).event ≡ false
  pub after : after_of g r c ≡ r

pub record IdleCall (g : Geometry) (r : RowState) (c : Call) : Type 0 where
  pub accepted : accepted_of (decline_at g r c) ≡ true
  pub decline : (answer_of g r c).decline ≡ 0
  pub idle : (answer_of g r c).idle ≡ true
  pub served : (answer_of g r c).served ≡ 0
  pub event : (answer_of g r c).event ≡ false
  pub signs : (after_of g r c).signs ≡ r.signs
  pub queue : (after_of g r c).queue ≡ queue_of (waiters_of (known_at g r c))
  pub last : (after_of g r c).last ≡ r.last
  pub store : (after_of g r c).store ≡ r.store

pub record ServingCall (g : Geometry) (r : RowState) (c : Call) (x : ℕ) : Type 0 where
  pub accepted : accepted_of (decline_at g r c) ≡ true
  pub chosen : served_of (known_at g r c) ≡ x
  pub inside : x < length r.signs
  pub decline : (answer_of g r c).decline ≡ 0
  pub idle : (answer_of g r c).idle ≡ false
  pub served : (answer_of g r c).served ≡ x
  pub event : (answer_of g r c).event ≡ (turn_at g r c x).event
  pub signs : (after_of g r c).signs ≡ set r.signs x (turned_sign (sign_at r.signs x) (turn_at g r c x))
  pub queue : (after_of g r c).queue ≡ queue_of (waiters_of (known_at g r c))
  pub last : (after_of g r c).last ≡ x
  pub store : (after_of g r c).store ≡ turned_store r.store (sign_at r.signs x) (turn_at g r c x)

-- the row after what a call does
abbrev row_after : RowState → Scheduling → RowState
row_after r d = record { signs = set r.signs d.number d.sign; queue = d.answer.queue; last = d.answer.last; store = d.store }

module _ (g : Geometry) (r : RowState) (c : Call) where
  does_nothing : accepted_of (decline_at g r c) ≡ false
      → scheduled_of g r c ≡ scheduling (length r.signs) no_sign r.store (declined (decline_at g r c) r.queue r.last)
  unfolding schedule_row_of
  does_nothing h = rw h refl

  serves_nobody : accepted_of (decline_at g r c) ≡ true → ltb (served_of (known_at g r c)) (length r.signs) ≡ false
      → scheduled_of g r c ≡ scheduling (length r.signs) no_sign r.store (idle (queue_of (waiters_of (known_at g r c))) r.last)
  unfolding schedule_row_of serving_of
  serves_nobody h l = rw (h, l) refl

  serves_one : accepted_of (decline_at g r c) ≡ true → ltb (served_of (known_at g r c)) (length r.signs) ≡ true
      → scheduled_of g r c ≡ served_sign (served_of (known_at g r c))
      (sign_turning_of g r.store c.image c.sram (sign_at r.signs (served_of (known_at g r c)))) (queue_of (waiters_of (known_at g r c)))
  unfolding schedule_row_of serving_of
  serves_one h l = rw (h, l) refl

  kept : set r.signs (length r.signs) no_sign ≡ r.signs
  kept = set_out r.signs (length r.signs) no_sign (omega arith)

  declined_call : accepted_of (decline_at g r c) ≡ false → DeclinedCall g r c
  declined_call h =
      let is = does_nothing h in
      record {
        refused = h;
        decline = ap (λ (d : Scheduling). d.answer.decline) is;
        idle = ap (λ (d : Scheduling). d.answer.idle) is;
        served = ap (λ (d : Scheduling). d.answer.served) is;
        event = ap (λ (d : Scheduling). d.answer.event) is;
        after = ap (row_after r) is ∙ ap (λ (l : List Sign). record { signs = l; queue = r.queue; last = r.last; store = r.store }) kept;
      }

  pub idle_call : accepted_of (decline_at g r c) ≡ true → ltb (served_of (known_at g r c)) (length r.signs) ≡ false → IdleCall g r c
  idle_call h l =
      let is = serves_nobody h l in
      record {
        accepted = h;
        decline = ap (λ (d : Scheduling). d.answer.decline) is;
        idle = ap (λ (d : Scheduling). d.answer.idle) is;
        served = ap (λ (d : Scheduling). d.answer.served) is;
        event = ap (λ (d : Scheduling). d.answer.event) is;
        signs = ap (λ (d : Scheduling). (row_after r d).signs) is ∙ kept;
        queue = ap (λ (d : Scheduling). d.answer.queue) is;
        last = ap (λ (d : Scheduling). d.answer.last) is;
        store = ap (λ (d : Scheduling). d.store) is;
      }

  pub serving_call : accepted_of (decline_at g r c) ≡ true → ltb (served_of (known_at g r c)) (length r.signs) ≡ true
      → ServingCall g r c (served_of (known_at g r c))
  unfolding sign_turning_of
  serving_call h l =
      let is = serves_one h l in
      record {
        accepted = h;
        chosen = refl;
        inside = ltb-true (served_of (known_at g r c)) (length r.signs) l;
        decline = ap (λ (d : Scheduling). d.answer.decline) is;
        idle = ap (λ (d : Scheduling). d.answer.idle) is;
        served = ap (λ (d : Scheduling). d.answer.served) is;
        event = ap (λ (d : Scheduling). d.answer.event) is;
        signs = ap (λ (d : Scheduling). (row_after r d).signs) is;
        queue = ap (λ (d : Scheduling). d.answer.queue) is;
        last = ap (λ (d : Scheduling). d.answer.last) is;
        store = ap (λ (d : Scheduling). d.store) is;
      }

  -- what holds in the three cases holds
  pub by_cases : {P : Type 0} → (DeclinedCall g r c → P) → (IdleCall g r c → P) → ((x : ℕ) → ServingCall g r c x → P) → P
  by_cases {P} stopped nobody one = go (accepted_of (decline_at g r c)) refl (ltb (served_of (known_at g r c)) (length r.signs)) refl
    where
      go : (t : Bool) → accepted_of (decline_at g r c) ≡ t → (u : Bool) → ltb (served_of (known_at g r c)) (length r.signs) ≡ u → P
      go false h u l = stopped (declined_call h)
      go true h false l = nobody (idle_call h l)
      go true h true l = one (served_of (known_at g r c)) (serving_call h l)

  -- ---- a call that is not declined

  pub not_declined : {A : Type 0} → DeclinedCall g r c → (answer_of g r c).decline ≡ 0 → A
  not_declined d e = true_not_false (sym (eq-eqb (number_of (decline_at g r c)) 0 (sym d.decline ∙ e)) ∙ d.refused)

  pub queue_after : accepted_of (decline_at g r c) ≡ true → (after_of g r c).queue ≡ queue_of (waiters_of (known_at g r c))
  queue_after h = by_cases (λ d. true_not_false (sym h ∙ d.refused)) (λ i. i.queue) (λ x s. s.queue)
