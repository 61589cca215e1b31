-- A row whose signs are all in their updates: no call is declined, while a sign is unfinished each serves one, and the row stays so. Assumes nothing.
use Prim.Native.Nat.{ℕ, zero, suc, ◌+◌, ◌≤◌, ◌<◌}
use mathlib.Core.Path.{◌≡◌, refl, sym, ap, subst, ◌∙◌}
use mathlib.Core.Bool.{Bool, true, false}
use mathlib.Core.List.{List}
use mathlib.Core.Logic.{◌⊎◌, inl, inr}
use native.Mathlib.Decide.{ℕ_discrete}
use native.Mathlib.Omega.{arith}
use lib.ListN.{length, get_or, get_or-append}
use borrow.Author.Tests.{leb-true, lt-ltb, not-true}
use Rattle.words.specs.Decline.{accepted_of}
use Rattle.words.proofs.BitLaws.{true_not_false}
use Rattle.words.proofs.PickLaws.{and_both}
use Rattle.words.proofs.FirstLaws.{Some}
use Rattle.geometry.specs.declared.banks.Geometry.{Geometry}
use Rattle.geometry.specs.Lent.{most_sram}
use Rattle.device.specs.Record.{running}
use Rattle.update.specs.Actions.{total_of}
use Rattle.update.specs.PowerFail.{turned_of}
use Rattle.row_signs.specs.declared.sign.Sign.{Sign}
use Rattle.row_signs.specs.declared.queue.Queue.{Queue}
use Rattle.row_signs.specs.Signs.{sign_at, waiting_of, queue_of, waits_of}
use Rattle.row_judge.specs.Judge.{most, Judged}
use Rattle.row_judge.proofs.JudgeLaws.{judged_accepted}
use Rattle.row_turn.specs.SignTurn.{look_of}
use Rattle.row_choice.specs.Choice.{count_of, full_of, served_of, waiters_of}
use Rattle.row_choice.proofs.SoundLaws.{Sound, sound_length, waiters_sound}
use Rattle.row_choice.proofs.ServedLaws.{served_can}
use Rattle.row_schedule.proofs.WaiterLaws.{judged_sound}
use Rattle.row.specs.Row.{RowState, Call, answer_of, after_of, Waits}
use Rattle.row.specs.RowCut.{position_at}
use Rattle.row.proofs.CallLaws.{known_at, decline_at, ServingCall, serving_call, by_cases, queue_after}
use Rattle.row.proofs.SignLaws.{sign_turned, sign_kept, lengths, starts}
use Rattle.row.proofs.ServedLaws.{served, other_banks}
use Rattle.row.proofs.KnownLaws.{sets_is}
use Rattle.row.proofs.FairCalls.{waiting_is}
use Rattle.row.proofs.GoingLaws.{Going, going_turn, going_idle, going_can, going_done, going_raises}
use Rattle.row_choice.proofs.ProgressLaws.{Runs, somebody_served, waiters_wait}

-- a call with this image, K from 1 to 32 and at most 16,384 words of SRAM
pub record Good (image : List ℕ) (c : Call) : Type 0 where
  pub same : c.image ≡ image
  pub low : 0 < c.k
  pub high : c.k ≤ most
  pub short : length c.sram ≤ most_sram

pub record Underway (g : Geometry) (image : List ℕ) (r : RowState) : Type 0 where
  -- a call serves it
  pub judged : Judged g 1 r.signs (length r.signs) r.queue r.last (length r.store) (length image) 0
  -- turns of an accepted update led each sign where it is
  pub going : (j : ℕ) → j < length r.signs → Going g image (position_at g r j)
  -- those that wait have WR clear
  pub clear : (j : ℕ) → Waits r j → running (sign_at r.signs j).device ≡ false

-- ---- the same banks, with another K, SRAM, queue and last served

module _ (g : Geometry) (signs other : List Sign)
    (same : (j : ℕ) → ((sign_at other j).one ≡ (sign_at signs j).one) × ((sign_at other j).two ≡ (sign_at signs j).two)) where
  judged_on : (k : ℕ) (queue : Queue) (last sram n : ℕ) (before : Queue) (served store image : ℕ) → Judged g 1 signs n before served store image 0
      → (0 < k) × (k ≤ most) → sram ≤ most_sram → last < n → queue.count ≤ most → ((p : ℕ) → p < queue.count → get_or queue.numbers p 0 < n)
      → ((p q : ℕ) → p < q → q < queue.count → get_or queue.numbers p 0 ≡ get_or queue.numbers q 0 → ⊥)
      → Judged g k other n queue last store image sram
  judged_on k queue last sram n before served store image j ks short lasts count below differ =
      record {
        listed = j.listed;
        image_length = j.image_length;
        sram_room = short;
        n_low = j.n_low;
        n_high = j.n_high;
        k_low = ks.0;
        k_high = ks.1;
        last_below = lasts;
        count_high = count;
        entry_below = below;
        entries_differ = differ;
        one_lies = λ i l. rw (same i).0 (j.one_lies i l);
        two_lies = λ i l. rw (same i).1 (j.two_lies i l);
        own_apart = λ i l. rw ((same i).0, (same i).1) (j.own_apart i l);
        signs_apart =
            λ i h l m differs.
            let a = j.signs_apart i h l m differs in
            record {
              one_one = rw ((same i).0, (same h).0) a.one_one;
              one_two = rw ((same i).0, (same h).1) a.one_two;
              two_one = rw ((same i).1, (same h).0) a.two_one;
              two_two = rw ((same i).1, (same h).1) a.two_two;
            };
      }

-- a count that is not 0 counts one
count_some : (p : ℕ → Bool) (n : ℕ) → 0 < count_of p n → Some p n
count_some p zero l = absurd (omega (arith, l))
count_some p (suc n) l = go (p n) refl (count_some p n)
  where
    go : (t : Bool) → p n ≡ t → (0 < count_of p n → Some p n) → Some p (suc n)
    go true e earlier = record { number = n; below = omega arith; holds = e }
    go false e earlier =
        let same : count_of p (suc n) ≡ count_of p n = rw e (omega arith) in
        let s = earlier (rw same at l) in
        record { number = s.number; below = omega (arith, s.below); holds = s.holds }

-- ---- a call

module _ (g : Geometry) (image : List ℕ) (r : RowState) (u : Underway g image r) (c : Call) (good : Good image c) where
  pub accepted : accepted_of (decline_at g r c) ≡ true
  accepted =
      let j = u.judged in
      rw good.same
      (judged_accepted g c.k r.signs (length r.signs) r.queue r.last (length r.store) (length image) (length c.sram)
      (judged_on g r.signs r.signs (λ i. (refl, refl)) c.k r.queue r.last (length c.sram) (length r.signs) r.queue r.last
      (length r.store) (length image) j (good.low, good.high) good.short j.last_below j.count_high j.entry_below j.entries_differ))

  sound : Sound (waiting_of r.queue) (length r.signs)
  sound = judged_sound r.queue (length r.signs) u.judged.entry_below u.judged.entries_differ

  -- ---- somebody is served while a sign is unfinished

  can_so : (j : ℕ) → j < length r.signs → ((sign_at r.signs j).place ≡ total_of g → ⊥) → (known_at g r c).can j ≡ true
  unfolding look_of
  can_so j l unfinished = rw good.same (going_can g image (position_at g r j) (u.going j l) c.sram good.short unfinished)

  can_not : (j : ℕ) → j < length r.signs → (sign_at r.signs j).place ≡ total_of g → (known_at g r c).can j ≡ false
  unfolding look_of
  can_not j l e = rw good.same (going_done g image (position_at g r j) (u.going j l) c.sram good.short e)

  one_runs : full_of (known_at g r c) ≡ true → Runs (known_at g r c)
  one_runs full =
      let enough : c.k ≤ count_of (λ j. running (sign_at r.signs j).device) (length r.signs) = leb-true _ _ full in
      let s = count_some (λ j. running (sign_at r.signs j).device) (length r.signs) (omega (arith, enough, good.low)) in
      let x = s.number in
      record {
        number = x;
        below = s.below;
        can = can_so x s.below (λ e. true_not_false (sym s.holds ∙ going_idle g image (position_at g r x) (u.going x s.below) e));
        free = idle x s.holds (waits_of (waiting_of r.queue) x) refl;
        set = sets_is g r c x ∙ rw s.holds refl;
      }
    where
      idle : (x : ℕ) → running (sign_at r.signs x).device ≡ true → (t : Bool) → waits_of (waiting_of r.queue) x ≡ t
          → waits_of (waiting_of r.queue) x ≡ false
      idle x on false e = e
      idle x on true e = true_not_false (sym on ∙ u.clear x e)

  one_served : (j : ℕ) → j < length r.signs → ((sign_at r.signs j).place ≡ total_of g → ⊥) → ServingCall g r c (served_of (known_at g r c))
  one_served j l unfinished =
      let inside = somebody_served (known_at g r c) u.judged.last_below sound j l (can_so j l unfinished) one_runs in
      serving_call g r c accepted (lt-ltb (served_of (known_at g r c)) (length r.signs) inside)

  -- so an idle call finds all finished
  pub idle_done : (answer_of g r c).idle ≡ true → (j : ℕ) → j < length r.signs → (sign_at r.signs j).place ≡ total_of g
  idle_done idle j l = go (ℕ_discrete (sign_at r.signs j).place (total_of g))
    where
      go : Dec ((sign_at r.signs j).place ≡ total_of g) → (sign_at r.signs j).place ≡ total_of g
      go (yes e) = e
      go (no unfinished) = true_not_false (sym idle ∙ (one_served j l unfinished).idle)

  -- ---- the one that is served is unfinished, and its place rises by 1

  module _ (x : ℕ) (s : ServingCall g r c x) where
    pub was_unfinished : (sign_at r.signs x).place ≡ total_of g → ⊥
    was_unfinished e =
        let can : (known_at g r c).can x ≡ true = rw s.chosen at (served_can (known_at g r c) (rw s.chosen s.inside)) in
        true_not_false (sym can ∙ can_not x s.inside e)

    pub rises : (sign_at (after_of g r c).signs x).place ≡ (sign_at r.signs x).place + 1
    rises =
        ap (λ (sign : Sign). sign.place) (sign_turned g r c x s)
        ∙ rw good.same (going_raises g image (position_at g r x) (u.going x s.inside) c.sram good.short was_unfinished)

    turned : position_at g (after_of g r c) x ≡ turned_of g image (position_at g r x) c.sram
    turned =
        let (listed, (can, (sign, (last, state)))) = served g r c s.decline s.idle in
        subst (λ (y : ℕ). position_at g (after_of g r c) y ≡ turned_of g image (position_at g r y) c.sram) s.served
        (rw (state, ap (λ (s : Sign). s.place) sign, good.same) refl)

  -- ---- the row stays so

  sign_same : (j : ℕ) → (served_of (known_at g r c) < length r.signs → j ≡ served_of (known_at g r c) → ⊥)
      → sign_at (after_of g r c).signs j ≡ sign_at r.signs j
  sign_same j other =
      by_cases g r c
      (λ d. ap (λ (r : RowState). sign_at r.signs j) d.after)
      (λ i. ap (λ (l : List Sign). sign_at l j) i.signs)
      (λ x s. sign_kept g r c x s j (λ e. other (rw s.chosen s.inside) (e ∙ sym s.chosen)))

  moved : (j : ℕ) → j < length r.signs
      → (position_at g (after_of g r c) j ≡ position_at g r j) ⊎ (position_at g (after_of g r c) j ≡ turned_of g image (position_at g r j) c.sram)
  moved j l =
      by_cases g r c
      (λ d. inl (ap (λ (r : RowState). position_at g r j) d.after))
      (λ i. inl (rw (i.signs, i.store) refl))
      (λ x s. go x s (ℕ_discrete j x))
    where
      go : (x : ℕ) → ServingCall g r c x → Dec (j ≡ x)
          → (position_at g (after_of g r c) j ≡ position_at g r j) ⊎ (position_at g (after_of g r c) j ≡ turned_of g image (position_at g r j) c.sram)
      go x s (yes e) = inr (rw e (turned x s))
      go x s (no e) =
          let other : j ≡ (answer_of g r c).served → ⊥ = λ same. e (same ∙ s.served) in
          inl (rw (other_banks g r c s.decline j l other, sign_kept g r c x s j e) refl)

  going_on : (j : ℕ) → j < length r.signs → Going g image (position_at g (after_of g r c) j)
  going_on j l = go (moved j l)
    where
      go : (position_at g (after_of g r c) j ≡ position_at g r j) ⊎ (position_at g (after_of g r c) j ≡ turned_of g image (position_at g r j) c.sram)
          → Going g image (position_at g (after_of g r c) j)
      go (inl e) = subst (Going g image) (sym e) (u.going j l)
      go (inr e) = subst (Going g image) (sym e) (going_turn g image (position_at g r j) (u.going j l) c.sram)

  -- the queue and the last served after it
  queue_next : (after_of g r c).queue ≡ queue_of (waiters_of (known_at g r c))
  queue_next = queue_after g r c accepted

  last_next : (after_of g r c).last < length r.signs
  last_next =
      by_cases g r c (λ d. true_not_false (sym accepted ∙ d.refused))
      (λ i. rw i.last u.judged.last_below) (λ x s. rw s.last s.inside)

  was_clear : (j : ℕ) → (Waits r j) ⊎ ((known_at g r c).sets j ≡ true) → running (sign_at r.signs j).device ≡ false
  was_clear j (inl waits) = u.clear j waits
  was_clear j (inr sets) = not-true _ (and_both _ _ (sym (sets_is g r c j) ∙ sets)).0

  still_clear : (j : ℕ) → Waits (after_of g r c) j → running (sign_at (after_of g r c).signs j).device ≡ false
  still_clear j waits =
      let now : waits_of (waiters_of (known_at g r c)) j ≡ true =
      subst (λ (l : List ℕ). waits_of l j ≡ true) (ap waiting_of queue_next ∙ waiting_is (waiters_of (known_at g r c))) waits in
      let w = waiters_wait (known_at g r c) u.judged.last_below sound j now in
      ap (λ (sign : Sign). running sign.device) (sign_same j w.other) ∙ was_clear j w.either

  judged_next : Judged g 1 (after_of g r c).signs (length (after_of g r c).signs) (after_of g r c).queue (after_of g r c).last
      (length (after_of g r c).store) (length image) 0
  judged_next =
      let next = waiters_sound (known_at g r c) sound in
      let l = waiters_of (known_at g r c) in
      let few : length l ≤ 32 = omega (arith, sound_length l (length r.signs) next, u.judged.n_high) in
      rw ((lengths g r c).0, (lengths g r c).1, queue_next)
      (judged_on g r.signs (after_of g r c).signs (starts g r c) 1 (queue_of l) (after_of g r c).last 0 (length r.signs) r.queue r.last
      (length r.store) (length image) u.judged (omega arith, omega arith) (omega arith) last_next few
      (λ p inside. rw (get_or-append l _ 0 p inside) (next.below p inside))
      (λ p q less inside e.
      next.apart p q less inside (sym (get_or-append l _ 0 p (omega (arith, less, inside))) ∙ e ∙ get_or-append l _ 0 q inside)))

  pub underway_next : Underway g image (after_of g r c)
  underway_next =
      record {
        judged = judged_next;
        going = λ j l. going_on j (omega (arith, l, (lengths g r c).0));
        clear = still_clear;
      }
