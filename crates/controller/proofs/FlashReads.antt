-- A flash read finds its word by the map, and waits where a step of the running operation, or any of NVMOP 7, lies in its bank. Assumes nothing.
use mathlib.Core.Path.{◌≡◌, refl, sym, ap, subst, ◌∙◌}
use Rattle.std.specs.Prelude.{Ok, Err}
use mathlib.Core.Bool.{Bool, true, false, not}
use mathlib.Core.List.{List, [], ◌∷◌}
use Prim.Native.Nat.{ℕ, zero, suc, ◌%◌, ◌*◌, ◌≤◌}
use native.Mathlib.Decide.{ℕ_discrete}
use native.Mathlib.Omega.{arith}
use lib.Dec.{eqb}
use lib.ListN.{length}
use borrow.Author.Tests.{not-false, eqb-true, eq-eqb, ne_eqb}
use Rattle.words.specs.Word.{pick}
use Rattle.words.specs.Quad.{word_at}
use Rattle.words.specs.declared.decline.Decline.{Decline}
use Rattle.words.specs.Decline.{Verdict, number_of, accepted_of, first_of}
use Rattle.words.proofs.Numbers.{numbers}
use Rattle.words.proofs.BitLaws.{true_not_false}
use Rattle.geometry.specs.declared.banks.Geometry.{Geometry}
use Rattle.geometry.specs.Banks.{in_range_of}
use Rattle.geometry.proofs.SizeLaws.{in-range}
use Rattle.map.specs.Windows.{locate_of, word_index_of, quad_index_of}
use Rattle.map.proofs.Mapped.{mapped}
use Rattle.device.specs.declared.record.Device.{Device}
use Rattle.device.specs.Record.{running, bfswap, pfswap, op_of}
use Rattle.device.specs.State.{State, bank_of, after}
use Rattle.common_declines.specs.CommonDecline.{common_decline_of, CommonDeclines}
use Rattle.common_declines.proofs.DeclineLaws.{usable, used, common_first, common_fixes}
use Rattle.flash.specs.Effect.{Runs, step_location_of}
use Rattle.flash.specs.Step.{step_of}
use Rattle.flash.specs.StepSentences.{StepPlace}
use Rattle.flash.proofs.AcceptedLaws.{runs}
use Rattle.flash.proofs.PlaceLaws.{con_is, wr_is, bfswap_is, pfswap_is, step_placed, one_place}
use Rattle.reads.specs.Read.{second_at_of, same, free_of, readable_of, flash_read_decline_of, stepped, steps_of, remaining_of, read_answer_of, ready_of}
use Rattle.reads.specs.Read.{word_read_of, Reading, reading, flash_read_of}
use Rattle.reads.proofs.AcceptedLaws.{read_ready}
use Rattle.reads.proofs.StepsLaws.{same_equal, equal_same, worked_on}
use Rattle.controller.specs.Controller.{Sound}
use Rattle.controller.specs.Controller.Operation.{step}
use Rattle.controller.specs.FlashReads.{At, Targets, Stalls, StepsTo, Readable, FlashReadSentences, FlashReadsFixed}
use Rattle.controller.specs.FlashReads.Targets.{quad, both}
use Rattle.controller.specs.FlashReads.StepsTo.{last, more}
use Rattle.controller.proofs.RunLaws.{run_sound}
use Rattle.controller.proofs.WaitLaws.{step-accepted, last_event, fewer}

-- ---- the word at an address
module _ (g : Geometry) (d : Device) (listed : in_range_of g ≡ true) (address : ℕ) where
  found : (locate_of g address).inside ≡ true → At g d address (second_at_of d (locate_of g address)) (word_index_of g (locate_of g address))
  found inside = rw (bfswap_is d, pfswap_is d) ((mapped g listed (bfswap d) (pfswap d)).found address inside)

  only : (second : Bool) (w : ℕ) → At g d address second w
      → ((locate_of g address).inside ≡ true) × ((second_at_of d (locate_of g address) ≡ second) × (word_index_of g (locate_of g address) ≡ w))
  only second w p = (mapped g listed (bfswap d) (pfswap d)).only address second w (rw (bfswap_is d, pfswap_is d) at p)

-- ---- the bank that the running operation targets
module _ (g : Geometry) (d : Device) (r : Runs g d) where
  targets : (second : Bool) → free_of g d second ≡ false → Targets g d second
  unfolding free_of
  targets second h = go (eqb (op_of d) 7) refl (rw (worked_on g d second h) at h)
    where
      go : (seven : Bool) → eqb (op_of d) 7 ≡ seven → pick seven false (not (same (second_at_of d (step_location_of g d)) second)) ≡ false → Targets g d second
      go true e k = both (rw (con_is d) (eqb-true (op_of d) 7 e))
      go false e k =
          let here : second_at_of d (step_location_of g d) ≡ second = same_equal _ second (not-false _ k) in
          quad _ (subst (λ (b : Bool). StepPlace g d b (4 * quad_index_of g (step_location_of g d))) here (step_placed g d r))

  targeted : (second : Bool) → running d ≡ true → Targets g d second → free_of g d second ≡ false
  unfolding free_of
  targeted second on (both e) = rw (on, eq-eqb (op_of d) 7 (rw (con_is d) at e))
  targeted second on (quad w p) = rw on (go (eqb (op_of d) 7))
    where
      go : (seven : Bool) → pick seven false (not (same (second_at_of d (step_location_of g d)) second)) ≡ false
      go true = refl
      go false = rw (sym (one_place g d r second w p).0) (ap not (equal_same second second refl))

-- ---- the steps of a read that waits
steps_to : (g : Geometry) (sram : List ℕ) → in_range_of g ≡ true → length sram ≤ 16384 → (n : ℕ) (s : State) → Sound g s → running s.device ≡ true
    → remaining_of g s.device ≤ n → StepsTo g sram (steps_of g sram n s).state s × ((steps_of g sram n s).event ≡ true)
unfolding steps_of
steps_to g sram listed short zero s sound on few =
    absurd (omega (arith, (runs g s.device (in-range g listed) sound.possible on).below, few))
steps_to g sram listed short (suc n) s sound on few =
    go (running (step_of g s sram).state.device) refl
    (λ e.
    steps_to g sram listed short n (step_of g s sram).state (run_sound g s sound (step sram ∷ []) (tt, tt)) e (fewer g sram listed short s sound on n few e))
  where
    t : State
    t = (step_of g s sram).state

    go : (b : Bool) → running (step_of g s sram).state.device ≡ b
        → (running (step_of g s sram).state.device ≡ true
        → StepsTo g sram (steps_of g sram n (step_of g s sram).state).state (step_of g s sram).state
        × ((steps_of g sram n (step_of g s sram).state).event ≡ true))
        → let w = pick b (steps_of g sram n (step_of g s sram).state) (stepped (step_of g s sram).state (step_of g s sram).event) in
        StepsTo g sram w.state s × (w.event ≡ true)
    go true e rest = let (steps, event) = rest e in (more s (wr_is t.device ∙ e) steps, event)
    go false e rest = (last s (wr_is t.device ∙ e) refl, last_event g s sram (step-accepted g s sram listed sound short on) on e)

-- they lead to one state
one_end : (g : Geometry) (sram : List ℕ) (t u s : State) → StepsTo g sram t s → StepsTo g sram u s → t ≡ u
one_end g sram t u s (last _ off e) (last _ off' e') = e ∙ sym e'
one_end g sram t u s (last _ off e) (more _ on q) = absurd (true_not_false (sym on ∙ off))
one_end g sram t u s (more _ on p) (last _ off e) = absurd (true_not_false (sym on ∙ off))
one_end g sram t u s (more _ on p) (more _ on' q) = one_end g sram t u (step_of g s sram).state p q

-- ---- what a read answers
abbrev pub lengths_of : State → List ℕ
lengths_of s = length s.one ∷ length s.two ∷ []

module _ (g : Geometry) (s : State) (sram : List ℕ) (address : ℕ) where
  abbrev own : Reading
  own = flash_read_of g s sram address

  abbrev number : ℕ
  number = number_of own.after.decline

  -- 1 to 3, and the address after them
  abbrev common : Verdict
  common = common_decline_of g s.device (lengths_of s) (length sram)

  abbrev pub addressed : Verdict
  addressed = pick (readable_of g address) (Ok tt) (Err Decline.Address)

  -- the number is that of the declines
  pub same_number : number ≡ number_of (first_of common addressed)
  unfolding flash_read_of flash_read_decline_of
  same_number = go (first_of common addressed) (accepted_of (first_of common addressed)) refl
    where
      go : (d : Verdict) (t : Bool) → accepted_of d ≡ t
          → number_of
          (pick t
          (let r = ready_of g s sram address in reading (after (Ok tt) r.state r.event) (word_read_of g r.state address))
          (reading (after d s false) 0)).after.decline
          ≡ number_of d
      go d true on = sym (eqb-true _ _ on)
      go d false off = refl

  accepted_read : number ≡ 0 → accepted_of (read_answer_of g s sram address) ≡ true
  unfolding flash_read_decline_of
  accepted_read h = eq-eqb _ _ (sym same_number ∙ h)

  declined_read : (number ≡ 0 → ⊥) → accepted_of (read_answer_of g s sram address) ≡ false
  unfolding flash_read_decline_of
  declined_read h = ne_eqb _ _ (λ e. h (same_number ∙ e))

  -- after 1 to 3 the address decides
  by_address : Readable g s sram → number ≡ number_of addressed
  by_address u = same_number ∙ rw (used g s.device (lengths_of s) (length sram) u)

  no_word : in_range_of g ≡ true → ((second : Bool) (w : ℕ) → At g s.device address second w → address % 4 ≡ 0 → ⊥) → readable_of g address ≡ false
  no_word listed off = go (locate_of g address).inside refl (eqb (address % 4) 0) refl
    where
      go : (a : Bool) → (locate_of g address).inside ≡ a → (b : Bool) → eqb (address % 4) 0 ≡ b → readable_of g address ≡ false
      go true ea true eb = absurd (off _ _ (found g s.device listed address ea) (eqb-true _ _ eb))
      go true ea false eb = rw (ea, eb)
      go false ea b eb = rw ea

  has_word : in_range_of g ≡ true → (second : Bool) (w : ℕ) → At g s.device address second w → address % 4 ≡ 0 → readable_of g address ≡ true
  has_word listed second w p aligned = let (inside, rest) = only g s.device listed address second w p in rw (inside, eq-eqb _ _ aligned)

  declined : (number ≡ 0 → ⊥) → (own.after.state ≡ s) × ((own.after.event ≡ false) × (own.word ≡ 0))
  unfolding flash_read_of
  declined h = rw (declined_read h) (refl, (refl, refl))

  listed_read : accepted_of (read_answer_of g s sram address) ≡ true → in_range_of g ≡ true
  listed_read ok = (read_ready g s.device _ _ _ address ok).0.lent.listed

  there : number ≡ 0 → own.word ≡ word_read_of g own.after.state address
  unfolding flash_read_of
  there h = rw (accepted_read h)

  word : number ≡ 0 → (second : Bool) (w : ℕ) → At g own.after.state.device address second w → own.word ≡ word_at (bank_of own.after.state second) w
  word h second w p = go (only g own.after.state.device (listed_read (accepted_read h)) address second w p).1
    where
      go : (second_at_of own.after.state.device (locate_of g address) ≡ second) × (word_index_of g (locate_of g address) ≡ w)
          → own.word ≡ word_at (bank_of own.after.state second) w
      go (bank, index) = there h ∙ rw (bank, index)

  -- ---- which reads wait
  abbrev read_second : Bool
  read_second = second_at_of s.device (locate_of g address)

  read_runs : accepted_of (read_answer_of g s sram address) ≡ true → running s.device ≡ true → Runs g s.device
  read_runs ok on = let (ready, inside) = read_ready g s.device _ _ _ address ok in runs g s.device ready.lent.range ready.possible on

  pub stalled : accepted_of (read_answer_of g s sram address) ≡ true → Stalls g s.device address → free_of g s.device read_second ≡ false
  stalled ok b =
      let on : running s.device ≡ true = sym (wr_is s.device) ∙ b.runs in
      let (inside, (bank, index)) = only g s.device (listed_read ok) address b.second b.word b.there in
      rw bank (targeted g s.device (read_runs ok on) b.second on b.target)

  pub stalls : accepted_of (read_answer_of g s sram address) ≡ true → free_of g s.device read_second ≡ false → Stalls g s.device address
  stalls ok busy =
      let on = worked_on g s.device read_second busy in
      let (ready, inside) = read_ready g s.device _ _ _ address ok in
      record {
        runs = wr_is s.device ∙ on;
        second = read_second;
        word = word_index_of g (locate_of g address);
        there = found g s.device ready.lent.listed address inside;
        target = targets g s.device (read_runs ok on) read_second busy;
      }

  kept : number ≡ 0 → (Stalls g s.device address → ⊥) → (own.after.state ≡ s) × (own.after.event ≡ false)
  unfolding flash_read_of
  kept h free = go (free_of g s.device read_second) refl
    where
      go : (f : Bool) → free_of g s.device read_second ≡ f → (own.after.state ≡ s) × (own.after.event ≡ false)
      go true e = rw (accepted_read h, e) (refl, refl)
      go false e = absurd (free (stalls (accepted_read h) e))

  waited : number ≡ 0 → Stalls g s.device address → StepsTo g sram own.after.state s × (own.after.event ≡ true)
  unfolding flash_read_of
  waited h b =
      let ok = accepted_read h in
      let (ready, inside) = read_ready g s.device _ _ _ address ok in
      let sound : Sound g s = record { possible = ready.possible; first = ready.lent.banks.0; other = ready.lent.banks.1.0 } in
      let on : running s.device ≡ true = sym (wr_is s.device) ∙ b.runs in
      rw (ok, stalled ok b) (steps_to g sram ready.lent.listed ready.lent.room (remaining_of g s.device) s sound on (omega arith))

  sentences : FlashReadSentences g s sram address own
  sentences =
      record {
        declines = subst (CommonDeclines g s.device (lengths_of s) (length sram)) (sym same_number)
            (common_first g s.device (lengths_of s) (length sram) addressed);
        no_address = λ u off. by_address u ∙ rw (no_word u.listed off);
        accepted = λ u second w p aligned. by_address u ∙ rw (has_word u.listed second w p aligned);
        declined = declined;
        word = word;
        kept = kept;
        waited = waited;
      }

  module _ (r : Reading) (m : FlashReadSentences g s sram address r) where
    one_number : number_of r.after.decline ≡ number
    one_number = go (accepted_of common) refl (locate_of g address).inside refl (ℕ_discrete (address % 4) 0)
      where
        u : accepted_of common ≡ true → Readable g s sram
        u = usable g s.device (lengths_of s) (length sram)

        unread : accepted_of common ≡ true → ((second : Bool) (w : ℕ) → At g s.device address second w → address % 4 ≡ 0 → ⊥)
            → number_of r.after.decline ≡ number
        unread on off = m.no_address (u on) off ∙ sym (sentences.no_address (u on) off)

        go : (t : Bool) → accepted_of common ≡ t → (f : Bool) → (locate_of g address).inside ≡ f → Dec (address % 4 ≡ 0)
            → number_of r.after.decline ≡ number
        go false off f e d =
            let fixed : (n : ℕ) → CommonDeclines g s.device (lengths_of s) (length sram) n → n ≡ number_of common =
            λ n c. common_fixes g s.device (lengths_of s) (length sram) n c off in
            fixed _ m.declines ∙ sym (fixed _ sentences.declines)
        go true on true e (yes aligned) =
            let p = found g s.device (u on).listed address e in
            m.accepted (u on) _ _ p aligned ∙ sym (sentences.accepted (u on) _ _ p aligned)
        go true on true e (no odd) = unread on (λ second w p aligned. odd aligned)
        go true on false e d =
            unread on (λ second w p aligned. true_not_false (sym (only g s.device (u on).listed address second w p).0 ∙ e))

    record Same : Type 0 where
      state : r.after.state ≡ own.after.state
      event : r.after.event ≡ own.after.event
      word : r.word ≡ own.word

    -- of reads that are not declined the word follows from the state
    answered : number_of r.after.decline ≡ 0 → r.after.state ≡ own.after.state → r.after.event ≡ own.after.event → Same
    answered h e event = record { state = e; event = event; word = word }
      where
        k : number ≡ 0
        k = sym one_number ∙ h

        t : State
        t = own.after.state

        bank : Bool
        bank = second_at_of t.device (locate_of g address)

        index : ℕ
        index = word_index_of g (locate_of g address)

        place : At g t.device address bank index
        place =
            let (ready, inside) = read_ready g s.device _ _ _ address (accepted_read k) in
            found g t.device ready.lent.listed address inside

        word : r.word ≡ own.word
        word =
            m.word h bank index (subst (λ (x : State). At g x.device address bank index) (sym e) place)
            ∙ ap (λ (x : State). word_at (bank_of x bank) index) e
            ∙ sym (sentences.word k bank index place)

    by_waiting : number_of r.after.decline ≡ 0 → (f : Bool) → free_of g s.device read_second ≡ f → Same
    by_waiting h false e =
        let k : number ≡ 0 = sym one_number ∙ h in
        let b = stalls (accepted_read k) e in
        let (steps, event) = m.waited h b in
        let (own-steps, own-event) = waited k b in
        answered h (one_end g sram _ _ s steps own-steps) (event ∙ sym own-event)
    by_waiting h true e =
        let k : number ≡ 0 = sym one_number ∙ h in
        let free : Stalls g s.device address → ⊥ = λ b. true_not_false (sym e ∙ stalled (accepted_read k) b) in
        let (state, event) = m.kept h free in
        let (own-state, own-event) = kept k free in
        answered h (state ∙ sym own-state) (event ∙ sym own-event)

    same_read : Same
    same_read = go (ℕ_discrete (number_of r.after.decline) 0)
      where
        go : Dec (number_of r.after.decline ≡ 0) → Same
        go (yes h) = by_waiting h (free_of g s.device read_second) refl
        go (no off) =
            let (state, (event, word)) = m.declined off in
            let (own-state, (own-event, own-word)) = declined (λ h. off (one_number ∙ h)) in
            record { state = state ∙ sym own-state; event = event ∙ sym own-event; word = word ∙ sym own-word }

    one_reading : r ≡ own
    one_reading =
        let decline = numbers.one r.after.decline own.after.decline one_number in
        λ i. reading (after (decline i) (same_read.state i) (same_read.event i)) (same_read.word i)

pub flash_reads_fixed : FlashReadsFixed
flash_reads_fixed = record { meets = sentences; fixes = one_reading }
