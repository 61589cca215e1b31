-- A store's number is that of its first decline. NVMCON takes bit by bit and launches case by case, the other registers take bit by bit; so
-- any answer that is as asked agrees with the definition's in every number and every bit. Assumes nothing.
use mathlib.Core.Path.{◌≡◌, refl, sym, subst, ◌∙◌}
use mathlib.Core.Bool.{Bool, true, false}
use mathlib.Core.List.{[]}
use mathlib.Core.Logic.{inl, inr}
use Prim.Native.Nat.{ℕ, ◌<◌}
use native.Mathlib.Decide.{ℕ_discrete}
use native.Mathlib.Omega.{arith}
use lib.Dec.{eqb, leb, ltb}
use lib.ListN.{length}
use borrow.Author.Tests.{eq-eqb, ne_eqb, eqb-true, le-ltb, ltb-false, le-leb, leb-true}
use Rattle.words.specs.Word.{pick, bit}
use Rattle.words.specs.Decline.{number_of, accepted_of}
use Rattle.words.proofs.BitLaws.{true_not_false, has_bit, equal_by_bits}
use Rattle.words.proofs.PickLaws.{and_both, pick_both, pick_each, pick_same, never_true}
use Rattle.words.proofs.Numbers.{numbers}
use Rattle.geometry.specs.declared.banks.Geometry.{Geometry}
use Rattle.geometry.specs.Banks.{in_range_of}
use Rattle.device.specs.declared.record.Device.{Device}
use Rattle.device.specs.Answer.{Answer}
use Rattle.device.specs.Record.{register_of, running}
use Rattle.device.specs.ByNumber.{launched_of, FourWords}
use Rattle.device.proofs.ByNumber.{known_by_numbers}
use Rattle.common_declines.specs.CommonDecline.{common_decline_of, CommonDeclines}
use Rattle.common_declines.proofs.DeclineLaws.{usable, used, common_first, common_fixes}
use Rattle.register_fields.specs.Fields.{wanted_of, key_next_of}
use Rattle.register_fields.proofs.KeyLaws.{key_out}
use Rattle.register_fields.proofs.TakesLaws.{wanted_bit_lem}
use Rattle.launch.specs.Launch.{launched}
use Rattle.launch.specs.ConStore.{launches_of, taken_of, con_store_of}
use Rattle.launch.proofs.LaunchLaws.{store_launches, store_quiet, store_operands}
use Rattle.register_access.specs.Store.{has_form_of, loads_of, may_store_of, store_decline_of, applied_of, accepted, store_accepted_of, store_of}
use Rattle.register_access.specs.StoreSentences.{wanted_bit, takes, HasForm, MayStore, LaunchingStore, Launch, StoreSentences, StoresFixed}
use Rattle.register_access.proofs.AcceptedLaws.{store_ready}
use Rattle.register_access.proofs.AppliedLaws.{applied_four, applied_bit, applied_other}
use Rattle.register_access.proofs.LaunchSentences.{stored_bit_lem, launching, launching_by, launches_or_not, launched_store, same_launch}

-- ---- what an accepted store leaves
record Left (g : Geometry) (d : Device) (r form value : ℕ) (a : Answer) : Type 0 where
  four : FourWords a.device
  bits : (LaunchingStore d r form value → ⊥)
      → (k : ℕ) → bit k (register_of a.device r) ≡ pick (takes d r k) (wanted_bit form (register_of d r) value k) (bit k (register_of d r))
  others : (q : ℕ) → q < 11 → (q ≡ r → ⊥) → register_of a.device q ≡ register_of d q
  quiet : (LaunchingStore d r form value → ⊥) → (a.event ≡ false) × ((q : ℕ) → 1 < q → q < 8 → launched_of a.device q ≡ launched_of d q)
  launch : LaunchingStore d r form value → Launch g d form value a.device a.event
  key : r ≡ 1 → a.device.keystep ≡ key_next_of d.keystep (wanted_of form (register_of d r) value)
  shut : (r ≡ 1 → ⊥) → a.device.keystep ≡ 0
  step : a.device.step ≡ d.step

module _ (g : Geometry) (d : Device) (form value : ℕ) (four : FourWords d) where
  -- of NVMCON, and of another register
  con_left : in_range_of g ≡ true → Left g d 0 form value (store_accepted_of g d 0 form value)
  unfolding store_accepted_of register_of
  con_left listed =
      record {
        four =
            record {
              data_words = four.data_words;
              launched_words = store_operands g d v (λ o. length o.nvmdata ≡ 4) four.launched_words four.data_words;
            };
        bits = λ none k. rw (no_launch none) (stored_bit_lem g d form value k);
        others = λ q l other. rw (ne_eqb q 0 other);
        quiet = λ none. rw (no_launch none) (refl, λ q low high. refl);
        launch = λ h. rw (store_launches g d v (launching g d form value h)) (launched_store g d form value listed h.enabled);
        key = λ one. absurd (omega (arith, one));
        shut = λ other. refl;
        step = refl;
      }
    where
      v : ℕ
      v = wanted_of form d.nvmcon.0 value

      no_launch : (LaunchingStore d 0 form value → ⊥) → con_store_of g d v ≡ launched (taken_of d v).nvmcon.0 false d.launched
      no_launch none = store_quiet g d v (never_true (launches_of d v) (λ on. none (launching_by g d form value on)))

  other_left : (r : ℕ) → r < 11 → (r ≡ 0 → ⊥) → Left g d r form value (accepted (applied_of d r (wanted_of form (register_of d r) value)) false)
  unfolding applied_of
  other_left r l some =
      let v = wanted_of form (register_of d r) value in
      record {
        four = applied_four d v four r;
        bits = λ none k. applied_bit d v four k r l some ∙ rw (wanted_bit_lem form (register_of d r) value k);
        others = λ q. applied_other d v r q;
        quiet = λ none. (refl, λ q low high. refl);
        launch = λ h. absurd (some h.con);
        key = λ one. rw (eq-eqb r 1 one);
        shut = λ other. rw (ne_eqb r 1 other);
        step = refl;
      }

  left : (r : ℕ) → r < 11 → in_range_of g ≡ true → Left g d r form value (store_accepted_of g d r form value)
  unfolding store_accepted_of
  left r l listed = go (ℕ_discrete r 0)
    where
      go : Dec (r ≡ 0) → Left g d r form value (store_accepted_of g d r form value)
      go (yes e) = rw e (con_left listed)
      go (no n) = rw (ne_eqb r 0 n) (other_left r l n)

-- ---- the number of a store's answer: the tests of declines 4 and 5 as facts
is_formed : (r form : ℕ) → HasForm r form → has_form_of r form ≡ true
unfolding has_form_of
is_formed r form h = rw (le-ltb 10 r h.register, le-ltb 3 form h.known) (go (ℕ_discrete r 1))
  where
    go : Dec (r ≡ 1) → pick (eqb r 1) (eqb form 0) true ≡ true
    go (yes e) = rw (eq-eqb r 1 e, eq-eqb form 0 (h.key e))
    go (no n) = rw (ne_eqb r 1 n)

formed_by : (r form : ℕ) → has_form_of r form ≡ true → HasForm r form
unfolding has_form_of
formed_by r form h = go (ltb 10 r) refl (ltb 3 form) refl h
  where
    plain : (t : Bool) → eqb r 1 ≡ t → pick t (eqb form 0) true ≡ true → r ≡ 1 → form ≡ 0
    plain true e h one = eqb-true form 0 h
    plain false e h one = true_not_false (sym (eq-eqb r 1 one) ∙ e)

    go : (a : Bool) → ltb 10 r ≡ a → (b : Bool) → ltb 3 form ≡ b → pick a false (pick b false (pick (eqb r 1) (eqb form 0) true)) ≡ true → HasForm r form
    go true ea b eb h = true_not_false (sym h)
    go false ea true eb h = true_not_false (sym h)
    go false ea false eb h = record { register = ltb-false 10 r ea; known = ltb-false 3 form eb; key = plain (eqb r 1) refl h }

may : (d : Device) (r : ℕ) → MayStore d r → may_store_of d r ≡ true
unfolding may_store_of register_of
may d r (inl idle) = rw (has_bit 15 d.nvmcon.0 ∙ idle)
may d r (inr (low, high)) = rw (le-leb 2 r low, le-leb r 7 high) (pick_same (running d) true)

may_by : (d : Device) (r : ℕ) → may_store_of d r ≡ true → MayStore d r
unfolding may_store_of register_of
may_by d r h = go (running d) refl h
  where
    go : (t : Bool) → running d ≡ t → pick t (loads_of r) true ≡ true → MayStore d r
    go true on h = let (low, high) = and_both (leb 2 r) (leb r 7) h in inr (leb-true 2 r low, leb-true r 7 high)
    go false off h = inl (sym (has_bit 15 d.nvmcon.0) ∙ off)

module _ (g : Geometry) (d : Device) (r form value : ℕ) where
  abbrev own : Answer
  own = store_of g d r form value

  own_number : number_of own.decline ≡ number_of (store_decline_of g d r form)
  unfolding store_of store_accepted_of
  own_number =
      pick_each (λ (a : Answer). number_of a.decline ≡ number_of (store_decline_of g d r form)) (accepted_of (store_decline_of g d r form))
      (λ on. pick_both (λ (a : Answer). number_of a.decline ≡ 0) (eqb r 0) refl refl ∙ sym (eqb-true _ 0 on))
      (λ off. refl)

  -- a declined one changes nothing
  own_declined : (number_of own.decline ≡ 0 → ⊥) → (own.device ≡ d) × (own.event ≡ false)
  unfolding store_of
  own_declined none =
      pick_each (λ (a : Answer). (a.device ≡ d) × (a.event ≡ false)) (accepted_of (store_decline_of g d r form))
      (λ on. absurd (none (own_number ∙ eqb-true _ 0 on)))
      (λ off. (refl, refl))

  -- an accepted one
  record Carried : Type 0 where
    listed : in_range_of g ≡ true
    below : r < 11
    plain : r ≡ 1 → form ≡ 0
    same : own ≡ store_accepted_of g d r form value

  carried : number_of own.decline ≡ 0 → Carried
  unfolding store_of
  carried h =
      let on : accepted_of (store_decline_of g d r form) ≡ true = eq-eqb _ 0 (sym own_number ∙ h) in
      let ready = store_ready g d r form on in
      let f = formed_by r form ready.formed in
      record { listed = ready.listed; below = omega (arith, f.register); plain = f.key; same = rw on }

  module _ (four : FourWords d) where
    own_left : number_of own.decline ≡ 0 → Left g d r form value own
    own_left h = let c = carried h in rw c.same (left g d form value four r c.below c.listed)

    -- a key store is plain
    own_key : (h : number_of own.decline ≡ 0) → r ≡ 1 → own.device.keystep ≡ key_next_of d.keystep value
    own_key h one = (own_left h).key one ∙ rw ((carried h).plain one)

    meets : StoreSentences g d r form value own
    unfolding store_decline_of key_next_of
    meets =
        record {
          declines = rw own_number (common_first g d [] 0 _);
          no_form = λ u none. own_number ∙ rw (used g d [] 0 u, never_true (has_form_of r form) (λ on. none (formed_by r form on)));
          running = λ u f none. own_number ∙ rw (used g d [] 0 u, is_formed r form f, never_true (may_store_of d r) (λ on. none (may_by d r on)));
          accepted = λ u f m. own_number ∙ rw (used g d [] 0 u, is_formed r form f, may d r m);
          declined = own_declined;
          four = λ h. (own_left h).four;
          bits = λ h. (own_left h).bits;
          others = λ h. (own_left h).others;
          quiet = λ h. (own_left h).quiet;
          launch = λ h. (own_left h).launch;
          key_first = λ h one zero. own_key h one ∙ rw (eq-eqb value 0 zero);
          key_second = λ h one step second. own_key h one ∙ rw (step, second);
          key_third = λ h one step third. own_key h one ∙ rw (step, third);
          key_out = λ h one not_first not_second not_third. own_key h one ∙ key_out d.keystep value not_first not_second not_third;
          shut = λ h. (own_left h).shut;
          step = λ h. (own_left h).step;
        }

-- ---- nothing else is as asked
module _ (g : Geometry) (d : Device) (r form value : ℕ) (four : FourWords d) (a : Answer) (s : StoreSentences g d r form value a) where
  abbrev b : Answer
  b = store_of g d r form value

  abbrev t : StoreSentences g d r form value b
  t = meets g d r form value four

  one_number : number_of a.decline ≡ number_of b.decline
  one_number = go (accepted_of (common_decline_of g d [] 0)) refl (has_form_of r form) refl (may_store_of d r) refl
    where
      fixed : (n : ℕ) → CommonDeclines g d [] 0 n → accepted_of (common_decline_of g d [] 0) ≡ false → n ≡ number_of (common_decline_of g d [] 0)
      fixed = common_fixes g d [] 0

      go : (x : Bool) → accepted_of (common_decline_of g d [] 0) ≡ x → (y : Bool) → has_form_of r form ≡ y → (z : Bool) → may_store_of d r ≡ z
          → number_of a.decline ≡ number_of b.decline
      go false off y ey z ez = fixed _ s.declines off ∙ sym (fixed _ t.declines off)
      go true on false ey z ez =
          let u = usable g d [] 0 on in
          let none : HasForm r form → ⊥ = λ f. true_not_false (sym (is_formed r form f) ∙ ey) in
          s.no_form u none ∙ sym (t.no_form u none)
      go true on true ey false ez =
          let u = usable g d [] 0 on in
          let f = formed_by r form ey in
          let none : MayStore d r → ⊥ = λ m. true_not_false (sym (may d r m) ∙ ez) in
          s.running u f none ∙ sym (t.running u f none)
      go true on true ey true ez =
          let u = usable g d [] 0 on in
          let f = formed_by r form ey in
          let m = may_by d r ez in
          s.accepted u f m ∙ sym (t.accepted u f m)

  record Same : Type 0 where
    device : a.device ≡ b.device
    event : a.event ≡ b.event

  module _ (h : number_of a.decline ≡ 0) where
    abbrev k : number_of b.decline ≡ 0
    k = sym one_number ∙ h

    one_key : a.device.keystep ≡ b.device.keystep
    one_key =
        go (ℕ_discrete r 1) (ℕ_discrete value 0) (both (ℕ_discrete d.keystep 1) (ℕ_discrete value 0xAA99_6655))
        (both (ℕ_discrete d.keystep 2) (ℕ_discrete value 0x5566_99AA))
      where
        both : {A B : Type 0} → Dec A → Dec B → Dec (A × B)
        both (yes x) (yes y) = yes (x, y)
        both (yes x) (no n) = no (λ p. n p.1)
        both (no n) y = no (λ p. n p.0)

        go : Dec (r ≡ 1) → Dec (value ≡ 0) → Dec ((d.keystep ≡ 1) × (value ≡ 0xAA99_6655)) → Dec ((d.keystep ≡ 2) × (value ≡ 0x5566_99AA))
            → a.device.keystep ≡ b.device.keystep
        go (no n) zero second third = s.shut h n ∙ sym (t.shut k n)
        go (yes e) (yes zero) second third = s.key_first h e zero ∙ sym (t.key_first k e zero)
        go (yes e) (no zero) (yes (at, by)) third = s.key_second h e at by ∙ sym (t.key_second k e at by)
        go (yes e) (no zero) (no m) (yes (at, by)) = s.key_third h e at by ∙ sym (t.key_third k e at by)
        go (yes e) (no zero) (no m) (no n) =
            let second : d.keystep ≡ 1 → value ≡ 0xAA99_6655 → ⊥ = λ at by. m (at, by) in
            let third : d.keystep ≡ 2 → value ≡ 0x5566_99AA → ⊥ = λ at by. n (at, by) in
            s.key_out h e zero second third ∙ sym (t.key_out k e zero second third)

    -- a device is its numbers
    one_device : ((i : ℕ) → bit i (register_of a.device r) ≡ bit i (register_of b.device r))
        → ((q : ℕ) → 1 < q → q < 8 → launched_of a.device q ≡ launched_of b.device q) → a.device ≡ b.device
    one_device bits operands =
        known_by_numbers a.device b.device (s.four h) (t.four k)
        (record { registers = λ q l. go q l (ℕ_discrete q r); launched = operands; keystep = one_key; step = s.step h ∙ sym (t.step k) })
      where
        go : (q : ℕ) → q < 11 → Dec (q ≡ r) → register_of a.device q ≡ register_of b.device q
        go q l (yes e) = rw e (equal_by_bits _ _ bits)
        go q l (no n) = s.others h q l n ∙ sym (t.others k q l n)

    accepted_same : Same
    accepted_same = go (launches_or_other (ℕ_discrete r 0))
      where
        launches_or_other : Dec (r ≡ 0) → Dec (LaunchingStore d r form value)
        launches_or_other (yes e) = rw e (launches_or_not g d form value)
        launches_or_other (no n) = no (λ x. n x.con)

        go : Dec (LaunchingStore d r form value) → Same
        go (yes x) =
            let listed = (carried g d r form value k).listed in
            let same = same_launch g d form value a.device b.device a.event b.event listed (s.launch h x) (t.launch k x) in
            let bits = subst (λ (q : ℕ). (i : ℕ) → bit i (register_of a.device q) ≡ bit i (register_of b.device q)) (sym x.con) same.con in
            record { device = one_device bits same.launched; event = same.events }
        go (no n) =
            let (event, operands) = s.quiet h n in
            let (none, own-operands) = t.quiet k n in
            record {
              device = one_device (λ i. s.bits h n i ∙ sym (t.bits k n i)) (λ q low high. operands q low high ∙ sym (own-operands q low high));
              event = event ∙ sym none;
            }

  same : Same
  same = go (ℕ_discrete (number_of a.decline) 0)
    where
      go : Dec (number_of a.decline ≡ 0) → Same
      go (yes h) = accepted_same h
      go (no n) =
          let (device, event) = s.declined n in
          let (kept, none) = t.declined (λ h. n (one_number ∙ h)) in
          record { device = device ∙ sym kept; event = event ∙ sym none }

  one_answer : a ≡ b
  one_answer =
      let decline = numbers.one a.decline b.decline one_number in
      λ i. record { decline = decline i; device = same.device i; event = same.event i }

pub stores_fixed : StoresFixed
stores_fixed = record { meets = meets; fixes = one_answer }
