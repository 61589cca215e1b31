-- Two answers of one call that are as asked are the same: the case decides whom they serve, and each record and word of the store is said.
-- Assumes nothing.
use Prim.Native.Nat.{ℕ, ◌+◌, ◌-◌, ◌<◌, ◌≤◌}
use mathlib.Core.Path.{◌≡◌, refl, sym, ap, subst, ◌∙◌}
use mathlib.Core.Bool.{Bool, true, false}
use mathlib.Core.List.{List, ◌++◌}
use mathlib.Core.Logic.{◌⊎◌, inl, inr}
use native.Mathlib.Decide.{ℕ_discrete, dec_lt}
use native.Mathlib.Omega.{arith}
use lib.ListN.{length, get_or, drop}
use lib.Seq.{ext_get_or, get_or-take, get_or-drop}
use Rattle.words.proofs.ListLaws.{rising_same}
use Rattle.geometry.specs.declared.banks.Geometry.{Geometry}
use Rattle.geometry.specs.Banks.{in_range_of, bank_words_of}
use Rattle.geometry.specs.Lent.{most_sram}
use Rattle.device.specs.State.{State}
use Rattle.row_signs.specs.declared.sign.Sign.{Sign}
use Rattle.row_signs.specs.Signs.{past_end, sign_at, waiting_of, queue_of}
use Rattle.row_turn.specs.SignTurn.{part_of, turned_sign, sign_state_of}
use Rattle.row_schedule.specs.declared.answer.ScheduleAnswer.{ScheduleAnswer}
use Rattle.row.specs.Row.{RowState, Call, leaving, turn_at}
use Rattle.row.specs.Supply.{OutsideBanks, Called}
use Rattle.row.specs.Choosing.{Case, Joined}
use Rattle.row.specs.Choosing.Case.{from_queue, from_list, idle}

-- a word of a part of the store
word_in : (store : List ℕ) (a n v : ℕ) → a ≤ v → v < a + n → get_or store v 0 ≡ get_or (part_of store a n) (v - a) 0
word_in store a n v from to =
    let back : a + (v - a) ≡ v = omega (arith, from) in
    sym (get_or-take n (drop a store) (v - a) 0 (omega (arith, from, to)) ∙ get_or-drop a store (v - a) 0 ∙ ap (λ (k : ℕ). get_or store k 0) back)

module _ (g : Geometry) (r : RowState) (c : Call) where
  -- what a call that serves x leaves
  record Serves (signs : List Sign) (store : List ℕ) (last : ℕ) (event : Bool) (x : ℕ) : Type 0 where
    sign : sign_at signs x ≡ turned_sign (sign_at r.signs x) (turn_at g r c x)
    last_is : last ≡ x
    state : sign_state_of g store (sign_at signs x) ≡ (turn_at g r c x).state
    event_is : event ≡ (turn_at g r c x).event
    others : (j : ℕ) → (j ≡ x → ⊥) → sign_at signs j ≡ sign_at r.signs j
    outside : (v : ℕ) → OutsideBanks g (sign_at r.signs x) v → get_or store v 0 ≡ get_or r.store v 0
    listed : length signs ≡ length r.signs
    long : length store ≡ length r.store
    starts : ((sign_at signs x).one ≡ (sign_at r.signs x).one) × ((sign_at signs x).two ≡ (sign_at r.signs x).two)

  serves : (a : ScheduleAnswer) (signs : List Sign) (store : List ℕ) → Called g r c a (leaving a signs store) → a.decline ≡ 0 → a.idle ≡ false
      → (x : ℕ) → a.served ≡ x → Serves signs store a.last a.event x
  serves a signs store m ok on x e = subst (λ (n : ℕ). Serves signs store a.last a.event n) e here
    where
      here : Serves signs store a.last a.event a.served
      here =
          let o = m.one_call in
          let (listed, (can, (sign, (last, turned)))) = o.served ok on in
          record {
            sign = sign;
            last_is = last;
            state = turned;
            event_is = m.choosing.event ok on;
            others = o.others;
            outside = o.outside;
            listed = o.lengths.0;
            long = o.lengths.1;
            starts = o.starts a.served;
          }

  module _ (signs tsigns : List Sign) (store tstore : List ℕ) (last tlast : ℕ) (event tevent : Bool) (x : ℕ)
      (p : Serves signs store last event x) (q : Serves tsigns tstore tlast tevent x) where
    same_signs : signs ≡ tsigns
    same_signs = ext_get_or past_end signs tsigns (p.listed ∙ sym q.listed) (λ j l. go j (ℕ_discrete j x))
      where
        go : (j : ℕ) → Dec (j ≡ x) → sign_at signs j ≡ sign_at tsigns j
        go j (yes e) = subst (λ (n : ℕ). sign_at signs n ≡ sign_at tsigns n) (sym e) (p.sign ∙ sym q.sign)
        go j (no other) = p.others j other ∙ sym (q.others j other)

    abbrev one : ℕ
    one = (sign_at r.signs x).one

    abbrev two : ℕ
    two = (sign_at r.signs x).two

    abbrev words : ℕ
    words = bank_words_of g

    part_one : part_of store one words ≡ part_of tstore one words
    part_one =
        ap (λ (n : ℕ). part_of store n words) (sym p.starts.0) ∙ ap (λ (s : State). s.one) (p.state ∙ sym q.state)
        ∙ ap (λ (n : ℕ). part_of tstore n words) q.starts.0

    part_two : part_of store two words ≡ part_of tstore two words
    part_two =
        ap (λ (n : ℕ). part_of store n words) (sym p.starts.1) ∙ ap (λ (s : State). s.two) (p.state ∙ sym q.state)
        ∙ ap (λ (n : ℕ). part_of tstore n words) q.starts.1

    data Where (a v : ℕ) : Type 0 where
      in_it : a ≤ v → v < a + words → Where a v
      out : (v < a) ⊎ (a + words ≤ v) → Where a v

    where_of : (a v : ℕ) → Where a v
    where_of a v = go (dec_lt v a) (dec_lt v (a + words))
      where
        go : Dec (v < a) → Dec (v < a + words) → Where a v
        go (yes below) d = out (inl below)
        go (no from) (yes to) = in_it (omega (arith, from)) to
        go (no from) (no past) = out (inr (omega (arith, past)))

    same_store : store ≡ tstore
    same_store = ext_get_or 0 store tstore (p.long ∙ sym q.long) (λ v l. go v (where_of one v) (where_of two v))
      where
        go : (v : ℕ) → Where one v → Where two v → get_or store v 0 ≡ get_or tstore v 0
        go v (in_it from to) w =
            word_in store one words v from to ∙ ap (λ (l : List ℕ). get_or l (v - one) 0) part_one ∙ sym (word_in tstore one words v from to)
        go v (out e) (in_it from to) =
            word_in store two words v from to ∙ ap (λ (l : List ℕ). get_or l (v - two) 0) part_two ∙ sym (word_in tstore two words v from to)
        go v (out e) (out f) = p.outside v (e, f) ∙ sym (q.outside v (e, f))

  same_new : (t u : RowState) (i : ℕ) → Joined g r c t i → Joined g r c u i → t.queue ≡ u.queue
  same_new t u i p q =
      p.queue
      ∙ ap (λ (l : List ℕ). queue_of (waiting_of r.queue ++ l))
      (rising_same p.new q.new p.rising q.rising (λ j h. q.all j (p.only j h)) (λ j h. p.all j (q.only j h)))
      ∙ sym q.queue

  -- two that meet it
  module _ (a b : ScheduleAnswer) (signs tsigns : List Sign) (store tstore : List ℕ)
      (p : Called g r c a (leaving a signs store)) (q : Called g r c b (leaving b tsigns tstore)) where
    record Same : Type 0 where
      decline : a.decline ≡ b.decline
      idle_is : a.idle ≡ b.idle
      served : a.served ≡ b.served
      event : a.event ≡ b.event
      queue : a.queue ≡ b.queue
      last : a.last ≡ b.last
      list : signs ≡ tsigns
      words_are : store ≡ tstore

    refused : (a.decline ≡ 0 → ⊥) → (b.decline ≡ 0 → ⊥) → a.decline ≡ b.decline → Same
    refused m n e =
        let (i, (s, v)) = p.declines.numbers m in
        let (j, (t, w)) = q.declines.numbers n in
        let one = p.one_call.declined m in
        let two = q.one_call.declined n in
        record {
          decline = e;
          idle_is = i ∙ sym j;
          served = s ∙ sym t;
          event = v ∙ sym w;
          queue = ap (λ (x : RowState). x.queue) (one ∙ sym two);
          last = ap (λ (x : RowState). x.last) (one ∙ sym two);
          list = ap (λ (x : RowState). x.signs) (one ∙ sym two);
          words_are = ap (λ (x : RowState). x.store) (one ∙ sym two);
        }

    turned : (m : a.decline ≡ 0) (n : b.decline ≡ 0) → a.idle ≡ false → b.idle ≡ false → a.served ≡ b.served → a.queue ≡ b.queue → Same
    turned m n i j s queue =
        let one = serves a signs store p m i b.served s in
        let two = serves b tsigns tstore q n j b.served refl in
        record {
          decline = m ∙ sym n;
          idle_is = i ∙ sym j;
          served = s;
          event = one.event_is ∙ sym two.event_is;
          queue = queue;
          last = one.last_is ∙ sym two.last_is;
          list = same_signs signs tsigns store tstore a.last b.last a.event b.event b.served one two;
          words_are = same_store signs tsigns store tstore a.last b.last a.event b.event b.served one two;
        }

    by_case : (m : a.decline ≡ 0) (n : b.decline ≡ 0) → Case g r c → Same
    by_case m n (from_queue i f) =
        let (on, (s, u)) = p.choosing.from_queue m i f in
        let (off, (t, v)) = q.choosing.from_queue n i f in
        turned m n on off (s ∙ sym t) (u ∙ sym v)
    by_case m n (from_list i f) =
        let (on, (s, u)) = p.choosing.from_list m i f in
        let (off, (t, v)) = q.choosing.from_list n i f in
        turned m n on off (s ∙ sym t) (same_new (leaving a signs store) (leaving b tsigns tstore) i u v)
    by_case m n (idle f) =
        let (on, (s, (u, j))) = p.choosing.idle m f in
        let (off, (t, (v, k))) = q.choosing.idle n f in
        let (list, (words, last)) = p.one_call.idle on in
        let (tlist, (twords, tlast)) = q.one_call.idle off in
        record {
          decline = m ∙ sym n;
          idle_is = on ∙ sym off;
          served = s ∙ sym t;
          event = u ∙ sym v;
          queue = same_new (leaving a signs store) (leaving b tsigns tstore) (length r.signs) j k;
          last = last ∙ sym tlast;
          list = list ∙ sym tlist;
          words_are = words ∙ sym twords;
        }

    same_decline : (a.decline ≡ 0 → ⊥) → (b.decline ≡ 0 → ⊥) → a.decline ≡ b.decline
    same_decline m n = go (in_range_of g) refl (ℕ_discrete (length c.image) (bank_words_of g)) (dec_lt most_sram (length c.sram))
      where
        go : (f : Bool) → in_range_of g ≡ f → Dec (length c.image ≡ bank_words_of g) → Dec (most_sram < length c.sram) → a.decline ≡ b.decline
        go false e d l = p.declines.geometry e ∙ sym (q.declines.geometry e)
        go true e (no d) l = p.declines.lengths e (inl d) ∙ sym (q.declines.lengths e (inl d))
        go true e (yes d) (yes l) = p.declines.lengths e (inr l) ∙ sym (q.declines.lengths e (inr l))
        go true e (yes d) (no l) =
            p.declines.row e d (omega (arith, l)) (λ j. m (p.declines.accepted j))
            ∙ sym (q.declines.row e d (omega (arith, l)) (λ j. n (q.declines.accepted j)))

    all_same : Same
    all_same = go (ℕ_discrete a.decline 0)
      where
        go : Dec (a.decline ≡ 0) → Same
        go (yes m) = by_case m (q.declines.accepted (p.declines.accepted_only m)) (p.choosing.one-of m)
        go (no m) =
            let n : b.decline ≡ 0 → ⊥ = λ e. m (p.declines.accepted (q.declines.accepted_only e)) in
            refused m n (same_decline m n)

    pub same_answer : a ≡ b
    same_answer =
        let s = all_same in
        λ i. record { decline = s.decline i; idle = s.idle_is i; served = s.served i; event = s.event i; queue = s.queue i; last = s.last i }

    pub same_row : leaving a signs store ≡ leaving b tsigns tstore
    same_row =
        let s = all_same in
        λ i. record { signs = s.list i; queue = s.queue i; last = s.last i; store = s.words_are i }
