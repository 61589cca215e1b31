-- Two updates whose images differ in one word: outside the sequence quad their lists of actions differ in its store, from which all follows;
-- inside it no action looks at the word. Lists at one place are compared by the same turns, since of one update the place decides the state.
-- Assumes nothing.
use mathlib.Core.Path.{◌≡◌, refl, sym, ap, ◌∙◌}
use mathlib.Core.Bool.{not}
use mathlib.Core.List.{List, [], ◌∷◌}
use mathlib.Core.Logic.{◌⊎◌, inl, inr}
use Prim.Native.Nat.{ℕ, suc, ◌+◌, ◌-◌, ◌*◌, ◌/◌, ◌%◌, ◌≤◌, ◌<◌}
use native.Mathlib.Nat.{mod-lt}
use native.Mathlib.Decide.{ℕ_discrete, dec_le, dec_lt}
use native.Mathlib.Omega.{arith}
use lib.Dec.{eqb}
use lib.ListN.{length, get_or}
use borrow.Author.Tests.{eq-eqb}
use Rattle.words.specs.Word.{pick}
use Rattle.words.specs.Quad.{word_at, quad_at}
use Rattle.words.specs.Decline.{accepted_of}
use Rattle.words.proofs.CaseLaws.{below_four}
use Rattle.words.proofs.QuadLaws.{put_other_word}
use Rattle.geometry.specs.declared.banks.Geometry.{Geometry}
use Rattle.sequence.specs.Sequence.{sequence_quad_of, next_sequence_of}
use Rattle.device.specs.Record.{bfswap, pfswap}
use Rattle.device.specs.State.{State, bank_of}
use Rattle.device.specs.declared.record.Device.{Device}
use Rattle.reads.specs.Read.{read_answer_of, Reading, flash_read_of}
use Rattle.update.specs.declared.actions.Action.TheVariants.{Store, Step}
use Rattle.update.specs.Actions.{new_quad_of, programmed_quad_of, programming_from, quad_actions, quad_action_of, action_at_of, actions_of, total_of}
use Rattle.update.specs.Start.{lower_word_of, start_of}
use Rattle.update.specs.Turn.{turn_decline_of, Turning, turn_of}
use Rattle.update.specs.PowerFail.{Position, at, turns_of, place_after, Cut, old, Words, Update}
use Rattle.update.specs.Moves.{Move, moved_of, moves_of, turns_among, turn_moves, End, end_state_of, after_moves}
use Rattle.update.specs.Moves.Move.{turn, read}
use Rattle.update.specs.Moves.End.{whole}
use Rattle.update.proofs.PlaceLaws.{quad-action}
use Rattle.update.proofs.ActionLaws.{action_listed}
use Rattle.update.proofs.Blocks.{old_word}
use Rattle.update.proofs.PhaseLaws.{action_at}
use Rattle.update.proofs.StartLaws.{starts}
use Rattle.update.proofs.PowerFail.{power_fail}
use Rattle.update.proofs.Moves.{moves_fail}
use Rattle.update.proofs.RunLaws.{one_position}
use Rattle.reach.specs.Reach.{programmed_at_of, data_place_of}
use Rattle.reach.specs.Differing.{OneWord, OneAction}
use Rattle.reach.proofs.Differing.{differing}
use Rattle.reach_update.specs.Near.{NearDevice, NearState}
use Rattle.reach_update.specs.SameRuns.{SameCut, AtOnePlace, Outside, OneWordReaches}
use Rattle.reach_update.proofs.DeviceLaws.{pick_two, by_near}
use Rattle.reach_update.proofs.TurnLaws.{first, second}
use Rattle.reach_update.proofs.LiveLaws.{Differs}
use Rattle.reach_update.proofs.MoveLaws.{Together, together, moves_together, after_together, read_answer, waits_same}
use Rattle.reach_update.proofs.CutLaws.{reset_same, start_up_same, restarted_near, power_on_same, data_kept}

-- ---- the same start
module _ (g : Geometry) (image other : List ℕ) (long : length image ≡ length other) where
  same_start : (s : State) → start_of g s image ≡ start_of g s other
  unfolding start_of
  same_start s = rw long

  same_update : Words other → (s : State) → Update g s image → Update g s other
  same_update words s update =
      record {
        accepted = rw (← same_start s) update.accepted;
        one_words = update.one_words;
        two_words = update.two_words;
        new_words_lem = words;
        quad = update.quad;
      }

-- ---- a list for each image in which no read waits, both at one place
abbrev turns_in : List Move → List Move
turns_in B = turn_moves (turns_among B)

module _ (g : Geometry) (s : State) (image other : List ℕ) (also : Update g s other)
    (places : (B : List Move) → (moves_of g image (at s 0) B).place ≡ (moves_of g other (at s 0) B).place) where
  -- both leave what the turns of the first list leave, since of one update the place decides the state
  by_turns : (P : Position → Position → Type 0) (B C : List Move) → AtOnePlace g s image other B C
      → P (moves_of g image (at s 0) (turns_in B)) (moves_of g other (at s 0) (turns_in B)) → P (moves_of g image (at s 0) B) (moves_of g other (at s 0) C)
  by_turns P B C h holds = rw (first, second ∙ one_position g s other also (turns_among C) (turns_among B) place ∙ sym alone) holds
    where
      first : moves_of g image (at s 0) B ≡ moves_of g image (at s 0) (turns_in B)
      first = (moves_fail g image).unwaited (at s 0) B h.first ∙ sym ((moves_fail g image).turns_alone (at s 0) (turns_among B))

      second : moves_of g other (at s 0) C ≡ turns_of g other (at s 0) (turns_among C)
      second = (moves_fail g other).unwaited (at s 0) C h.second

      alone : moves_of g other (at s 0) (turns_in B) ≡ turns_of g other (at s 0) (turns_among B)
      alone = (moves_fail g other).turns_alone (at s 0) (turns_among B)

      place : place_after g s other (turns_among C) ≡ place_after g s other (turns_among B)
      place =
          ap (λ (p : Position). p.place) (sym second)
          ∙ sym h.place
          ∙ ap (λ (p : Position). p.place) first
          ∙ places (turns_in B)
          ∙ ap (λ (p : Position). p.place) alone

-- ---- outside the sequence quad
-- the store of word x of a quad
data_action : (g : Geometry) (j : ℕ) (words : List ℕ) (x : ℕ) → x < 4 → quad_action_of g j words (1 + x) ≡ Store (3 + x) 0 (word_at words x)
unfolding quad_action_of
data_action g j words = below_four (λ x. quad_action_of g j words (1 + x) ≡ Store (3 + x) 0 (word_at words x)) refl refl refl refl

-- a read's answer is that of its declines
read_declines : (g : Geometry) (a b : State) (sram : List ℕ) (address : ℕ) → read_answer_of g a sram address ≡ read_answer_of g b sram address
    → (flash_read_of g a sram address).after.decline ≡ (flash_read_of g b sram address).after.decline
unfolding flash_read_of
read_declines g a b sram address e =
    rw (← e) (pick_two (λ (x y : Reading). x.after.decline ≡ y.after.decline) (accepted_of (read_answer_of g a sram address)) refl refl)

-- the swap bits are in what near devices share
swaps_same : (x : ℕ) (d e : Device) → NearDevice x d e → (bfswap d ≡ bfswap e) × (pfswap d ≡ pfswap e)
swaps_same x d e near = by_near x d e (λ (f : Device). (bfswap d ≡ bfswap f) × (pfswap d ≡ pfswap f)) near (λ p q hp hq. (refl, refl))

module _ (g : Geometry) (image other : List ℕ) (i : ℕ) (long : length image ≡ length other) (words : Words other) (one : OneWord image other i)
    (away : i / 4 ≡ sequence_quad_of g → ⊥) (s : State) (update : Update g s image) where
  also : Update g s other
  also = same_update g image other long words s update

  abbrev k : ℕ
  k = data_place_of g i

  abbrev w : ℕ
  w = old_word (first g s image other i update also one.same)

  actions : OneAction g image other i w
  actions =
      let began = starts g s image update.accepted in
      differing.outside g image other i w began.listed began.image_long (sym long ∙ began.image_long) one away

  listed_p : (n : ℕ) → n < total_of g → action_at_of g image w n ≡ get_or (actions_of g image w) n Step
  listed_p n l = action_listed g image w n l

  differs : Differs g (i % 4) (action_at (first g s image other i update also one.same)) (action_at (second g s image other i update also one.same)) k
  unfolding data_place_of
  differs =
      let x<4 : i % 4 < 4 = mod-lt i (omega arith) in
      let o = suc (programmed_at_of g (i / 4)) in
      let j = programmed_quad_of g o in
      let here : k + 13 ≡ programming_from g + o * 13 + (1 + i % 4) = omega arith in
      record {
        value = word_at image i;
        store = listed_p k actions.within ∙ actions.first;
        same = λ n l ne. listed_p n l ∙ actions.same n ne ∙ sym (action_listed g other w n l);
        next_value = word_at (new_quad_of g image w j) (i % 4);
        next = ap (action_at_of g image w) here ∙ quad-action g image w o (1 + i % 4) (omega arith) ∙ data_action g j (new_quad_of g image w j) (i % 4) x<4;
      }

  after : (B : List Move) (end : End)
      → let least = (moves_of g image (at s 0) B).place in
      Together g s image other i update also one.same k differs least (after_moves g s image B end) (after_moves g s other B end)
  after = after_together g s image other i update also one.same k differs

  -- at the total each new bank has its image's word
  total_word : (picture : List ℕ) → Update g s picture → (B : List Move) → (moves_of g picture (at s 0) B).place ≡ total_of g
      → word_at (bank_of (moves_of g picture (at s 0) B).state (not (old s))) i ≡ word_at picture i
  total_word picture begun B done =
      let turns = (moves_fail g picture).total s begun B done in
      let reached : place_after g s picture (turns_among B) ≡ total_of g = ap (λ (p : Position). p.place) (sym turns) ∙ done in
      ap (λ (p : Position). word_at (bank_of p.state (not (old s))) i) turns
      ∙ ap (λ (bank : List ℕ). word_at bank i) ((power_fail g picture).claims s begun (turns_among B) [] reached).new_left
      ∙ put_other_word picture (sequence_quad_of g) (next_sequence_of (lower_word_of g s)) i elsewhere
    where
      elsewhere : (i < 4 * sequence_quad_of g) ⊎ (4 * sequence_quad_of g + 4 ≤ i)
      elsewhere = go (dec_lt i (4 * sequence_quad_of g)) (dec_le (4 * sequence_quad_of g + 4) i)
        where
          go : Dec (i < 4 * sequence_quad_of g) → Dec (4 * sequence_quad_of g + 4 ≤ i) → (i < 4 * sequence_quad_of g) ⊎ (4 * sequence_quad_of g + 4 ≤ i)
          go (yes l) d = inl l
          go (no l) (yes m) = inr m
          go (no l) (no m) = absurd (away (omega arith))

  places : (B : List Move) → (moves_of g image (at s 0) B).place ≡ (moves_of g other (at s 0) B).place
  places B = (moves_together g s image other i update also one.same k differs B).0

  outside : Outside g s image other i
  outside =
      record {
        every_place =
            λ B C h. by_turns g s image other also places (λ (p q : Position). NearState (old s) i p.state q.state) B C h
            (together g s image other i update also one.same k differs (after (turns_in B) whole)).0.near;
        every_cut =
            λ B C h c. by_turns g s image other also places (λ (p q : Position). SameCut g s i p.state q.state c) B C h
            (cut_same _ _ (after (turns_in B) whole) c);
        place = places;
        near = λ B end. (together g s image other i update also one.same k differs (after B end)).0.near;
        before = λ B end l. let h = after B end in (together g s image other i update also one.same k differs h).1.early (h.early l);
        later = λ B end l. let h = after B end in (together g s image other i update also one.same k differs h).1.late (omega (arith, h.later));
        total =
            λ B done. (
              total_word image update B done,
              total_word other also B (sym (places B) ∙ done),
            );
        reads =
            λ B end sram address. (
              read_declines g _ _ sram address (read_answer g s image other i update also one.same k differs _ _ (after B end) sram address),
              waits_same g s image other i update also one.same k differs _ _ (after B end) sram address,
            );
        cut = λ B end c. cut_same (after_moves g s image B end) (after_moves g s other B end) (after B end) c;
      }
    where
      cut_same : {least : ℕ} (a b : State) → Together g s image other i update also one.same k differs least a b → (c : Cut) → SameCut g s i a b c
      cut_same a b h c =
          let r = reset_same g s image other i update also one.same k differs away a b h c in
          let started = restarted_near g s image other i update also one.same k differs away a b h c in
          record {
            decline = r.decline;
            reason = r.reason;
            near = r.near;
            power_on_lem = power_on_same g s image other i update also one.same k differs away a b h c;
            kept = data_kept g s image other i update also one.same k differs away a b h c;
            start_up = start_up_same g s image other i update also one.same k differs away a b h c;
            near_started = started;
            same_runs = swaps_same (i % 4) _ _ started.device;
          }

-- ---- inside it
module _ (g : Geometry) (image other : List ℕ) (i : ℕ) (long : length image ≡ length other) (one : OneWord image other i)
    (left_out : i / 4 ≡ sequence_quad_of g) where
  same_quad : (w j : ℕ) → new_quad_of g image w j ≡ new_quad_of g other w j
  unfolding new_quad_of
  same_quad w j = go (ℕ_discrete j (sequence_quad_of g))
    where
      go : Dec (j ≡ sequence_quad_of g)
          → pick (eqb j (sequence_quad_of g)) (next_sequence_of w) (quad_at image j) ≡ pick (eqb j (sequence_quad_of g)) (next_sequence_of w) (quad_at other j)
      go (yes e) = rw (eq-eqb j (sequence_quad_of g) e)
      go (no ne) =
          rw (
            one.same (4 * j) (λ e. ne (omega arith)),
            one.same (4 * j + 1) (λ e. ne (omega arith)),
            one.same (4 * j + 2) (λ e. ne (omega arith)),
            one.same (4 * j + 3) (λ e. ne (omega arith)),
          )

  same_action : (w place : ℕ) → action_at_of g image w place ≡ action_at_of g other w place
  unfolding action_at_of
  same_action w place = rw (same_quad w (programmed_quad_of g ((place - programming_from g) / quad_actions)))

  same_turn : (s : State) (sram : List ℕ) (place : ℕ) → turn_of g s image sram place ≡ turn_of g s other sram place
  unfolding turn_of turn_decline_of
  same_turn s sram place = rw (same_action (lower_word_of g s) place, long)

  same_move : (p : Position) (m : Move) → moved_of g image p m ≡ moved_of g other p m
  same_move p (turn sram) = ap (λ (t : Turning). at t.state t.place) (same_turn p.state sram p.place)
  same_move p (read sram address) = refl

  same_moves : (p : Position) (B : List Move) → moves_of g image p B ≡ moves_of g other p B
  same_moves p [] = refl
  same_moves p (m ∷ B) = ap (λ (q : Position). moves_of g image q B) (same_move p m) ∙ same_moves (moved_of g other p m) B

pub one_word_reaches : OneWordReaches
one_word_reaches =
    record {
      runs =
          λ g image other i long words one. record {
            start = same_start g image other long;
            update = same_update g image other long words;
            outside = outside g image other i long words one;
            inside_turn = same_turn g image other i long one;
            inside_place =
                λ left_out s update B C h. let moves = same_moves g image other i long one left_out (at s 0) in
                by_turns g s image other (same_update g image other long words s update) (λ B. ap (λ (p : Position). p.place) (moves B))
                (λ (p q : Position). p ≡ q) B C h (moves (turns_in B));
            inside =
                λ left_out s B end. let moves = same_moves g image other i long one left_out (at s 0) B in
                (moves, ap (λ (p : Position). end_state_of g p.state end) moves);
          };
    }
