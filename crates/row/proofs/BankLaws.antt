-- The banks of a sign after its turn: as long as they were, in their places, and the rest of the store as it was. Assumes nothing.
use Prim.Native.Nat.{ℕ, ◌+◌, ◌≤◌, ◌<◌}
use mathlib.Core.Path.{◌≡◌, ap, ap₂, ◌∙◌}
use mathlib.Core.Bool.{true, false}
use mathlib.Core.List.{List, append_assoc}
use mathlib.Core.Logic.{◌⊎◌, ⊎_swap}
use native.Mathlib.Omega.{arith}
use lib.ListN.{length, get_or, take, drop}
use lib.Seq.{sets, sets-eq, length-sets, length-take-le, take_at, drop_at}
use Rattle.geometry.specs.declared.banks.Geometry.{Geometry}
use Rattle.geometry.specs.Banks.{bank_words_of}
use Rattle.device.specs.State.{state}
use Rattle.update.specs.PowerFail.{at}
use Rattle.update.proofs.TurnLaws.{turn_keeps}
use Rattle.row_signs.specs.declared.sign.Sign.{Sign}
use Rattle.row_judge.specs.Judge.{Apart}
use Rattle.row_turn.specs.SignTurn.{part_of, sign_state_of, sign_turn_of, turned_sign, turned_store, Lies}
use Rattle.row_turn.proofs.PartLaws.{part_length, sets_outside, part_apart}

-- what is set into the store is there
part_set : (store : List ℕ) (a n : ℕ) (vs : List ℕ) → length vs ≡ n → a + n ≤ length store → part_of (sets store a vs) a n ≡ vs
part_set store a n vs e h =
    ap (λ (l : List ℕ). part_of l a n)
    (sets-eq vs store a (omega (arith, e, h)) ∙ append_assoc (take a store) vs (drop (a + length vs) store))
    ∙ ap (λ (l : List ℕ). take n l) (drop_at (take a store) _ a (length-take-le a store (omega (arith, h))))
    ∙ take_at vs (drop (a + length vs) store) n e

module _ (g : Geometry) (store image sram : List ℕ) (s : Sign) where
  pub store_length : length (turned_store store s (sign_turn_of g store image sram s)) ≡ length store
  store_length =
      let t = sign_turn_of g store image sram s in
      length-sets (sets store s.one t.state.one) s.two t.state.two ∙ length-sets store s.one t.state.one

  module _ (lies : Lies g store s) where
    one_length : length (sign_turn_of g store image sram s).state.one ≡ bank_words_of g
    one_length = (turn_keeps g image (at (sign_state_of g store s) s.place) sram).long false ∙ part_length store s.one (bank_words_of g) lies.first

    two_length : length (sign_turn_of g store image sram s).state.two ≡ bank_words_of g
    two_length = (turn_keeps g image (at (sign_state_of g store s) s.place) sram).long true ∙ part_length store s.two (bank_words_of g) lies.other

    -- its banks are as the turn left them
    pub state_after : let t = sign_turn_of g store image sram s in sign_state_of g (turned_store store s t) (turned_sign s t) ≡ t.state
    state_after =
        let t = sign_turn_of g store image sram s in
        let once = sets store s.one t.state.one in
        let long : length once ≡ length store = length-sets store s.one t.state.one in
        let first : part_of (turned_store store s t) s.one (bank_words_of g) ≡ t.state.one =
        part_apart once s.two t.state.two s.one (bank_words_of g) (omega (arith, long, lies.first)) (rw two_length (⊎_swap lies.apart))
        ∙ part_set store s.one (bank_words_of g) t.state.one one_length lies.first in
        let other : part_of (turned_store store s t) s.two (bank_words_of g) ≡ t.state.two =
        part_set once s.two (bank_words_of g) t.state.two two_length (omega (arith, long, lies.other)) in
        ap₂ (λ (one two : List ℕ). state t.state.device one two) first other

    -- a word outside both stays
    pub word_outside : (v : ℕ) → (v < s.one) ⊎ (s.one + bank_words_of g ≤ v) → (v < s.two) ⊎ (s.two + bank_words_of g ≤ v)
        → get_or (turned_store store s (sign_turn_of g store image sram s)) v 0 ≡ get_or store v 0
    word_outside v one two =
        let t = sign_turn_of g store image sram s in
        sets_outside (sets store s.one t.state.one) s.two t.state.two v (rw two_length two)
        ∙ sets_outside store s.one t.state.one v (rw one_length one)

    -- so does a bank apart from both
    pub bank_outside : (b : ℕ) → b + bank_words_of g ≤ length store → Apart (bank_words_of g) s.one b → Apart (bank_words_of g) s.two b
        → part_of (turned_store store s (sign_turn_of g store image sram s)) b (bank_words_of g) ≡ part_of store b (bank_words_of g)
    bank_outside b inside one two =
        let t = sign_turn_of g store image sram s in
        let once = sets store s.one t.state.one in
        part_apart once s.two t.state.two b (bank_words_of g) (omega (arith, length-sets store s.one t.state.one, inside)) (rw two_length two)
        ∙ part_apart store s.one t.state.one b (bank_words_of g) inside (rw one_length one)
