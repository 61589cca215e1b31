-- Power-fail safety. Every list of turns keeps the invariant; a cut where it holds leaves the old bank and a new one that loses or is whole;
-- after reset and start-up the comparison decides which of them runs, and where the old one does the same start is accepted again.
-- Assumes nothing.
use mathlib.Core.Path.{◌≡◌, refl, sym, ap, ◌∙◌}
use mathlib.Core.Bool.{Bool, true, false, not}
use mathlib.Core.List.{List, [], ◌∷◌}
use mathlib.Core.Logic.{◌⊎◌, inl, inr}
use Prim.Native.Nat.{ℕ, ◌≤◌, ◌<◌}
use native.Mathlib.Omega.{arith}
use lib.ListN.{length}
use borrow.Author.Tests.{le-ltb}
use Rattle.words.specs.Decline.{accepted_of}
use Rattle.words.proofs.BitLaws.{true_not_false}
use Rattle.geometry.specs.declared.banks.Geometry.{Geometry}
use Rattle.geometry.specs.Banks.{in_range_of}
use Rattle.device.specs.Record.{running}
use Rattle.common_declines.specs.Possible.{possible_of}
use Rattle.common_declines.proofs.CommonDeclineLaws.{opens}
use Rattle.start_up.specs.StartUp.{start_up_of}
use Rattle.resets.specs.Reset.{reset_decline_of, reset_answer_of}
use Rattle.device.specs.State.{State, bank_of, After}
use Rattle.controller.specs.Controller.{Operation, Sound}
use Rattle.controller.proofs.Controller.{controller}
use Rattle.controller.proofs.WriteLaws.{by_reset}
use Rattle.update.specs.Actions.{total_of}
use Rattle.update.specs.PowerFail.{Position, at, turns_of, after_turns, place_after, Cut, reset_by, started_up, restarted, Restarts, old}
use Rattle.update.specs.PowerFail.{Lower, Runs, new_bank_of, SameBanks, OldKept, Update, Claims, PowerFail}
use Rattle.update.proofs.TurnLaws.{every_turn, turn_keeps}
use Rattle.update.proofs.PlacedLaws.{placed, same_placed, same_bank, bank_old, bank_new}
use Rattle.update.proofs.Blocks.{Fixed, Finished, Stands, new_bank}
use Rattle.update.proofs.PhaseLaws.{phase_place}
use Rattle.update.proofs.StandsLaws.{stands_within, stands_answers, stands_turns, turns_raise}
use Rattle.update.proofs.CutLaws.{AfterCut, cut_leaves}
use Rattle.update.proofs.RestedLaws.{Rested, cut_rests, starts_up, old_bank, new_bank_lem, whole_runs, one_runs, update_again}
use Rattle.update.proofs.StartLaws.{start_fixed, start_stands, start_place, start_total}

-- ---- resets in any state
-- one of the three kinds with a short SRAM is not declined
reset_accepted : (g : Geometry) (s : State) (c : Cut) → in_range_of g ≡ true → Sound g s → length c.sram ≤ 16384 → c.kind ≤ 2
    → accepted_of (reset_answer_of g s c.sram c.kind) ≡ true
unfolding reset_decline_of
reset_accepted g s c listed sound short kind =
    rw (
      opens g s.device (length s.one ∷ length s.two ∷ []) (length c.sram) listed (sound.first, (sound.other, tt)) short sound.possible,
      le-ltb 2 c.kind kind,
    )

pub reset_answers : (g : Geometry) (s : State) (c : Cut) → in_range_of g ≡ true → Sound g s → length c.sram ≤ 16384 → c.kind ≤ 2
    → accepted_of (reset_by g s c).decline ≡ true
reset_answers g s c listed sound short kind =
    by_reset g s c.sram c.kind c.mask (λ (a : After). accepted_of a.decline ≡ true)
    (λ on. refl)
    (λ off. true_not_false (sym (reset_accepted g s c listed sound short kind) ∙ off))

-- while no operation runs it changes no bank
pub reset_idle : (g : Geometry) (s : State) (c : Cut) → running s.device ≡ false → SameBanks s (reset_by g s c).state
reset_idle g s c off =
    by_reset g s c.sram c.kind c.mask (λ (a : After). SameBanks s a.state) (λ on. (rw off, rw off)) (λ declined. (refl, refl))

start_up_declined : (g : Geometry) (s : State) → accepted_of (start_up_of g s.device).decline ≡ false → started_up g s ≡ s
unfolding start_up_of
start_up_declined g s h = rw h

-- ---- where the invariant holds
module _ (u : Fixed) where
  open u use {g, image, b, old, listed}

  module _ (p : Position) (stands : Stands u p) where
    pub kept : bank_of p.state b ≡ old
    kept = ap (λ (s : State). bank_of s b) stands.state ∙ bank_old b stands.device old stands.new

    can : possible_of g stands.device ≡ true
    can = (rw stands.state at stands.sound).possible

    -- at the total the new bank is whole and no operation runs
    module _ (e : p.place ≡ total_of g) where
      done : Finished u stands.device stands.new p.place
      done = go (phase_place u stands.device stands.new p.place stands.phase)
        where
          go : (p.place < total_of g) ⊎ Finished u stands.device stands.new p.place → Finished u stands.device stands.new p.place
          go (inl l) = absurd (omega arith)
          go (inr c) = c

      done_bank : bank_of p.state (not b) ≡ new_bank u
      done_bank = ap (λ (s : State). bank_of s (not b)) stands.state ∙ bank_new b stands.device old stands.new ∙ done.whole

      pub done_idle : running p.state.device ≡ false
      done_idle = ap (λ (s : State). running s.device) stands.state ∙ done.rest.idle

    module _ (c : Cut) where
      pub cut_left : accepted_of (reset_by g p.state c).decline ≡ true → AfterCut u p.place stands.device c (reset_by g p.state c).state
      cut_left = go p.state stands.state stands.sound
        where
          go : (s : State) → s ≡ placed b stands.device old stands.new → Sound g s → accepted_of (reset_by g s c).decline ≡ true
              → AfterCut u p.place stands.device c (reset_by g s c).state
          go s e sound = rw e (cut_leaves u stands.device stands.new p.place (rw e at sound) stands.phase c)

      pub leaves : accepted_of (reset_by g p.state c).decline ≡ true → Rested u (reset_by g p.state c).state
      leaves accepted = cut_rests u p.place stands.device can stands.quad c _ (cut_left accepted)

      restarts : length c.sram ≤ 16384 → c.kind ≤ 2 → Restarts g p.state c
      restarts short kind =
          let accepted = reset_answers g p.state c listed stands.sound short kind in
          record { reset = accepted; start_up = starts_up u (reset_by g p.state c).state (leaves accepted) }

      pub kept_reset : bank_of (reset_by g p.state c).state b ≡ old
      kept_reset = go (accepted_of (reset_by g p.state c).decline) refl
        where
          go : (t : Bool) → accepted_of (reset_by g p.state c).decline ≡ t → bank_of (reset_by g p.state c).state b ≡ old
          go true h = old_bank u (reset_by g p.state c).state (leaves h)
          go false h =
              ap (λ (s : State). bank_of s b) (controller.declined_same g p.state (Operation.reset c.sram c.kind c.mask) h) ∙ kept

      -- at rest and with the whole new bank it runs that bank
      pub rested_runs : running p.state.device ≡ false → bank_of p.state (not b) ≡ new_bank u
          → accepted_of (reset_by g p.state c).decline ≡ true → Runs (restarted g p.state c) (not b) (new_bank u)
      rested_runs off whole accepted =
          let r = (reset_by g p.state c).state in
          let cut = leaves accepted in
          let same = sym (new_bank_lem u r cut) ∙ same_bank p.state r (reset_idle g p.state c off) (not b) in
          whole_runs u r cut (same ∙ whole)

-- ---- run A and run B of an accepted update
module _ (g : Geometry) (s : State) (image : List ℕ) (update : Update g s image) where
  abbrev u : Fixed
  u = start_fixed g s image update (old s) refl

  stands : (srams : List (List ℕ)) → Stands u (turns_of g image (at s 0) srams)
  stands = stands_turns u (at s 0) (start_stands g s image update (old s) refl)

  module _ (A : List (List ℕ)) (reached : place_after g s image A ≡ total_of g) where
    abbrev a : State
    a = after_turns g s image A

    new_left : bank_of a (not (old s)) ≡ new_bank_of g s image
    new_left = done_bank u (turns_of g image (at s 0) A) (stands A) reached

    kept_a : OldKept s a
    kept_a = kept u (turns_of g image (at s 0) A) (stands A)

    -- an update of the same image from a state with the same old bank ends as A did: the new sequence number follows the same one
    pub same_end : (t : State) (again : Update g t image) → old t ≡ old s → bank_of t (old s) ≡ bank_of s (old s) → (C : List (List ℕ))
        → place_after g t image C ≡ total_of g → SameBanks a (after_turns g t image C)
    same_end t again boot same_old C end =
        let v = start_fixed g t image again (old s) boot in
        let q = turns_of g image (at t 0) C in
        let there = stands_turns v (at t 0) (start_stands g t image again (old s) boot) C in
        same_placed (old s) a (after_turns g t image C) (kept v q there ∙ same_old ∙ sym kept_a) (rw same_old at (done_bank v q there end) ∙ sym new_left)

    stays : (c : Cut) → SameBanks a (reset_by g a c).state
    stays c = reset_idle g a c (done_idle u (turns_of g image (at s 0) A) (stands A) reached)

    new_runs : (c : Cut) → Restarts g a c → Runs (restarted g a c) (not (old s)) (new_bank_of g s image)
    new_runs c restart =
        let p = turns_of g image (at s 0) A in
        rested_runs u p (stands A) c (done_idle u p (stands A) reached) new_left restart.reset

    module _ (B : List (List ℕ)) where
      abbrev b : State
      b = after_turns g s image B

      module _ (c : Cut) (restart : Restarts g b c) where
        after_b : Rested u (reset_by g b c).state
        after_b = leaves u (turns_of g image (at s 0) B) (stands B) c restart.reset

        old_or_new : Runs (restarted g b c) (old s) (bank_of s (old s)) ⊎ Runs (restarted g b c) (not (old s)) (bank_of a (not (old s)))
        old_or_new = rw new_left (one_runs u (reset_by g b c).state after_b)

        module _ (runs : Lower (restarted g b c) (old s)) where
          again : Update g (restarted g b c) image
          again = update_again u (reset_by g b c).state after_b runs

          ends : (C : List (List ℕ)) → place_after g (restarted g b c) image C ≡ total_of g → SameBanks a (after_turns g (restarted g b c) image C)
          ends = same_end (restarted g b c) again runs.0 (old_bank u (reset_by g b c).state after_b)

      all_claims : Claims g s image a b
      all_claims =
          record {
            new_runs = new_runs;
            new_left = new_left;
            banks_stay = λ c. (stays c, stays c);
            old_or_new = old_or_new;
            old_kept = (kept_a, kept u (turns_of g image (at s 0) B) (stands B));
            old_kept_cut = λ c. let same = kept_reset u (turns_of g image (at s 0) B) (stands B) c in (same, same);
            again = λ c restart runs. (again c restart runs, ends c restart runs);
            restarts =
                λ c short kind. (
                  restarts u (turns_of g image (at s 0) A) (stands A) c short kind,
                  restarts u (turns_of g image (at s 0) B) (stands B) c short kind,
                );
          }

pub power_fail : (g : Geometry) (image : List ℕ) → PowerFail g image
power_fail g image =
    record {
      starts = λ s update. (start_place g s image, start_total g s image update (old s) refl);
      claims = λ s update A B reached. all_claims g s image update A reached B;
      answers = λ s update srams sram short. stands_answers (u g s image update) (turns_of g image (at s 0) srams) (stands g s image update srams) sram short;
      within = λ s update srams. stands_within (u g s image update) (turns_of g image (at s 0) srams) (stands g s image update srams);
      reaches =
          λ s update srams short long.
          turns_raise (u g s image update) (at s 0) (start_stands g s image update (old s) refl) srams short (omega arith) ∙ omega arith;
      turns = λ p sram. every_turn g p.state image sram p.place;
      reset_declined = λ s c h. controller.declined_same g s (Operation.reset c.sram c.kind c.mask) h;
      start_up_declined = start_up_declined g;
      turn_keeps = turn_keeps g image;
      reset_keeps = λ s c. controller.keeps g s (Operation.reset c.sram c.kind c.mask);
      start_up_keeps = λ s. record { long = λ second. refl; page = λ second n h. refl };
    }
