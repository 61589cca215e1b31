-- An accepted start is where the invariant holds, and a restarted sign whose new bank loses is where the same start is accepted again.
-- Assumes nothing.
use mathlib.Core.Path.{◌≡◌, refl, sym, ap, ◌∙◌}
use Rattle.std.specs.Prelude.{Ok, Err}
use mathlib.Core.Bool.{Bool, true, false, not, ◌&&◌, ◌||◌}
use mathlib.Core.List.{List, [], ◌∷◌}
use Prim.Native.Nat.{ℕ, ◌<◌}
use native.Mathlib.Nat.{mul-le-mul}
use native.Mathlib.Omega.{arith}
use lib.Dec.{eqb, ltb}
use lib.ListN.{length}
use borrow.Author.Tests.{ltb-true, lt-ltb, not-true}
use Rattle.words.specs.Word.{pick, has_of}
use Rattle.words.specs.Quad.{word_at}
use Rattle.words.proofs.PickLaws.{and_both}
use Rattle.geometry.specs.declared.banks.Geometry.{Geometry}
use Rattle.words.specs.declared.decline.Decline.{Decline}
use Rattle.geometry.specs.Banks.{in_range_of, program_bytes_of, bank_words_of}
use Rattle.words.specs.Decline.{accepted_of}
use Rattle.sequence.specs.Sequence.{sequence_index_of, tseq_of, valid_of}
use Rattle.words.proofs.DeclineLaws.{held, passed, neither}
use Rattle.geometry.proofs.SizeLaws.{in-range}
use Rattle.device.specs.declared.record.Device.{Device}
use Rattle.device.specs.Registers.{UBWPULOCK}
use Rattle.device.specs.Record.{running, bfswap, pfswap}
use Rattle.protection.specs.Protection.{pwp_of}
use Rattle.common_declines.specs.CommonDecline.{common_decline_of}
use Rattle.common_declines.proofs.CommonDeclineLaws.{ready, opens}
use Rattle.reads.specs.Read.{same}
use Rattle.reads.proofs.StepsLaws.{same_equal, equal_same}
use Rattle.resets.specs.Reset.{compared_of}
use Rattle.device.specs.State.{State, bank_of}
use Rattle.controller.specs.Controller.{Sound}
use Rattle.register_access.proofs.AcceptedLaws.{AtRest}
use Rattle.update.specs.Actions.{total_of}
use Rattle.update.specs.Start.{lower_word_of, other_word_of, clash_of, lower_valid_of, reset_keeps_of, swaps_agree_of, other_safe_of, sequence_allows_of}
use Rattle.update.specs.Start.{next_exists_of, upper_free_of, start_decline_of, start_of}
use Rattle.update.specs.PowerFail.{Words, at, Update}
use Rattle.update.proofs.WordLaws.{chosen_of}
use Rattle.update.proofs.RestartLaws.{Started}
use Rattle.update.proofs.PlacedLaws.{placed, replaced, both_placed, either_placed, compared_placed, lower_placed, other_placed}
use Rattle.update.proofs.Blocks.{Fixed, Begins, Losing, Stands}
use Rattle.update.proofs.Blocks.Block.{prologue}
use Rattle.update.proofs.PhaseLaws.{enters}

-- what an accepted start tells
pub record Starts (g : Geometry) (s : State) (image : List ℕ) : Type 0 where
  pub listed : in_range_of g ≡ true
  pub sound : Sound g s
  pub image_long : length image ≡ bank_words_of g
  pub idle : running s.device ≡ false
  pub valid : lower_valid_of g s ≡ true
  pub keeps : compared_of g s.one s.two ≡ bfswap s.device
  pub agree : pfswap s.device ≡ bfswap s.device
  pub safe : other_safe_of g s ≡ true
  pub more : next_exists_of g s ≡ true
  pub lock : has_of s.device.nvmbwp.0 UBWPULOCK ≡ true
  pub reach : pwp_of s.device < program_bytes_of g

pub starts : (g : Geometry) (s : State) (image : List ℕ) → accepted_of (start_of g s image).decline ≡ true → Starts g s image
unfolding start_of start_decline_of sequence_allows_of upper_free_of
starts g s image h =
    let s0 = neither (common_decline_of g s.device (length s.one ∷ length s.two ∷ length image ∷ []) 0) _ h in
    let opened = ready g s.device (length s.one ∷ length s.two ∷ length image ∷ []) 0 s0.0 in
    let s1 = passed (running s.device) (Err Decline.Running) _ refl s0.1 in
    let s2 = held (lower_valid_of g s && (reset_keeps_of g s && (swaps_agree_of s && other_safe_of g s))) _ (Err Decline.Sequence) refl s1.1 in
    let s3 = held (next_exists_of g s) _ (Err Decline.LastSequence) refl s2.1 in
    let s4 = held (has_of s.device.nvmbwp.0 UBWPULOCK && ltb (pwp_of s.device) (program_bytes_of g)) (Ok tt) (Err Decline.Protection) refl s3.1 in
    let c0 = and_both (lower_valid_of g s) _ s2.0 in
    let c1 = and_both (reset_keeps_of g s) _ c0.1 in
    let c2 = and_both (swaps_agree_of s) (other_safe_of g s) c1.1 in
    let u = and_both (has_of s.device.nvmbwp.0 UBWPULOCK) (ltb (pwp_of s.device) (program_bytes_of g)) s4.0 in
    record {
      listed = opened.lent.listed;
      sound = record { possible = opened.possible; first = opened.lent.banks.0; other = opened.lent.banks.1.0 };
      image_long = opened.lent.banks.1.1.0;
      idle = s1.0;
      valid = c0.0;
      keeps = same_equal _ _ c1.0;
      agree = same_equal _ _ c2.0;
      safe = c2.1;
      more = s3.0;
      lock = u.0;
      reach = ltb-true _ _ u.1;
    }

module _ (g : Geometry) (s : State) (image : List ℕ) (update : Update g s image) (b : Bool) (boot : bfswap s.device ≡ b) where
  pub facts : Starts g s image
  facts = starts g s image update.accepted

  -- its words, by which bank is old
  lower : lower_word_of g s ≡ word_at (bank_of s b) (sequence_index_of g)
  lower = ap (lower_word_of g) (replaced b s) ∙ lower_placed b s.device (bank_of s b) (bank_of s (not b)) g boot

  other : other_word_of g s ≡ word_at (bank_of s (not b)) (sequence_index_of g)
  other = ap (other_word_of g) (replaced b s) ∙ other_placed b s.device (bank_of s b) (bank_of s (not b)) g boot

  compared : compared_of g s.one s.two ≡ chosen_of b (word_at (bank_of s b) (sequence_index_of g)) (word_at (bank_of s (not b)) (sequence_index_of g))
  compared = ap (λ (t : State). compared_of g t.one t.two) (replaced b s) ∙ compared_placed b s.device (bank_of s b) (bank_of s (not b)) g

  pub lower_valid : valid_of (word_at (bank_of s b) (sequence_index_of g)) ≡ true
  lower_valid = rw lower at facts.valid

  pub lower_more : eqb (tseq_of (word_at (bank_of s b) (sequence_index_of g))) 65535 ≡ false
  lower_more = not-true _ (rw lower at facts.more)

  -- what stays through it
  abbrev pub start_fixed : Fixed
  start_fixed =
      record {
        g = g;
        image = image;
        b = b;
        old = bank_of s b;
        listed = facts.listed;
        image_long = facts.image_long;
        image_words = update.new_words_lem;
        old_long = either_placed (λ (l : List ℕ). length l ≡ bank_words_of g) b s facts.sound.first facts.sound.other;
        old_words = either_placed Words b s update.one_words update.two_words;
        valid = lower_valid;
        more = lower_more;
      }

  start_begins : Begins start_fixed s.device
  start_begins =
      record {
        rest = record { listed = facts.listed; range = in-range g facts.listed; possible = facts.sound.possible; idle = facts.idle };
        boot = boot;
        program = facts.agree ∙ boot;
        lock = facts.lock;
        reach = facts.reach;
        quad = update.quad;
      }

  start_losing : Losing start_fixed (bank_of s (not b))
  start_losing =
      record {
        words = either_placed Words (not b) s update.one_words update.two_words;
        loses = record { chosen = sym compared ∙ facts.keeps ∙ boot; safe = rw other at facts.safe };
      }

  pub start_stands : Stands start_fixed (at s 0)
  start_stands =
      record {
        device = s.device;
        new = bank_of s (not b);
        state = replaced b s;
        sound = facts.sound;
        quad = update.quad;
        phase = enters start_fixed prologue tt s.device start_begins (bank_of s (not b)) start_losing 0 refl;
      }

  pub start_total : (start_of g s image).total ≡ total_of g
  unfolding start_of
  start_total = rw update.accepted

pub start_place : (g : Geometry) (s : State) (image : List ℕ) → (start_of g s image).place ≡ 0
unfolding start_of
start_place g s image = refl

-- ---- accepted again
-- a device with which a start is declined for no reason of its own
pub record CanStart (g : Geometry) (b : Bool) (f : Device) : Type 0 where
  pub rest : AtRest g f
  pub boot : bfswap f ≡ b
  pub program : pfswap f ≡ b
  pub lock : has_of f.nvmbwp.0 UBWPULOCK ≡ true
  pub reach : pwp_of f < program_bytes_of g

-- as after a start-up
pub can_start : (g : Geometry) (b : Bool) (f : Device) → Started g b f → CanStart g b f
can_start g b f started =
    let ok = started.rest.range in
    record {
      rest = started.rest;
      boot = started.boot;
      program = started.program;
      lock = started.lock;
      reach = omega (arith, started.pwp, mul-le-mul ok.p_low ok.q_low);
    }

module _ (u : Fixed) (f : Device) (new : List ℕ) where
  open u use {g, image, b, old, listed, image_long, old_long, valid, more}

  pub accepted_again : length new ≡ bank_words_of g → Losing u new → CanStart g b f → accepted_of (start_of g (placed b f old new) image).decline ≡ true
  unfolding start_of start_decline_of sequence_allows_of upper_free_of
  accepted_again long losing started =
      rw (opened, started.rest.idle, lower_ok, keeps, agree, safe, next, started.lock, lt-ltb _ _ started.reach)
    where
      lower_is : lower_word_of g (placed b f old new) ≡ word_at old (sequence_index_of g)
      lower_is = lower_placed b f old new g started.boot

      opened : common_decline_of g f (length (pick b new old) ∷ length (pick b old new) ∷ length image ∷ []) 0 ≡ Ok tt
      opened =
          let (first, other) = both_placed (λ (l : List ℕ). length l ≡ bank_words_of g) b old new old_long long in
          opens g f (length (pick b new old) ∷ length (pick b old new) ∷ length image ∷ []) 0 listed (first, (other, (image_long, tt))) (omega arith)
          started.rest.possible

      lower_ok : lower_valid_of g (placed b f old new) ≡ true
      lower_ok = ap valid_of lower_is ∙ valid

      keeps : reset_keeps_of g (placed b f old new) ≡ true
      keeps = equal_same _ _ (compared_placed b f old new g ∙ losing.loses.chosen ∙ sym started.boot)

      agree : swaps_agree_of (placed b f old new) ≡ true
      agree = equal_same _ _ (started.program ∙ sym started.boot)

      safe : other_safe_of g (placed b f old new) ≡ true
      safe = ap (λ (w : ℕ). valid_of w || clash_of w) (other_placed b f old new g started.boot) ∙ losing.loses.safe

      next : next_exists_of g (placed b f old new) ≡ true
      next = rw (lower_is, more)

-- with the whole new bank it is declined 10: a reset would choose that bank
module _ (u : Fixed) (f : Device) (new : List ℕ) where
  open u use {g, image, b, old, listed, image_long, old_long, valid}

  pub declined_whole : length new ≡ bank_words_of g → chosen_of b (word_at old (sequence_index_of g)) (word_at new (sequence_index_of g)) ≡ not b
      → CanStart g b f
      → (start_of g (placed b f old new) image).decline ≡ Err Decline.Sequence
  unfolding start_of start_decline_of sequence_allows_of
  declined_whole long wins can =
      let (first, other) = both_placed (λ (l : List ℕ). length l ≡ bank_words_of g) b old new old_long long in
      let opened = opens g f (length (pick b new old) ∷ length (pick b old new) ∷ length image ∷ []) 0 listed (first, (other, (image_long, tt)))
      (omega arith) can.rest.possible in
      rw (opened, can.rest.idle, ap valid_of (lower_placed b f old new g can.boot) ∙ valid, loses)
    where
      loses : reset_keeps_of g (placed b f old new) ≡ false
      loses = rw (compared_placed b f old new g ∙ wins, can.boot) (go b)
        where
          go : (t : Bool) → same (not t) t ≡ false
          go true = refl
          go false = refl
