-- A sign between a cut and the end of a start-up: the old bank is as it was, the new one loses the comparison or is whole, and no operation
-- runs. Every reset and every start-up that is cut keeps that; after a completed one the comparison has decided which bank runs, and where
-- the old one does the same start is accepted again. Nothing here speaks of the first start.
-- Assumes nothing.
use mathlib.Core.Path.{◌≡◌, sym, ap, ◌∙◌}
use mathlib.Core.Bool.{Bool, true, not}
use mathlib.Core.List.{List}
use mathlib.Core.Logic.{◌⊎◌, inl, inr}
use Prim.Native.Nat.{ℕ}
use lib.ListN.{length}
use Rattle.words.specs.Quad.{word_at}
use Rattle.words.specs.Decline.{accepted_of}
use Rattle.geometry.specs.Banks.{bank_words_of}
use Rattle.geometry.proofs.SizeLaws.{in-range}
use Rattle.sequence.specs.Sequence.{sequence_index_of, next_sequence_of}
use Rattle.device.specs.declared.record.Device.{Device}
use Rattle.device.specs.Record.{bfswap, pfswap}
use Rattle.device.specs.State.{State, bank_of}
use Rattle.common_declines.specs.Possible.{possible_of}
use Rattle.start_up.specs.StartUp.{start_up_of}
use Rattle.resets.specs.Reset.{reset_device_of}
use Rattle.update.specs.PowerFail.{Cut, started_up, Lower, Runs, Words, Update}
use Rattle.update.proofs.WordLaws.{chosen_of, next_wins}
use Rattle.update.proofs.RestartLaws.{Started, Waking, reset_fresh, fresh_wakes, reset_quad, start_up_answers, start_up_started, start_up_quad}
use Rattle.update.proofs.BankLaws.{same_word}
use Rattle.update.proofs.PlacedLaws.{placed, both_placed, not_both, bank_old, bank_new}
use Rattle.update.proofs.Blocks.{Fixed, Losing, old_word, new_bank}
use Rattle.update.proofs.CutLaws.{Outcome, AfterCut}
use Rattle.update.proofs.StartLaws.{can_start, accepted_again}

module _ (u : Fixed) where
  open u use {g, image, b, old, listed, image_long, image_words, old_words, valid, more}

  -- the bank that a reset chooses beside this new bank
  abbrev pub chosen : List ℕ → Bool
  chosen new = chosen_of b (old_word u) (word_at new (sequence_index_of g))

  -- the whole new bank wins
  pub new_wins : chosen (new_bank u) ≡ not b
  unfolding next_sequence_of
  new_wins = ap (chosen_of b (old_word u)) (same_word g (in-range g listed) image _ _ _ _ image_long) ∙ next_wins b (old_word u) valid more

  pub record Rested (t : State) : Type 0 where
    pub device : Device
    pub new : List ℕ
    pub state : t ≡ placed b device old new
    pub long : length new ≡ bank_words_of g
    pub outcome : Outcome u new
    pub quad : length device.nvmdata ≡ 4
    pub wakes : Waking g (chosen new) device

  -- so it is after a cut
  pub cut_rests : (place : ℕ) (d : Device) → possible_of g d ≡ true → length d.nvmdata ≡ 4 → (c : Cut) (t : State) → AfterCut u place d c t → Rested t
  cut_rests place d can four c t a =
      record {
        device = reset_device_of d c.kind (chosen a.new);
        new = a.new;
        state = a.state;
        long = a.long;
        outcome = a.outcome;
        quad = reset_quad d c.kind (chosen a.new) four;
        wakes = fresh_wakes g (chosen a.new) _ (reset_fresh g listed d can c.kind (chosen a.new));
      }

  -- ---- after a completed start-up
  module _ (t : State) (r : Rested t) where
    abbrev device : Device
    device = (start_up_of g r.device).device

    started : Started g (chosen r.new) device
    started = start_up_started g (chosen r.new) r.device r.wakes

    pub starts_up : accepted_of (start_up_of g t.device).decline ≡ true
    starts_up = ap (λ (s : State). accepted_of (start_up_of g s.device).decline) r.state ∙ start_up_answers g (chosen r.new) r.device r.wakes

    sign : started_up g t ≡ placed b device old r.new
    sign = ap (started_up g) r.state

    pub old_bank : bank_of (started_up g t) b ≡ old
    old_bank = ap (λ (s : State). bank_of s b) sign ∙ bank_old b device old r.new

    pub new_bank_lem : bank_of (started_up g t) (not b) ≡ r.new
    new_bank_lem = ap (λ (s : State). bank_of s (not b)) sign ∙ bank_new b device old r.new

    lower : (second : Bool) → chosen r.new ≡ second → Lower (started_up g t) second
    lower second h = (
      ap (λ (s : State). bfswap s.device) sign ∙ started.boot ∙ h,
      ap (λ (s : State). pfswap s.device) sign ∙ started.program ∙ h,
    )

    -- where the new bank is whole it runs
    pub whole_runs : r.new ≡ new_bank u → Runs (started_up g t) (not b) (new_bank u)
    whole_runs h = (lower (not b) (ap chosen h ∙ new_wins), new_bank_lem ∙ h)

    pub one_runs : Runs (started_up g t) b old ⊎ Runs (started_up g t) (not b) (new_bank u)
    one_runs = go r.outcome
      where
        go : Outcome u r.new → Runs (started_up g t) b old ⊎ Runs (started_up g t) (not b) (new_bank u)
        go (inl losing) = inl (lower b losing.loses.chosen, old_bank)
        go (inr h) = inr (whole_runs h)

    -- where it loses the old one runs
    pub losing_runs : Losing u r.new → Lower (started_up g t) b
    losing_runs losing = lower b losing.loses.chosen

    -- where the old one does, the same start is an update again
    pub update_again : Lower (started_up g t) b → Update g (started_up g t) image
    update_again runs = go r.outcome
      where
        go : Outcome u r.new → Update g (started_up g t) image
        go (inl losing) =
            let (one, two) = both_placed Words b old r.new old_words losing.words in
            rw sign
            (record {
              accepted = accepted_again u device r.new r.long losing (can_start g b device (rw losing.loses.chosen at started));
              one_words = one;
              two_words = two;
              new_words_lem = image_words;
              quad = start_up_quad g (chosen r.new) r.device r.wakes r.quad;
            })
        go (inr h) = not_both b (sym runs.0 ∙ (whole_runs h).0.0)
