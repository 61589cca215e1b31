-- A start-up is its stores one after another, and its declines are told by two tests. Assumes nothing.
use mathlib.Core.Path.{◌≡◌, refl, sym, subst, ◌∙◌}
use Rattle.std.specs.Prelude.{Ok, Err}
use mathlib.Core.Bool.{Bool, true, false}
use mathlib.Core.List.{[]}
use native.Mathlib.Decide.{ℕ_discrete}
use borrow.Author.Tests.{eq-eqb, ne_eqb}
use Rattle.words.specs.Word.{pick, bit}
use Rattle.words.specs.declared.decline.Decline.{Decline}
use Rattle.words.specs.Decline.{Verdict, number_of, accepted_of, first_of}
use Rattle.words.proofs.BitLaws.{has_bit}
use Rattle.words.proofs.Numbers.{numbers}
use Rattle.geometry.specs.declared.banks.Geometry.{Geometry}
use Rattle.device.specs.declared.record.Device.{Device}
use Rattle.device.specs.Record.{register_of, running, bfswap}
use Rattle.common_declines.specs.CommonDecline.{common_decline_of, Usable, CommonDeclines}
use Rattle.common_declines.proofs.DeclineLaws.{usable, used, common_first, common_fixes}
use Rattle.start_up.specs.StartedUp.{StartedUp}
use Rattle.start_up.specs.StartUp.{start_up_stores, start_up_decline_of, start_up_of}
use Rattle.start_up.specs.StartUpSentences.{stored_to, swapped, StartUpSentences, StartUpsFixed}

module _ (g : Geometry) (d : Device) where
  abbrev own : StartedUp
  own = start_up_of g d

  abbrev common : Verdict
  common = common_decline_of g d [] 0

  abbrev idle : Verdict
  idle = pick (running d) (Err Decline.Running) (Ok tt)

  same_number : number_of own.decline ≡ number_of (first_of common idle)
  unfolding start_up_of start_up_decline_of
  same_number = refl

  by_wr : Usable g d [] 0 → number_of own.decline ≡ number_of idle
  by_wr u = same_number ∙ rw (used g d [] 0 u)

  wr : bit 15 (register_of d 0) ≡ running d
  unfolding register_of
  wr = sym (has_bit 15 d.nvmcon.0)

  swap : bit 6 (register_of d 0) ≡ bfswap d
  unfolding register_of
  swap = sym (has_bit 6 d.nvmcon.0)

  accepted_start : number_of own.decline ≡ 0 → accepted_of (start_up_decline_of g d) ≡ true
  unfolding start_up_decline_of
  accepted_start h = eq-eqb _ _ (sym same_number ∙ h)

  refused : (number_of own.decline ≡ 0 → ⊥) → own.device ≡ d
  unfolding start_up_of start_up_decline_of
  refused h =
      let off : accepted_of (start_up_decline_of g d) ≡ false = ne_eqb _ _ (λ e. h (same_number ∙ e)) in
      rw off

  swaps : number_of own.decline ≡ 0 → bit 6 (register_of d 0) ≡ true → own.device ≡ stored_to g 10 2 0xC0 (swapped g d)
  unfolding start_up_of start_up_stores
  swaps h on = rw (accepted_start h, sym swap ∙ on)

  stays : number_of own.decline ≡ 0 → bit 6 (register_of d 0) ≡ false → own.device ≡ stored_to g 10 2 0xC0 d
  unfolding start_up_of start_up_stores
  stays h off = rw (accepted_start h, sym swap ∙ off)

  sentences : StartUpSentences g d own
  sentences =
      record {
        declines = subst (CommonDeclines g d [] 0) (sym same_number) (common_first g d [] 0 idle);
        running = λ u on. by_wr u ∙ rw (sym wr ∙ on);
        accepted = λ u off. by_wr u ∙ rw (sym wr ∙ off);
        declined = refused;
        swaps = swaps;
        stays = stays;
      }

  module _ (a : StartedUp) (m : StartUpSentences g d a) where
    one_number : number_of a.decline ≡ number_of own.decline
    one_number = go (accepted_of common) refl (bit 15 (register_of d 0)) refl
      where
        u : accepted_of common ≡ true → Usable g d [] 0
        u = usable g d [] 0

        go : (t : Bool) → accepted_of common ≡ t → (w : Bool) → bit 15 (register_of d 0) ≡ w → number_of a.decline ≡ number_of own.decline
        go false off w e = common_fixes g d [] 0 _ m.declines off ∙ sym (common_fixes g d [] 0 _ sentences.declines off)
        go true on true e = m.running (u on) e ∙ sym (sentences.running (u on) e)
        go true on false e = m.accepted (u on) e ∙ sym (sentences.accepted (u on) e)

    same_device : a.device ≡ own.device
    same_device = go (ℕ_discrete (number_of a.decline) 0) (bit 6 (register_of d 0)) refl
      where
        go : Dec (number_of a.decline ≡ 0) → (s : Bool) → bit 6 (register_of d 0) ≡ s → a.device ≡ own.device
        go (no off) s e = m.declined off ∙ sym (refused (λ h. off (one_number ∙ h)))
        go (yes h) true e = m.swaps h e ∙ sym (swaps (sym one_number ∙ h) e)
        go (yes h) false e = m.stays h e ∙ sym (stays (sym one_number ∙ h) e)

    one_start_up : a ≡ own
    one_start_up =
        let decline = numbers.one a.decline own.decline one_number in
        λ i. record { decline = decline i; device = same_device i }

pub start_ups_fixed : StartUpsFixed
start_ups_fixed = record { meets = sentences; fixes = one_start_up }
