-- A register read leaves all but the key step, so that the sentences say the whole device. Assumes nothing.
use mathlib.Core.Path.{◌≡◌, refl, sym, subst, ◌∙◌}
use Rattle.std.specs.Prelude.{Ok, Err}
use mathlib.Core.Bool.{Bool, true, false}
use mathlib.Core.List.{[]}
use Prim.Native.Nat.{ℕ, ◌≤◌, ◌<◌}
use native.Mathlib.Decide.{ℕ_discrete, dec_lt}
use native.Mathlib.Omega.{arith}
use lib.Dec.{ltb}
use borrow.Author.Tests.{eq-eqb, ne_eqb, lt-ltb, le-ltb}
use Rattle.words.specs.Word.{pick}
use Rattle.words.specs.declared.decline.Decline.{Decline}
use Rattle.words.specs.Decline.{Verdict, number_of, accepted_of, first_of}
use Rattle.words.proofs.Numbers.{numbers}
use Rattle.words.proofs.PickLaws.{pick_both}
use Rattle.geometry.specs.declared.banks.Geometry.{Geometry}
use Rattle.device.specs.declared.record.Device.{Device}
use Rattle.device.specs.Record.{register_of}
use Rattle.device.specs.ByNumber.{FourWords}
use Rattle.device.proofs.ByNumber.{known_by_numbers}
use Rattle.common_declines.specs.CommonDecline.{common_decline_of, Usable, CommonDeclines}
use Rattle.common_declines.proofs.DeclineLaws.{usable, used, common_first, common_fixes}
use Rattle.register_fields.specs.Fields.{key_after_read_of}
use Rattle.register_access.specs.RegisterRead.{RegisterRead}
use Rattle.register_access.specs.Store.{read_decline_of, register_read_of}
use Rattle.register_access.specs.ReadSentences.{RegisterReadSentences, RegisterReadsFixed}

module _ (g : Geometry) (d : Device) (r : ℕ) (four : FourWords d) where
  abbrev own : RegisterRead
  own = register_read_of g d r

  abbrev common : Verdict
  common = common_decline_of g d [] 0

  abbrev known : Verdict
  known = pick (ltb 10 r) (Err Decline.Register) (Ok tt)

  same_number : number_of own.decline ≡ number_of (first_of common known)
  unfolding register_read_of read_decline_of
  same_number =
      pick_both (λ (a : RegisterRead). number_of a.decline ≡ number_of (first_of common known)) (accepted_of (first_of common known)) refl refl

  by_number : Usable g d [] 0 → number_of own.decline ≡ number_of known
  by_number u = same_number ∙ rw (used g d [] 0 u)

  accepted_read : number_of own.decline ≡ 0 → accepted_of (read_decline_of g d r) ≡ true
  unfolding read_decline_of
  accepted_read h = eq-eqb _ _ (sym same_number ∙ h)

  refused : (number_of own.decline ≡ 0 → ⊥) → (own.device ≡ d) × (own.value ≡ 0)
  unfolding register_read_of read_decline_of
  refused h =
      let off : accepted_of (read_decline_of g d r) ≡ false = ne_eqb _ _ (λ e. h (same_number ∙ e)) in
      rw off (refl, refl)

  key_after : d.keystep ≡ 1 → key_after_read_of d.keystep ≡ 1
  unfolding key_after_read_of
  key_after e = rw e

  key_shut : (d.keystep ≡ 1 → ⊥) → key_after_read_of d.keystep ≡ 0
  unfolding key_after_read_of
  key_shut ne = go (dec_lt d.keystep 2)
    where
      go : Dec (d.keystep < 2) → pick (ltb d.keystep 2) d.keystep 0 ≡ 0
      go (yes l) = rw (lt-ltb d.keystep 2 l) (omega (arith, l, ne))
      go (no l) = rw (le-ltb d.keystep 2 (omega (arith, l)))

  sentences : RegisterReadSentences g d r own
  unfolding register_read_of register_of
  sentences =
      record {
        declines = subst (CommonDeclines g d [] 0) (sym same_number) (common_first g d [] 0 known);
        no_register = λ u l. by_number u ∙ rw (lt-ltb 10 r l);
        accepted = λ u l. by_number u ∙ rw (le-ltb 10 r l);
        declined = refused;
        value = λ h. rw (accepted_read h);
        key_kept = λ h e. rw (accepted_read h) (key_after e);
        key_closed = λ h ne. rw (accepted_read h) (key_shut ne);
        four = λ h. rw (accepted_read h) (record { data_words = four.data_words; launched_words = four.launched_words });
        registers = λ h q l. rw (accepted_read h);
        launched = λ h q low high. rw (accepted_read h);
        step = λ h. rw (accepted_read h);
      }

  module _ (a : RegisterRead) (m : RegisterReadSentences g d r a) where
    abbrev n : RegisterReadSentences g d r own
    n = sentences

    one_number : number_of a.decline ≡ number_of own.decline
    one_number = go (accepted_of common) refl (dec_lt 10 r)
      where
        u : accepted_of common ≡ true → Usable g d [] 0
        u = usable g d [] 0

        go : (t : Bool) → accepted_of common ≡ t → Dec (10 < r) → number_of a.decline ≡ number_of own.decline
        go false off d' = common_fixes g d [] 0 _ m.declines off ∙ sym (common_fixes g d [] 0 _ n.declines off)
        go true on (yes l) = m.no_register (u on) l ∙ sym (n.no_register (u on) l)
        go true on (no l) = let few : r ≤ 10 = omega (arith, l) in m.accepted (u on) few ∙ sym (n.accepted (u on) few)

    same_key : number_of a.decline ≡ 0 → a.device.keystep ≡ own.device.keystep
    same_key h = go (ℕ_discrete d.keystep 1)
      where
        k : number_of own.decline ≡ 0
        k = sym one_number ∙ h

        go : Dec (d.keystep ≡ 1) → a.device.keystep ≡ own.device.keystep
        go (yes e) = m.key_kept h e ∙ sym (n.key_kept k e)
        go (no e) = m.key_closed h e ∙ sym (n.key_closed k e)

    same_device : number_of a.decline ≡ 0 → a.device ≡ own.device
    same_device h =
        let k : number_of own.decline ≡ 0 = sym one_number ∙ h in
        known_by_numbers a.device own.device (m.four h) (n.four k)
        (record {
          registers = λ q l. m.registers h q l ∙ sym (n.registers k q l);
          launched = λ q low high. m.launched h q low high ∙ sym (n.launched k q low high);
          keystep = same_key h;
          step = m.step h ∙ sym (n.step k);
        })

    one_read : a ≡ own
    one_read = go (ℕ_discrete (number_of a.decline) 0)
      where
        decline : a.decline ≡ own.decline
        decline = numbers.one a.decline own.decline one_number

        go : Dec (number_of a.decline ≡ 0) → a ≡ own
        go (yes h) =
            let value = m.value h ∙ sym (n.value (sym one_number ∙ h)) in
            λ i. record { decline = decline i; value = value i; device = same_device h i }
        go (no off) =
            let (device, value) = m.declined off in
            let (same, zero) = n.declined (λ h. off (one_number ∙ h)) in
            λ i. record { decline = decline i; value = (value ∙ sym zero) i; device = (device ∙ sym same) i }

pub register_reads_fixed : RegisterReadsFixed
register_reads_fixed = record { meets = sentences; fixes = one_read }
