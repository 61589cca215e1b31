-- The tests of an update start, one after another, are the paper's conditions, each judged after those before it. Assumes nothing.
use Prim.Native.Nat.{ℕ, ◌+◌, ◌*◌, ◌-◌, ◌%◌, ◌<◌}
use Rattle.std.specs.Prelude.{Ok, Err}
use mathlib.Core.Path.{◌≡◌, refl, sym, ap, subst, ◌∙◌}
use mathlib.Core.Bool.{Bool, true, false, not, ◌&&◌, or-true}
use mathlib.Core.List.{List, [], ◌∷◌}
use mathlib.Core.Logic.{◌⊎◌, inl, inr}
use native.Mathlib.Decide.{ℕ_discrete}
use native.Mathlib.Omega.{arith}
use lib.ListN.{length}
use borrow.Author.Tests.{eq-eqb, ne_eqb, ltb-true, lt-ltb}
use Rattle.words.specs.Word.{pick, bit, any_below, has_of}
use Rattle.words.specs.Quad.{word_at}
use Rattle.words.specs.declared.decline.Decline.{Decline}
use Rattle.words.specs.Decline.{Verdict, number_of, accepted_of, first_of}
use Rattle.words.proofs.BitLaws.{true_not_false, has_bit}
use Rattle.words.proofs.FirstLaws.{any_some, some_any}
use Rattle.words.proofs.Numbers.{numbers}
use Rattle.words.proofs.PickLaws.{and_both}
use Rattle.geometry.specs.declared.banks.Geometry.{Geometry}
use Rattle.geometry.specs.Banks.{program_bytes_of}
use Rattle.sequence.specs.Sequence.{sequence_index_of, tseq_of, valid_of}
use Rattle.sequence.specs.Comparison.{compare_of}
use Rattle.device.specs.declared.record.Device.{Device}
use Rattle.device.specs.Registers.{UBWPULOCK}
use Rattle.device.specs.Record.{register_of, running, bfswap, pfswap}
use Rattle.device.specs.State.{State, bank_of}
use Rattle.protection.specs.Protection.{pwp_of}
use Rattle.common_declines.specs.CommonDecline.{common_decline_of, Usable, CommonDeclines}
use Rattle.common_declines.proofs.DeclineLaws.{usable, used, common_first, common_fixes}
use Rattle.reads.proofs.StepsLaws.{same_equal, equal_same}
use Rattle.resets.specs.Reset.{compared_of}
use Rattle.update.specs.Answers.{Started}
use Rattle.update.specs.Actions.{total_of}
use Rattle.update.specs.Start.{lower_word_of, other_word_of, clash_of, lower_valid_of, reset_keeps_of, swaps_agree_of, other_safe_of, sequence_allows_of}
use Rattle.update.specs.Start.{next_exists_of, upper_free_of, start_decline_of, start_of}
use Rattle.update.specs.StartSentences.{sequence_in, lower_in, other_in, Clash, Allowed, UpperFree, Startable, StartSentences, StartsFixed}
use Rattle.update.proofs.WordLaws.{clash_bits, no_clash}

-- ---- a bit position at 1 in both halves
is_clash : (w : ℕ) → clash_of w ≡ true → Clash w
is_clash w h = go (any_below both 16) refl
  where
    both : ℕ → Bool
    both k = bit k w && bit (16 + k) w

    clash : (k : ℕ) → k < 16 → both k ≡ true → Clash w
    clash k l e = let (low, high) = and_both (bit k w) (bit (16 + k) w) e in record { at = k; inside = l; low = low; high = high }

    none : any_below both 16 ≡ false → (k : ℕ) → k < 16 → (t : Bool) → both k ≡ t → both k ≡ false
    none off k l false e = e
    none off k l true e = absurd (true_not_false (sym (some_any both 16 k l e) ∙ off))

    go : (t : Bool) → any_below both 16 ≡ t → Clash w
    go true e = let s = any_some both 16 e in clash s.number s.below s.holds
    go false e = absurd (true_not_false (sym h ∙ no_clash w (λ k l. none e k l (both k) refl)))

clash_is : (w : ℕ) → Clash w → clash_of w ≡ true
clash_is w c = go (clash_of w) refl
  where
    go : (t : Bool) → clash_of w ≡ t → clash_of w ≡ true
    go true e = e
    go false e =
        let off : (bit c.at w && bit (16 + c.at) w) ≡ false = clash_bits w e c.at c.inside in
        absurd (true_not_false (rw (c.low, c.high) at off))

-- ---- each test is its condition
module _ (g : Geometry) (s : State) where
  abbrev d : Device
  d = s.device

  index : sequence_index_of g ≡ g.b * (32 * g.q) - 4
  index = omega arith

  pub wr : bit 15 (register_of d 0) ≡ running d
  unfolding register_of
  wr = sym (has_bit 15 d.nvmcon.0)

  bfswap_bit : bit 6 (register_of d 0) ≡ bfswap d
  unfolding register_of
  bfswap_bit = sym (has_bit 6 d.nvmcon.0)

  pfswap_bit : bit 7 (register_of d 0) ≡ pfswap d
  unfolding register_of
  pfswap_bit = sym (has_bit 7 d.nvmcon.0)

  pub lower_word : lower_in g s ≡ lower_word_of g s
  lower_word = rw (bfswap_bit, sym index) (by_swap (bfswap d))
    where
      by_swap : (t : Bool) → word_at (bank_of s t) (sequence_index_of g) ≡ word_at (pick t s.two s.one) (sequence_index_of g)
      by_swap t = refl

  other_word : other_in g s ≡ other_word_of g s
  other_word = rw (bfswap_bit, sym index) (by_swap (bfswap d))
    where
      by_swap : (t : Bool) → word_at (bank_of s (not t)) (sequence_index_of g) ≡ word_at (pick t s.one s.two) (sequence_index_of g)
      by_swap true = refl
      by_swap false = refl

  upper_bit : bit 7 (register_of d 9) ≡ has_of d.nvmbwp.0 UBWPULOCK
  unfolding register_of
  upper_bit = sym (has_bit 7 d.nvmbwp.0)

  pwp_field : register_of d 8 % 0x100_0000 ≡ pwp_of d
  unfolding register_of
  pwp_field = refl

  choice : (compare_of (sequence_in g s.one) (sequence_in g s.two)).second ≡ compared_of g s.one s.two
  choice = ap (λ (n : ℕ). (compare_of (word_at s.one n) (word_at s.two n)).second) (sym index)

  other_clause : other_safe_of g s ≡ true → (valid_of (other_in g s) ≡ true) ⊎ Clash (other_in g s)
  other_clause h = rw other_word (go (valid_of (other_word_of g s)) refl)
    where
      go : (t : Bool) → valid_of (other_word_of g s) ≡ t → (valid_of (other_word_of g s) ≡ true) ⊎ Clash (other_word_of g s)
      go true e = inl e
      go false e = inr (is_clash (other_word_of g s) (rw e at h))

  clause_other : (valid_of (other_in g s) ≡ true) ⊎ Clash (other_in g s) → other_safe_of g s ≡ true
  clause_other (inl v) = rw (rw other_word at v)
  clause_other (inr c) = rw (clash_is (other_word_of g s) (subst Clash other_word c)) (or-true (valid_of (other_word_of g s)))

  allowed : sequence_allows_of g s ≡ true → Allowed g s
  unfolding sequence_allows_of
  allowed h =
      let (valid, rest) = and_both (lower_valid_of g s) _ h in
      let (keeps, more) = and_both (reset_keeps_of g s) _ rest in
      let (swaps, other) = and_both (swaps_agree_of s) (other_safe_of g s) more in
      record {
        valid = rw lower_word valid;
        chosen = choice ∙ same_equal _ _ keeps ∙ sym bfswap_bit;
        swaps = pfswap_bit ∙ same_equal _ _ swaps ∙ sym bfswap_bit;
        other = other_clause other;
      }

  allows : Allowed g s → sequence_allows_of g s ≡ true
  unfolding sequence_allows_of
  allows a =
      rw (rw lower_word at a.valid, equal_same _ _ (sym choice ∙ a.chosen ∙ bfswap_bit), equal_same _ _ (sym pfswap_bit ∙ a.swaps ∙ bfswap_bit))
      (clause_other a.other)

  upper_free : upper_free_of g d ≡ true → UpperFree g s
  unfolding upper_free_of
  upper_free h =
      let (unlocked, below) = and_both (has_of d.nvmbwp.0 UBWPULOCK) _ h in
      record { unlocked = upper_bit ∙ unlocked; pwp = rw pwp_field (ltb-true (pwp_of d) (program_bytes_of g) below) }

  frees_upper : UpperFree g s → upper_free_of g d ≡ true
  unfolding upper_free_of
  frees_upper u = rw (sym upper_bit ∙ u.unlocked) (lt-ltb (pwp_of d) (program_bytes_of g) (rw pwp_field at u.pwp))

  last_is : lower_in g s % 65536 ≡ 65535 → next_exists_of g s ≡ false
  last_is e = ap not (eq-eqb (tseq_of (lower_word_of g s)) 65535 (rw lower_word at e))

  not_last : (lower_in g s % 65536 ≡ 65535 → ⊥) → next_exists_of g s ≡ true
  not_last ne = ap not (ne_eqb (tseq_of (lower_word_of g s)) 65535 (λ e. ne (rw lower_word e)))

-- what does not imply what is asked is not so
fails : {A : Type 0} (t : Bool) → (t ≡ true → A) → (A → ⊥) → t ≡ false
fails true f off = absurd (off (f refl))
fails false f off = refl

-- ---- the call
module _ (g : Geometry) (s : State) (image : List ℕ) where
  abbrev lent : List ℕ
  lent = length s.one ∷ length s.two ∷ length image ∷ []

  abbrev own : Started
  own = start_of g s image

  abbrev tests : Verdict
  tests =
      pick (running s.device) (Err Decline.Running)
      (pick (sequence_allows_of g s)
      (pick (next_exists_of g s)
      (pick (upper_free_of g s.device) (Ok tt) (Err Decline.Protection))
      (Err Decline.LastSequence))
      (Err Decline.Sequence))

  same_number : number_of own.decline ≡ number_of (first_of (common_decline_of g s.device lent 0) tests)
  unfolding start_of start_decline_of
  same_number = refl

  by_tests : Usable g s.device lent 0 → number_of own.decline ≡ number_of tests
  by_tests u = same_number ∙ rw (used g s.device lent 0 u)

  idle : Startable g s image → running s.device ≡ false
  idle u = sym (wr g s) ∙ u.idle

  accepted_total : number_of own.decline ≡ 0 → own.total ≡ total_of g
  unfolding start_of
  accepted_total h = rw (eq-eqb (number_of (start_decline_of g s (length image))) 0 h)

  declined_total : (number_of own.decline ≡ 0 → ⊥) → own.total ≡ 0
  unfolding start_of
  declined_total off = rw (ne_eqb (number_of (start_decline_of g s (length image))) 0 off)

  sentences : StartSentences g s image own
  unfolding start_of total_of
  sentences =
      record {
        declines = subst (CommonDeclines g s.device lent 0) (sym same_number) (common_first g s.device lent 0 tests);
        running = λ u on. by_tests u ∙ rw (sym (wr g s) ∙ on);
        sequence = λ u off. by_tests u.usable ∙ rw (idle u, fails (sequence_allows_of g s) (allowed g s) off);
        last = λ u a e. by_tests u.usable ∙ rw (idle u, allows g s a, last_is g s e);
        protection = λ u a ne off.
            by_tests u.usable ∙ rw (idle u, allows g s a, not_last g s ne, fails (upper_free_of g s.device) (upper_free g s) off);
        accepted = λ u a ne free. by_tests u.usable ∙ rw (idle u, allows g s a, not_last g s ne, frees_upper g s free);
        place = refl;
        total = accepted_total;
        no_total = declined_total;
      }

  module _ (a : Started) (m : StartSentences g s image a) where
    one_number : number_of a.decline ≡ number_of own.decline
    one_number = go (accepted_of (common_decline_of g s.device lent 0)) refl (bit 15 (register_of s.device 0)) refl
      where
        n : StartSentences g s image own
        n = sentences

        startable : accepted_of (common_decline_of g s.device lent 0) ≡ true → bit 15 (register_of s.device 0) ≡ false → Startable g s image
        startable on off = record { usable = usable g s.device lent 0 on; idle = off }

        by_upper : Startable g s image → Allowed g s → (lower_in g s % 65536 ≡ 65535 → ⊥) → (t : Bool) → upper_free_of g s.device ≡ t
            → number_of a.decline ≡ number_of own.decline
        by_upper u ok ne true e = let free = upper_free g s e in m.accepted u ok ne free ∙ sym (n.accepted u ok ne free)
        by_upper u ok ne false e =
            let off : UpperFree g s → ⊥ = λ free. true_not_false (sym (frees_upper g s free) ∙ e) in
            m.protection u ok ne off ∙ sym (n.protection u ok ne off)

        by_last : Startable g s image → Allowed g s → Dec (lower_in g s % 65536 ≡ 65535) → number_of a.decline ≡ number_of own.decline
        by_last u ok (yes e) = m.last u ok e ∙ sym (n.last u ok e)
        by_last u ok (no ne) = by_upper u ok ne (upper_free_of g s.device) refl

        by_sequence : Startable g s image → (t : Bool) → sequence_allows_of g s ≡ t → number_of a.decline ≡ number_of own.decline
        by_sequence u true e = by_last u (allowed g s e) (ℕ_discrete (lower_in g s % 65536) 65535)
        by_sequence u false e =
            let off : Allowed g s → ⊥ = λ ok. true_not_false (sym (allows g s ok) ∙ e) in
            m.sequence u off ∙ sym (n.sequence u off)

        go : (t : Bool) → accepted_of (common_decline_of g s.device lent 0) ≡ t → (w : Bool) → bit 15 (register_of s.device 0) ≡ w
            → number_of a.decline ≡ number_of own.decline
        go false off w e = common_fixes g s.device lent 0 _ m.declines off ∙ sym (common_fixes g s.device lent 0 _ n.declines off)
        go true on true e =
            let u = usable g s.device lent 0 on in
            m.running u e ∙ sym (n.running u e)
        go true on false e = by_sequence (startable on e) (sequence_allows_of g s) refl

    same_total : a.total ≡ own.total
    same_total = go (ℕ_discrete (number_of a.decline) 0)
      where
        go : Dec (number_of a.decline ≡ 0) → a.total ≡ own.total
        go (yes h) = m.total h ∙ sym (sentences.total (sym one_number ∙ h))
        go (no off) = m.no_total off ∙ sym (sentences.no_total (λ h. off (one_number ∙ h)))

    one_start : a ≡ own
    one_start =
        let decline = numbers.one a.decline own.decline one_number in
        let place = m.place ∙ sym sentences.place in
        λ i. record { decline = decline i; place = place i; total = same_total i }

pub starts_fixed : StartsFixed
starts_fixed = record { meets = sentences; fixes = one_start }
