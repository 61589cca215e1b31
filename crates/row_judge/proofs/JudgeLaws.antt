-- What declines 1, 2 and 19 tell where none applies: the queue's entries are records of the list, each once, and the banks lie in the store, apart.
-- And back: where these hold, none applies. Assumes nothing.
use Prim.Native.Nat.{ℕ, ◌+◌, ◌*◌, ◌/◌, ◌%◌, ◌≤◌, ◌<◌}
use Rattle.std.specs.Prelude.{Ok, Err}
use mathlib.Core.Path.{◌≡◌, refl, sym, ◌∙◌}
use mathlib.Core.Logic.{inl, inr, ⊎_swap}
use mathlib.Core.Bool.{Bool, true, false, not, ◌&&◌, ◌||◌, or-true}
use mathlib.Core.List.{List, [], ◌∷◌}
use native.Mathlib.Decide.{dec_lt, ℕ_discrete}
use native.Mathlib.Omega.{arith}
use lib.Dec.{eqb, leb, ltb}
use lib.ListN.{get_or}
use borrow.Author.Tests.{ltb-true, leb-true, eq-eqb, eqb-true, not-true, lt-ltb, le-leb}
use Rattle.words.specs.Word.{pick, all_below, any_below}
use Rattle.words.specs.declared.decline.Decline.{Decline}
use Rattle.words.specs.Decline.{accepted_of}
use Rattle.words.proofs.BitLaws.{true_not_false}
use Rattle.words.proofs.PickLaws.{and_both, all-below, all_hold}
use Rattle.words.proofs.FirstLaws.{any_some, some_any}
use Rattle.words.proofs.DeclineLaws.{held, neither}
use Rattle.geometry.specs.declared.banks.Geometry.{Geometry}
use Rattle.geometry.specs.Banks.{in_range_of, bank_words_of}
use Rattle.geometry.specs.Lent.{most_sram, lengths_fit_of, lent_decline_of, lent_decline_up_to}
use Rattle.geometry.proofs.LentLaws.{fits}
use Rattle.row_signs.specs.declared.sign.Sign.{Sign}
use Rattle.row_signs.specs.declared.queue.Queue.{Queue}
use Rattle.row_signs.specs.Signs.{sign_at}
use Rattle.row_judge.specs.Judge.{most, in_row_of, entry_stands_of, queue_stands_of, start_of, apart_of, bank_stands_of, banks_stand_of}
use Rattle.row_judge.specs.Judge.{row_stands_of, row_decline_of, Apart, SignsApart, Judged}

in_row : (n : ℕ) → in_row_of n ≡ true → (0 < n) × (n ≤ most)
in_row n h = let s = and_both (ltb 0 n) (leb n most) h in (ltb-true _ _ s.0, leb-true _ _ s.1)

-- ---- the queue
-- entry p is that of an earlier one
abbrev repeated : Queue → ℕ → ℕ → Bool
repeated q p e = eqb (get_or q.numbers e 0) (get_or q.numbers p 0)

module _ (q : Queue) (n p : ℕ) (h : entry_stands_of q n p ≡ true) where
  both : (ltb (get_or q.numbers p 0) n ≡ true) × (not (any_below (repeated q p) p) ≡ true)
  unfolding entry_stands_of
  both = and_both (ltb (get_or q.numbers p 0) n) (not (any_below (repeated q p) p)) h

  entry_listed : get_or q.numbers p 0 < n
  entry_listed = ltb-true _ _ both.0

  entry_once : (e : ℕ) → e < p → get_or q.numbers e 0 ≡ get_or q.numbers p 0 → ⊥
  entry_once e l same = true_not_false (sym (some_any (repeated q p) p e l (eq-eqb _ _ same)) ∙ not-true _ both.1)

module _ (q : Queue) (n : ℕ) (h : queue_stands_of q n ≡ true) where
  queue_both : (leb q.count most ≡ true) × (all_below (entry_stands_of q n) q.count ≡ true)
  unfolding queue_stands_of
  queue_both = and_both (leb q.count most) (all_below (entry_stands_of q n) q.count) h

  entry-stands : (p : ℕ) → p < q.count → entry_stands_of q n p ≡ true
  entry-stands p l = all-below (entry_stands_of q n) q.count queue_both.1 p l

-- ---- the banks
apart_true : (words a b : ℕ) → apart_of words a b ≡ true → Apart words a b
unfolding apart_of
apart_true words a b h = go (leb (a + words) b) refl h
  where
    go : (t : Bool) → leb (a + words) b ≡ t → (t || leb (b + words) a) ≡ true → Apart words a b
    go true e h = inl (leb-true _ _ e)
    go false e h = inr (leb-true _ _ h)

-- banks 2 × j and 2 × j + 1 are those of record j
pub one_start : (signs : List Sign) (j : ℕ) → start_of signs (2 * j) ≡ (sign_at signs j).one
unfolding start_of
one_start signs j =
    let half : 2 * j / 2 ≡ j = omega arith in
    let even : 2 * j % 2 ≡ 0 = omega arith in
    rw (even, half)

pub two_start : (signs : List Sign) (j : ℕ) → start_of signs (2 * j + 1) ≡ (sign_at signs j).two
unfolding start_of
two_start signs j =
    let half : (2 * j + 1) / 2 ≡ j = omega arith in
    let odd : (2 * j + 1) % 2 ≡ 1 = omega arith in
    rw (odd, half)

module _ (signs : List Sign) (n words store : ℕ) (h : banks_stand_of signs n words store ≡ true) where
  bank_both : (b : ℕ) → b < 2 * n
      → (leb (start_of signs b + words) store ≡ true) × (all_below (λ e. apart_of words (start_of signs e) (start_of signs b)) b ≡ true)
  unfolding banks_stand_of bank_stands_of
  bank_both b l =
      and_both
      (leb (start_of signs b + words) store)
      (all_below (λ e. apart_of words (start_of signs e) (start_of signs b)) b)
      (all-below (bank_stands_of (start_of signs) words store) (2 * n) h b l)

  bank_lies : (b : ℕ) → b < 2 * n → start_of signs b + words ≤ store
  bank_lies b l = leb-true _ _ (bank_both b l).0

  banks_apart : (a b : ℕ) → a < b → b < 2 * n → Apart words (start_of signs a) (start_of signs b)
  banks_apart a b l m = apart_true _ _ _ (all-below (λ e. apart_of words (start_of signs e) (start_of signs b)) b (bank_both b m).1 a l)

  -- in either order
  differ : (a b : ℕ) → a < 2 * n → b < 2 * n → (a ≡ b → ⊥) → Apart words (start_of signs a) (start_of signs b)
  differ a b l m other = go (dec_lt a b)
    where
      go : Dec (a < b) → Apart words (start_of signs a) (start_of signs b)
      go (yes i) = banks_apart a b i m
      go (no i) = ⊎_swap (banks_apart b a (omega (arith, other)) l)

  one_lies : (j : ℕ) → j < n → (sign_at signs j).one + words ≤ store
  one_lies j l = rw (← one_start signs j) (bank_lies (2 * j) (omega arith))

  two_lies : (j : ℕ) → j < n → (sign_at signs j).two + words ≤ store
  two_lies j l = rw (← two_start signs j) (bank_lies (2 * j + 1) (omega arith))

  own_apart : (j : ℕ) → j < n → Apart words (sign_at signs j).one (sign_at signs j).two
  own_apart j l = rw (← one_start signs j, ← two_start signs j) (banks_apart (2 * j) (2 * j + 1) (omega arith) (omega arith))

  signs_apart : (i j : ℕ) → i < n → j < n → (i ≡ j → ⊥) → SignsApart words (sign_at signs i) (sign_at signs j)
  signs_apart i j l m other =
      record {
        one_one = rw (← one_start signs i, ← one_start signs j) (differ (2 * i) (2 * j) (omega arith) (omega arith) (λ e. other (omega arith)));
        one_two = rw (← one_start signs i, ← two_start signs j) (differ (2 * i) (2 * j + 1) (omega arith) (omega arith) (λ e. omega arith));
        two_one = rw (← two_start signs i, ← one_start signs j) (differ (2 * i + 1) (2 * j) (omega arith) (omega arith) (λ e. omega arith));
        two_two = rw (← two_start signs i, ← two_start signs j) (differ (2 * i + 1) (2 * j + 1) (omega arith) (omega arith) (λ e. other (omega arith)));
      }

-- ---- and of the whole
module _ (g : Geometry) (k : ℕ) (signs : List Sign) (n : ℕ) (queue : Queue) (last store image sram : ℕ) where
  pub stands : accepted_of (row_decline_of g k signs n queue last store image sram) ≡ true → Judged g k signs n queue last store image sram
  unfolding row_decline_of row_stands_of
  stands h =
      let row = row_stands_of g k signs n queue last store in
      let declines = neither (lent_decline_of g (image ∷ []) sram) (pick row (Ok tt) (Err Decline.Row)) h in
      let lent = fits g (image ∷ []) sram declines.0 in
      let banks = banks_stand_of signs n (bank_words_of g) store in
      let row-stands = (held row (Ok tt) (Err Decline.Row) refl declines.1).0 in
      let s0 = and_both (in_row_of n) (in_row_of k && (ltb last n && (queue_stands_of queue n && banks))) row-stands in
      let s1 = and_both (in_row_of k) (ltb last n && (queue_stands_of queue n && banks)) s0.1 in
      let s2 = and_both (ltb last n) (queue_stands_of queue n && banks) s1.1 in
      let s3 = and_both (queue_stands_of queue n) banks s2.1 in
      let entry = entry-stands queue n s3.0 in
      record {
        listed = lent.listed;
        image_length = lent.banks.0;
        sram_room = lent.room;
        n_low = (in_row n s0.0).0;
        n_high = (in_row n s0.0).1;
        k_low = (in_row k s1.0).0;
        k_high = (in_row k s1.0).1;
        last_below = ltb-true _ _ s2.0;
        count_high = leb-true _ _ (queue_both queue n s3.0).0;
        entry_below = λ p l. entry_listed queue n p (entry p l);
        entries_differ = λ p q l m. entry_once queue n q (entry q m) p l;
        one_lies = one_lies signs n (bank_words_of g) store s3.1;
        two_lies = two_lies signs n (bank_words_of g) store s3.1;
        own_apart = own_apart signs n (bank_words_of g) store s3.1;
        signs_apart = signs_apart signs n (bank_words_of g) store s3.1;
      }

-- ---- and back: from the facts to the tests

-- neither 1 nor 2 applies
pub lent_accepted : (g : Geometry) (image sram : ℕ) → in_range_of g ≡ true → image ≡ bank_words_of g → sram ≤ most_sram
    → lent_decline_of g (image ∷ []) sram ≡ Ok tt
unfolding lent_decline_up_to lengths_fit_of
lent_accepted g image sram listed words room = rw (listed, eq-eqb image (bank_words_of g) words, le-leb sram most_sram room) refl

in_row_true : (n : ℕ) → 0 < n → n ≤ most → in_row_of n ≡ true
in_row_true n low high = rw (lt-ltb 0 n low, le-leb n most high) refl

apart_test : (words a b : ℕ) → Apart words a b → apart_of words a b ≡ true
unfolding apart_of
apart_test words a b (inl l) = rw (le-leb (a + words) b l) refl
apart_test words a b (inr l) = rw (le-leb (b + words) a l) (or-true (leb (a + words) b))

-- bank b is bank 1 or bank 2 of record b / 2
one_or_two : (signs : List Sign) (P : ℕ → Type 0) (b : ℕ) → (b % 2 ≡ 0 → P (sign_at signs (b / 2)).one)
    → (b % 2 ≡ 1 → P (sign_at signs (b / 2)).two) → P (start_of signs b)
unfolding start_of
one_or_two signs P b one two = go (ℕ_discrete (b % 2) 0)
  where
    go : Dec (b % 2 ≡ 0) → P (start_of signs b)
    go (yes even) = rw even (one even)
    go (no other) = let odd : b % 2 ≡ 1 = omega (arith, other) in rw odd (two odd)

module _ (g : Geometry) (k : ℕ) (signs : List Sign) (n : ℕ) (queue : Queue) (last store image sram : ℕ)
    (j : Judged g k signs n queue last store image sram) where
  entry_test : (p : ℕ) → p < queue.count → entry_stands_of queue n p ≡ true
  unfolding entry_stands_of
  entry_test p l = go (any_below (repeated queue p) p) refl
    where
      go : (t : Bool) → any_below (repeated queue p) p ≡ t
          → (ltb (get_or queue.numbers p 0) n && not (any_below (repeated queue p) p)) ≡ true
      go false e = rw (e, lt-ltb (get_or queue.numbers p 0) n (j.entry_below p l)) refl
      go true e =
          let s = any_some (repeated queue p) p e in
          absurd (j.entries_differ s.number p s.below l (eqb-true _ _ s.holds))

  queue_test : queue_stands_of queue n ≡ true
  unfolding queue_stands_of
  queue_test = rw (le-leb queue.count most j.count_high, all_hold (entry_stands_of queue n) queue.count entry_test) refl

  start_lies : (b : ℕ) → b < 2 * n → start_of signs b + bank_words_of g ≤ store
  start_lies b l =
      one_or_two signs (λ s. s + bank_words_of g ≤ store) b
      (λ even. j.one_lies (b / 2) (omega arith)) (λ odd. j.two_lies (b / 2) (omega arith))

  starts_apart : (a b : ℕ) → a < b → b < 2 * n → Apart (bank_words_of g) (start_of signs a) (start_of signs b)
  starts_apart a b l m =
      one_or_two signs (λ s. Apart (bank_words_of g) s (start_of signs b)) a
      (λ even.
      one_or_two signs (λ t. Apart (bank_words_of g) (sign_at signs (a / 2)).one t) b
      (λ also. (apart (λ e. omega (arith, e))).one_one) (λ odd. own_or_other (ℕ_discrete (a / 2) (b / 2))))
      (λ odd.
      one_or_two signs (λ t. Apart (bank_words_of g) (sign_at signs (a / 2)).two t) b
      (λ even. (apart (λ e. omega (arith, e))).two_one) (λ also. (apart (λ e. omega (arith, e))).two_two))
    where
      apart : (a / 2 ≡ b / 2 → ⊥) → SignsApart (bank_words_of g) (sign_at signs (a / 2)) (sign_at signs (b / 2))
      apart other = j.signs_apart (a / 2) (b / 2) (omega arith) (omega arith) other

      own_or_other : Dec (a / 2 ≡ b / 2) → Apart (bank_words_of g) (sign_at signs (a / 2)).one (sign_at signs (b / 2)).two
      own_or_other (yes same) = rw same (j.own_apart (b / 2) (omega arith))
      own_or_other (no other) = (apart other).one_two

  bank_test : (b : ℕ) → b < 2 * n → bank_stands_of (start_of signs) (bank_words_of g) store b ≡ true
  unfolding bank_stands_of
  bank_test b l =
      let others = all_hold (λ e. apart_of (bank_words_of g) (start_of signs e) (start_of signs b)) b
      (λ a before. apart_test (bank_words_of g) (start_of signs a) (start_of signs b) (starts_apart a b before l)) in
      rw (le-leb (start_of signs b + bank_words_of g) store (start_lies b l), others) refl

  banks_test : banks_stand_of signs n (bank_words_of g) store ≡ true
  unfolding banks_stand_of
  banks_test = all_hold (bank_stands_of (start_of signs) (bank_words_of g) store) (2 * n) bank_test

  row_test : row_stands_of g k signs n queue last store ≡ true
  unfolding row_stands_of
  row_test =
      rw (
        in_row_true n j.n_low j.n_high,
        in_row_true k j.k_low j.k_high,
        lt-ltb last n j.last_below,
        queue_test,
        banks_test,
      ) refl

  pub judged_accepted : accepted_of (row_decline_of g k signs n queue last store image sram) ≡ true
  unfolding row_decline_of
  judged_accepted = rw (lent_accepted g image sram j.listed j.image_length j.sram_room, row_test) refl
