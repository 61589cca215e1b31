-- Records dropped one after another in a buffer: what is left is in front, zeros after it. Assumes nothing.
use Prim.Native.Nat.{ℕ, zero, suc, ◌+◌, ◌*◌, ◌-◌, ◌%◌, ◌<◌, ◌≤◌}
use mathlib.Core.Path.{◌≡◌, refl, sym, ap, ◌∙◌}
use mathlib.Core.Bool.{Bool, true, false}
use mathlib.Core.List.{List, ◌++◌, append-nil}
use native.Mathlib.Omega.{arith}
use native.Mathlib.Decide.{dec_lt}
use lib.ListN.{length, take, replicate}
use borrow.Author.Tests.{lt-ltb, le-ltb}
use Rattle.words.proofs.FirstLaws.{first_is}
use Rattle.geometry.specs.declared.banks.Geometry.{Geometry}
use Rattle.device.specs.State.{State}
use Rattle.script_format.specs.Records.{records_of}
use Rattle.script_smallest.specs.Smallest.{shows_of, without_of, lowest_of, dropped_of, smallest_script_of, with_zeros}
use Rattle.script_smallest.proofs.WithoutLaws.{shorter}
use Rattle.script_smallest.proofs.RemoveLaws.{removed_bytes, removed_zeros, trial_is}

-- the most trials that n records take: each of them, and then as many as one fewer take
abbrev pub trials_of : ℕ → ℕ
trials_of zero = 0
trials_of (suc n) = suc n + trials_of n

pub trials_more : (n : ℕ) → 0 < n → trials_of n ≡ n + trials_of (n - 1)
trials_more zero l = absurd (omega arith)
trials_more (suc n) l = let e : suc n - 1 ≡ n = omega arith in ap (λ (m : ℕ). suc n + trials_of m) (sym e)

pub trials_reach : (n : ℕ) → n ≤ trials_of n
trials_reach zero = omega arith
trials_reach (suc n) = omega arith

-- "a script of at most 64 records": with the first play at most 2,081 plays
most_trials : trials_of 64 ≡ 2080
most_trials = refl

module _ (g : Geometry) (sram : List ℕ) (s : State) (number : ℕ) where
  -- n records are left in a buffer, none before i can go, and dropping goes on as it did from the start
  pub record Dropping (script buffer : List ℕ) (n i : ℕ) : Type 0 where
    pub left : List ℕ
    pub whole : length left ≡ 8 * n
    pub room : 8 * n ≤ length script
    pub stands : buffer ≡ with_zeros left (length script)
    pub same : dropped_of g sram s number n left ≡ smallest_script_of g sram s number script
    pub needed : (j : ℕ) → j < i → shows_of g sram s number (without_of left j) ≡ false

  pub dropping_starts : (script : List ℕ) → length script % 8 ≡ 0 → Dropping script script (records_of script) 0
  unfolding smallest_script_of
  dropping_starts script e =
      record {
        left = script;
        whole = omega (arith, e);
        room = omega (arith, e);
        stands = starts (length script - length script) (omega arith);
        same = refl;
        needed = λ j l. absurd (omega (arith, l));
      }
    where
      starts : (n : ℕ) → n ≡ 0 → script ≡ script ++ replicate n 0
      starts n z = rw z (sym (append-nil script))

  -- the lowest record that can go, of what is left
  lowest_is : (x : List ℕ) (i : ℕ) → i ≤ records_of x → (i < records_of x → shows_of g sram s number (without_of x i) ≡ true)
      → ((j : ℕ) → j < i → shows_of g sram s number (without_of x j) ≡ false) → lowest_of g sram s number x ≡ i
  lowest_is x i within found before =
      sym (first_is (λ k. shows_of g sram s number (without_of x k)) (records_of x) i (record { within = within; found = found; before = before }))

  dropped_next : (m : ℕ) (x : List ℕ) (i : ℕ) → lowest_of g sram s number x ≡ i → i < records_of x
      → dropped_of g sram s number (suc m) x ≡ dropped_of g sram s number m (without_of x i)
  dropped_next m x i e l = rw (e, lt-ltb i (records_of x) l)

  dropped_none : (m : ℕ) (x : List ℕ) → lowest_of g sram s number x ≡ records_of x → dropped_of g sram s number m x ≡ x
  dropped_none zero x e = refl
  dropped_none (suc m) x e = rw (e, le-ltb (records_of x) (records_of x) (omega arith))

  module _ (script buffer : List ℕ) (n i : ℕ) (d : Dropping script buffer n i) where
    abbrev x : List ℕ
    x = d.left

    -- what a trial plays
    abbrev tried : List ℕ
    tried = take (8 * (n - 1)) (without_of buffer i)

    -- it is what is left without record i
    trial : i < n → tried ≡ without_of x i
    trial l =
        ap (λ (b : List ℕ). take (8 * (n - 1)) (without_of b i)) d.stands
        ∙ trial_is x i (omega (arith, d.whole, l)) (length script) (n - 1) (omega (arith, d.whole, l))

    -- a record that can go is dropped, and the search begins again
    pub drop_next : i < n → (r : Bool) → r ≡ shows_of g sram s number tried → r ≡ true
        → (after : List ℕ) → after ≡ removed_bytes buffer i → Dropping script after (n - 1) 0
    drop_next l r told can after e =
        record {
          left = without_of x i;
          whole = omega (arith, shorter x i here, d.whole);
          room = omega (arith, d.room);
          stands = e ∙ ap (λ (b : List ℕ). removed_bytes b i) d.stands ∙ removed_zeros x i here (length script) (omega (arith, d.whole, d.room));
          same = sym (dropped (n - 1) (omega (arith, l))) ∙ d.same;
          needed = λ j k. absurd (omega (arith, k));
        }
      where
        here : i < records_of x
        here = omega (arith, d.whole, l)

        lowest : lowest_of g sram s number x ≡ i
        lowest = lowest_is x i (omega (arith, here)) (λ k. ap (shows_of g sram s number) (sym (trial l)) ∙ sym told ∙ can) d.needed

        dropped : (m : ℕ) → n ≡ suc m → dropped_of g sram s number n x ≡ dropped_of g sram s number m (without_of x i)
        dropped m e = ap (λ (k : ℕ). dropped_of g sram s number k x) e ∙ dropped_next m x i lowest here

    -- one that cannot stays
    pub keep_next : i < n → (r : Bool) → r ≡ shows_of g sram s number tried → r ≡ false → Dropping script buffer n (i + 1)
    keep_next m r told cannot =
        record { left = x; whole = d.whole; room = d.room; stands = d.stands; same = d.same; needed = λ j l. go j (dec_lt j i) l }
      where
        go : (j : ℕ) → Dec (j < i) → j < i + 1 → shows_of g sram s number (without_of x j) ≡ false
        go j (yes before) l = d.needed j before
        go j (no after) l = let here : j ≡ i = omega (arith, l, after) in rw here (ap (shows_of g sram s number) (sym (trial m)) ∙ sym told ∙ cannot)

    -- where none can go, what is left is the result
    pub drop_ends : i ≡ n → (n ≡ records_of (smallest_script_of g sram s number script))
        × (buffer ≡ with_zeros (smallest_script_of g sram s number script) (length script))
    drop_ends e =
        let all : i ≡ records_of x = omega (arith, e, d.whole) in
        let lowest = lowest_is x i (omega (arith, all)) (λ l. absurd (omega (arith, l, all))) d.needed in
        let result : x ≡ smallest_script_of g sram s number script = sym (dropped_none n x (lowest ∙ all)) ∙ d.same in
        (omega (arith, e, all) ∙ ap records_of result, d.stands ∙ ap (λ (y : List ℕ). with_zeros y (length script)) result)
