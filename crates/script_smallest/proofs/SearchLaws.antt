-- The search as a whole: what is known before it, its first play, and what it leaves. Assumes nothing.
use Prim.Native.Nat.{ℕ, zero, suc, ◌+◌, ◌*◌, ◌%◌, ◌≤◌}
use Rattle.std.specs.Prelude.{Ok, Err}
use mathlib.Core.Path.{◌≡◌, refl, sym, ap, ◌∙◌}
use mathlib.Core.Bool.{Bool, true, false}
use mathlib.Core.List.{List, [], ◌∷◌}
use native.Mathlib.Omega.{arith}
use lib.Dec.{eqb, leb, ltb}
use lib.ListN.{length, take, drop}
use lib.Seq.{take_at, take_all, length-take-le}
use borrow.Author.Tests.{eqb-true, leb-true, ltb-true}
use Rattle.words.specs.Word.{pick}
use Rattle.words.proofs.PickLaws.{and_both}
use Rattle.words.proofs.DeclineLaws.{held, neither}
use Rattle.words.specs.declared.decline.Decline.{Decline}
use Rattle.words.specs.Decline.{Verdict, accepted_of}
use Rattle.geometry.specs.declared.banks.Geometry.{Geometry}
use Rattle.geometry.specs.Lent.{lent_decline_of}
use Rattle.geometry.proofs.LentLaws.{fits}
use Rattle.device.specs.State.{State}
use Rattle.common_declines.specs.Possible.{possible_of}
use Rattle.common_declines.specs.CommonDecline.{common_decline_of}
use Rattle.common_declines.proofs.CommonDeclineLaws.{ready}
use Rattle.script_format.specs.Records.{records_of, is_script_of}
use Rattle.script_smallest.specs.Smallest.{shows_of, without_of, lowest_of, dropped_of, smallest_script_of, unplayed_decline_of}
use Rattle.script_smallest.specs.Smallest.{answer, with_zeros, searched_of, smallest_of}
use Rattle.script_smallest.proofs.WithoutLaws.{shorter}

-- ---- a call that is played

pub record Opened (g : Geometry) (s : State) (sram : ℕ) (script : List ℕ) (scratch1 scratch2 result : ℕ) : Type 0 where
  pub lent : accepted_of (lent_decline_of g (length s.one ∷ length s.two ∷ []) sram) ≡ true
  pub first : scratch1 ≡ length s.one
  pub other : scratch2 ≡ length s.two
  pub buffer : result ≡ length script
  pub possible : possible_of g s.device ≡ true
  pub known : is_script_of script ≡ true
  pub whole : length script % 8 ≡ 0
  pub few : records_of script ≤ 64

pub opened : (g : Geometry) (s : State) (sram : ℕ) (script : List ℕ) (scratch1 scratch2 result : ℕ)
    → accepted_of (unplayed_decline_of g s sram script scratch1 scratch2 result) ≡ true → Opened g s sram script scratch1 scratch2 result
unfolding unplayed_decline_of is_script_of
opened g s sram script scratch1 scratch2 result h =
    let (lent, rest1) = neither (lent_decline_of g (length s.one ∷ length s.two ∷ []) sram) _ h in
    let (buffer, rest2) = neither (pick (eqb result (length script)) (Ok tt) (Err Decline.Length)) _ rest1 in
    let (common, rest3) = neither (common_decline_of g s.device (scratch1 ∷ scratch2 ∷ []) 0) _ rest2 in
    let (known, few) = neither (pick (is_script_of script) (Ok tt) (Err Decline.Script)) _ rest3 in
    let originals = fits g (length s.one ∷ length s.two ∷ []) sram lent in
    let scratch = ready g s.device (scratch1 ∷ scratch2 ∷ []) 0 common in
    let script_known = (held (is_script_of script) (Ok tt) (Err Decline.Script) refl known).0 in
    record {
      lent = lent;
      first = scratch.lent.banks.0 ∙ sym originals.banks.0;
      other = scratch.lent.banks.1.0 ∙ sym originals.banks.1.0;
      buffer = eqb-true _ _ (held (eqb result (length script)) (Ok tt) (Err Decline.Length) refl buffer).0;
      possible = scratch.possible;
      known = script_known;
      whole = eqb-true _ _ (and_both (eqb (length script % 8) 0) _ script_known).0;
      few = leb-true _ _ (held (leb (records_of script) 64) (Ok tt) (Err Decline.Records) refl few).0;
    }

-- so where a function goes on with what they answer
pub went_opened : {g : Geometry} {s : State} {sram : ℕ} {script : List ℕ} {scratch1 scratch2 result : ℕ} {r : Verdict}
    → r ≡ unplayed_decline_of g s sram script scratch1 scratch2 result → r ≡ Ok tt → Opened g s sram script scratch1 scratch2 result
went_opened e w = opened _ _ _ _ _ _ _ (ap accepted_of (sym e ∙ w))

-- ---- the first play

-- without a record past the last it is the script's
first_play : (x : List ℕ) → length x % 8 ≡ 0 → take (8 * records_of x) (without_of x (records_of x)) ≡ x
first_play x e =
    take_at (take (8 * records_of x) x) (drop (8 * records_of x + 8) x) (8 * records_of x) (length-take-le (8 * records_of x) x (omega (arith, e)))
    ∙ take_all (8 * records_of x) x (omega (arith, e))

-- ---- what is left

-- no longer than the script
dropped_shorter : (g : Geometry) (sram : List ℕ) (s : State) (number n : ℕ) (x : List ℕ) → length (dropped_of g sram s number n x) ≤ length x
dropped_shorter g sram s number zero x = omega arith
dropped_shorter g sram s number (suc n) x =
    go (ltb (lowest_of g sram s number x) (records_of x)) refl (dropped_shorter g sram s number n (without_of x (lowest_of g sram s number x)))
  where
    go : (t : Bool) → ltb (lowest_of g sram s number x) (records_of x) ≡ t
        → length (dropped_of g sram s number n (without_of x (lowest_of g sram s number x))) ≤ length (without_of x (lowest_of g sram s number x))
        → length (pick t (dropped_of g sram s number n (without_of x (lowest_of g sram s number x))) x) ≤ length x
    go true e below = omega (arith, below, shorter x (lowest_of g sram s number x) (ltb-true _ _ e))
    go false e below = omega arith

pub smallest_shorter : (g : Geometry) (sram : List ℕ) (s : State) (number : ℕ) (x : List ℕ) → length (smallest_script_of g sram s number x) ≤ length x
unfolding smallest_script_of
smallest_shorter g sram s number x = dropped_shorter g sram s number (records_of x) x

module _ (g : Geometry) (sram : List ℕ) (s : State) (number : ℕ) (script result : List ℕ) where
  pub not_found : (r : Bool) → r ≡ shows_of g sram s number (take (8 * records_of script) (without_of script (records_of script))) → length script % 8 ≡ 0
      → r ≡ false → answer (Err Decline.NotShown) 0 s.one s.two result ≡ searched_of g sram s script number result
  unfolding searched_of
  not_found r e whole off = rw (sym (ap (shows_of g sram s number) (first_play script whole)) ∙ sym e ∙ off)

  -- the buffer that records are dropped in holds the script
  pub found : (r : Bool) → r ≡ shows_of g sram s number (take (8 * records_of script) (without_of script (records_of script))) → length script % 8 ≡ 0
      → r ≡ true → (n : ℕ) (after buffer : List ℕ) → buffer ≡ script → n ≡ records_of (smallest_script_of g sram s number buffer)
      → after ≡ with_zeros (smallest_script_of g sram s number buffer) (length buffer)
      → answer (Ok tt) n s.one s.two after ≡ searched_of g sram s script number result
  unfolding searched_of
  found r e whole on n after buffer same en ea =
      rw (sym (ap (shows_of g sram s number) (first_play script whole)) ∙ sym e ∙ on, en, ea, same)

  pub few_left : (n : ℕ) (buffer : List ℕ) → buffer ≡ script → n ≡ records_of (smallest_script_of g sram s number buffer) → records_of script ≤ 64 → n ≤ 64
  few_left n buffer same en few = omega (arith, en, smallest_shorter g sram s number buffer, ap (λ (l : List ℕ). length l) same, few)

  -- a call that is played; the scratch banks hold the originals' contents
  pub searched : (one two : List ℕ) → accepted_of (unplayed_decline_of g s (length sram) script (length one) (length two) (length result)) ≡ true
      → (decline : Verdict) (records : ℕ) (first other after : List ℕ) → first ≡ s.one → other ≡ s.two
      → answer decline records s.one s.two after ≡ searched_of g sram s script number result
      → answer decline records first other after ≡ smallest_of g sram s script number one two result
  unfolding smallest_of
  searched one two accepted decline records first other after e1 e2 e = rw (accepted, e1, e2) e
