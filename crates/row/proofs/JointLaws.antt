-- All signs of a row one after another, each with a state of its own: each gets its own, and no other. Assumes nothing.
use Prim.Native.Nat.{ℕ, zero, suc, ◌<◌, ◌≤◌}
use mathlib.Core.Path.{◌≡◌, refl, ap, ◌∙◌}
use native.Mathlib.Omega.{arith}
use native.Mathlib.Decide.{dec_lt}
use lib.ListN.{length}
use Rattle.geometry.specs.declared.banks.Geometry.{Geometry}
use Rattle.geometry.specs.Banks.{bank_words_of}
use Rattle.device.specs.State.{State}
use Rattle.row.specs.Row.{RowState}
use Rattle.row.specs.RowCut.{with_state, state_at, each_to, each_of, Placed}
use Rattle.row.proofs.KeptLaws.{Kept, kept_same, kept_then, still_listed, still_placed}
use Rattle.row.proofs.PlacedLaws.{state_lengths, state_same, state_other, with_kept}

-- a function that keeps the lengths of the banks
abbrev pub KeepsLengths : (ℕ → State → State) → Type 0
KeepsLengths f = (j : ℕ) (s : State) → (length (f j s).one ≡ length s.one) × (length (f j s).two ≡ length s.two)

module _ (g : Geometry) (f : ℕ → State → State) (keeps : KeepsLengths f) (r : RowState) (placed : Placed g r) where
  -- after the first n: the banks lie as before, each of them has its own, the others are as before
  record Each (n : ℕ) (t : RowState) : Type 0 where
    kept : Kept g r t
    done : (j : ℕ) → j < n → j < length r.signs → state_at g t j ≡ f j (state_at g r j)
    rest : (j : ℕ) → n ≤ j → j < length r.signs → state_at g t j ≡ state_at g r j

  -- the next sign
  module _ (n : ℕ) (inside : n < length r.signs) (before : RowState) (e : Each n before) where
    lie : Placed g before
    lie = still_placed e.kept placed

    here : n < length before.signs
    here = still_listed e.kept inside

    abbrev t : State
    t = f n (state_at g before n)

    one_long : length t.one ≡ bank_words_of g
    one_long = (keeps n (state_at g before n)).0 ∙ (state_lengths g before lie n here).0

    two_long : length t.two ≡ bank_words_of g
    two_long = (keeps n (state_at g before n)).1 ∙ (state_lengths g before lie n here).1

    other : (j : ℕ) → j < length r.signs → (j ≡ n → ⊥) → state_at g (with_state before n t) j ≡ state_at g before j
    other j l differs = state_other g before lie n here t one_long two_long j (still_listed e.kept l) differs

    next_done : (j : ℕ) → j < suc n → j < length r.signs → state_at g (with_state before n t) j ≡ f j (state_at g r j)
    next_done j l listed = go (dec_lt j n)
      where
        go : Dec (j < n) → state_at g (with_state before n t) j ≡ f j (state_at g r j)
        go (yes earlier) = other j listed (λ same. omega (arith, same, earlier)) ∙ e.done j earlier listed
        go (no last) =
            let same : j ≡ n = omega (arith, l, last) in
            rw same (state_same g before lie n here t one_long two_long ∙ ap (λ (s : State). f n s) (e.rest n (omega arith) inside))

    next : Each (suc n) (with_state before n t)
    next =
        record {
          kept = kept_then e.kept (with_kept g before lie n here t one_long two_long);
          done = next_done;
          rest = λ j l listed. other j listed (λ same. omega (arith, same, l)) ∙ e.rest j (omega (arith, l)) listed;
        }

  each : (n : ℕ) → n ≤ length r.signs → Each n (each_to g f r n)
  each zero h = record { kept = kept_same; done = λ j l listed. absurd (omega (arith, l)); rest = λ j l listed. refl }
  each (suc n) h = next n (omega (arith, h)) (each_to g f r n) (each n (omega (arith, h)))

  -- all of them
  all : Each (length r.signs) (each_of g f r)
  all = each (length r.signs) (omega arith)

  pub each_kept : Kept g r (each_of g f r)
  each_kept = all.kept

  pub each_own : (j : ℕ) → j < length r.signs → state_at g (each_of g f r) j ≡ f j (state_at g r j)
  each_own j l = all.done j l l
