-- Two answers that are as W-201 asks are the same: both decline, or both give the smallest wait.
-- Assumes nothing.
use mathlib.Core.Path.{◌≡◌, sym, ◌∙◌}
use mathlib.Core.List.{List}
use mathlib.Core.Logic.{◌⊎◌, inl, inr}
use Prim.Native.Nat.{ℕ, ◌<◌}
use native.Mathlib.Decide.{ℕ_discrete, dec_lt}
use native.Mathlib.Omega.{arith}
use Rattle.words.specs.Decline.{number_of}
use Rattle.words.proofs.Numbers.{numbers}
use Rattle.planner.specs.Planner.{Planned, planned, plan_of}
use Rattle.planner.specs.PlanLaws.{Plans, PlanLaws}
use Rattle.planner.proofs.PlanLaws.{plans}

module _ (minute duration : ℕ) (lent : List ℕ) (p q : Planned) (one : Plans minute duration lent p) (other : Plans minute duration lent q) where
  -- what one declines by 15 is out of range, and so the other does, too
  also_out : number_of p.decline ≡ 15 → number_of q.decline ≡ 15
  also_out h = other.out_of_range (one.only_then h)

  not_less : number_of p.decline ≡ 0 → number_of q.decline ≡ 0 → p.wait < q.wait → ⊥
  not_less h k l = let (within, fits, least) = one.smallest h in (other.smallest k).2 p.wait l fits

  -- the wait that fits for one is no 16 for the other
  not_both : number_of p.decline ≡ 0 → number_of q.decline ≡ 16 → ⊥
  not_both h k = let (within, fits, least) = one.smallest h in other.no_wait k p.wait within fits

-- so in both directions
module _ (minute duration : ℕ) (lent : List ℕ) (p q : Planned) (one : Plans minute duration lent p) (other : Plans minute duration lent q) where
  same_number : number_of p.decline ≡ number_of q.decline
  same_number = go one.answered other.answered
    where
      go : (number_of p.decline ≡ 0) ⊎ ((number_of p.decline ≡ 15) ⊎ (number_of p.decline ≡ 16))
          → (number_of q.decline ≡ 0) ⊎ ((number_of q.decline ≡ 15) ⊎ (number_of q.decline ≡ 16))
          → number_of p.decline ≡ number_of q.decline
      go (inl h) (inl k) = h ∙ sym k
      go (inr (inl h)) k = h ∙ sym (also_out minute duration lent p q one other h)
      go (inl h) (inr (inl k)) = also_out minute duration lent q p other one k ∙ sym k
      go (inr (inr h)) (inr (inl k)) = also_out minute duration lent q p other one k ∙ sym k
      go (inr (inr h)) (inr (inr k)) = h ∙ sym k
      go (inl h) (inr (inr k)) = absurd (not_both minute duration lent p q one other h k)
      go (inr (inr h)) (inl k) = absurd (not_both minute duration lent q p other one k h)

  least_both : number_of p.decline ≡ 0 → p.wait ≡ q.wait
  least_both h = go (dec_lt p.wait q.wait) (dec_lt q.wait p.wait)
    where
      k : number_of q.decline ≡ 0
      k = sym same_number ∙ h

      go : Dec (p.wait < q.wait) → Dec (q.wait < p.wait) → p.wait ≡ q.wait
      go (yes l) m = absurd (not_less minute duration lent p q one other h k l)
      go (no l) (yes m) = absurd (not_less minute duration lent q p other one k h m)
      go (no l) (no m) = omega arith

  same_wait : p.wait ≡ q.wait
  same_wait = go (ℕ_discrete (number_of p.decline) 0)
    where
      go : Dec (number_of p.decline ≡ 0) → p.wait ≡ q.wait
      go (yes h) = least_both h
      go (no h) = one.beside h ∙ sym (other.beside (λ k. h (same_number ∙ k)))

  same_answer : p ≡ q
  same_answer =
      let decline = numbers.one p.decline q.decline same_number in
      λ i. planned (decline i) (same_wait i)

pub plan_laws : PlanLaws
plan_laws =
    record {
      meets = plans;
      fixes =
          λ minute duration lent answer as_asked.
          same_answer minute duration lent answer (plan_of minute duration lent) as_asked (plans minute duration lent);
    }
