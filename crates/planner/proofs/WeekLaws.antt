-- The least wait as an option: by one window, and by several, where it is the smallest of those that there are; and the answer by it.
-- Assumes nothing.
use mathlib.Core.Path.{◌≡◌, refl, sym, ap, ◌∙◌}
use mathlib.Core.Bool.{Bool, true, false}
use mathlib.Core.List.{List, [], ◌∷◌, ◌++◌}
use Prim.Native.Nat.{ℕ, zero, suc, ◌+◌, ◌<◌, min}
use denote.Param.Members.{Mut, Called}
use native.Mathlib.Decide.{dec_lt}
use native.Mathlib.Nat.{le_refl}
use native.Mathlib.Numerals.{add-one}
use native.Mathlib.Omega.{arith}
use lib.Dec.{ltb}
use borrow.Author.Tests.{ltb-true, ltb-false, lt-ltb, le-ltb}
use Rattle.std.proofs.Common.{Option, Some, None}
use Rattle.std.specs.Option.{ok_or}
use Rattle.std.specs.Iterator.{ActsAsOnTwo, ReducesItems}
use Rattle.std.specs.List.{cons_option, filter_map, fold, range_with_len, reduce}
use Rattle.std.proofs.lemmas.Fn.{fold_same}
use Rattle.std.proofs.lemmas.Iterator.{YieldsList, items_from_drains}
use Rattle.std.proofs.lemmas.List.{map-id}
use Rattle.std.proofs.lemmas.List.Elements.{filter_map-append}
use Rattle.words.specs.Word.{pick, first_from}
use Rattle.words.specs.declared.decline.Decline.{Decline}
use Rattle.words.proofs.RangeLaws.{range_last}
use Rattle.planner.specs.Windows.{week, window_count_of, window_at, in_range_of}
use Rattle.planner.specs.Planner.{fits_in_of, least_wait_of, in_week, planned_from, plan_of}
use Rattle.planner.proofs.LeastLaws.{least_none, least_more}
use Rattle.planner.proofs.PlanLaws.{plan_none, plan_found}
use Rattle.planner.proofs.RangeLaws.{inside}

pub some_wait : (wait least : ℕ) → wait ≡ least → wait < week → Some wait ≡ in_week least
some_wait wait least e l = rw (← e, lt-ltb wait week l)

pub no_wait : (least : ℕ) → week ≡ least → None ≡ in_week least
no_wait least e = rw (← e)

-- ---- the smallest of several

-- the smaller of two, where there are any
abbrev smaller : Option ℕ → Option ℕ → Option ℕ
smaller a None = a
smaller None (Some y) = Some y
smaller (Some x) (Some y) = Some (min x y)

fold_last : (x y : ℕ) (xs : List ℕ) → fold min x (xs ++ (y ∷ [])) ≡ min (fold min x xs) y
fold_last x y [] = refl
fold_last x y (z ∷ xs) = fold_last (min x z) y xs

append_none : (xs : List ℕ) → xs ++ [] ≡ xs
append_none [] = refl
append_none (x ∷ xs) = ap (λ (l : List ℕ). x ∷ l) (append_none xs)

smallest_last : (xs : List ℕ) (o : Option ℕ) → reduce min (xs ++ cons_option o []) ≡ smaller (reduce min xs) o
smallest_last xs None = ap (reduce min) (append_none xs)
smallest_last [] (Some y) = refl
smallest_last (x ∷ xs) (Some y) = ap (λ (m : ℕ). Some m) (fold_last x y xs)

-- what `reduce` gives of a chain, by a function that gives the smaller of two
pub smallest_of_chain : {S F : Type 0} {steps : S → Option ℕ → S → Type 0} {s : S} {all : List ℕ} (g : Mut F (ℕ × (ℕ × Unit {0})) ℕ) {f : F} (r : Option ℕ)
    → ReducesItems steps g s f r → YieldsList steps (λ x. x) s all → ActsAsOnTwo g f min → r ≡ reduce min all
smallest_of_chain g None (u, (t, gave, ended)) chain acts = ap (reduce min) (items_from_drains [] (t, gave, λ w. (u, ended)) chain)
smallest_of_chain {F = F} g {f} (Some y) (x, xs, h, (u, (t, gave, ended)), folded) chain acts =
    ap (λ (m : ℕ). Some m) (fold_same g (λ zs a. a ≡ fold min x zs) f next xs x y h refl folded)
    ∙ ap (reduce min) (sym (map-id (x ∷ xs)) ∙ items_from_drains (x ∷ xs) (t, gave, λ w. (u, ended)) chain)
  where
    next : (zs : List ℕ) (a z b : ℕ) (k : F) → a ≡ fold min x zs → Called g f (a, (z, tt)) b k → (b ≡ fold min x (zs ++ (z ∷ []))) × (k ≡ f)
    next zs a z b k so_far called =
        let (same, result) = acts a z b k called in
        (rw (so_far, ← fold_last x z zs) at result, same)

smaller_week : (a b : ℕ) → smaller (in_week a) (in_week b) ≡ in_week (min a b)
smaller_week a b = go (ltb a week) refl (ltb b week) refl
  where
    go : (s : Bool) → ltb a week ≡ s → (t : Bool) → ltb b week ≡ t → smaller (pick s (Some a) None) (pick t (Some b) None) ≡ in_week (min a b)
    go true p true q = rw (lt-ltb (min a b) week (omega (arith, ltb-true a week p)))
    go true p false q =
        let e : min a b ≡ a = omega (arith, ltb-true a week p, ltb-false b week q) in rw (e, p)
    go false p true q =
        let e : min a b ≡ b = omega (arith, ltb-false a week p, ltb-true b week q) in rw (e, q)
    go false p false q = rw (le-ltb (min a b) week (omega (arith, ltb-false a week p, ltb-false b week q)))

-- the least wait by each window
abbrev pub wait_at : ℕ → ℕ → List ℕ → ℕ → Option ℕ
wait_at minute duration lent i = in_week (first_from (fits_in_of minute duration (window_at lent i)) 0 week)

-- is the least by all
pub least_of_each : (minute duration : ℕ) (lent : List ℕ) (n : ℕ)
    → reduce min (filter_map (wait_at minute duration lent) (range_with_len 0 n)) ≡ in_week (least_wait_of minute duration lent n)
least_of_each minute duration lent zero = no_wait _ (least_none minute duration lent)
least_of_each minute duration lent (suc n) =
    let each = wait_at minute duration lent in
    let here : 0 + n ≡ n = omega arith in
    ap (λ (l : List ℕ). reduce min (filter_map each l)) (range_last 0 n)
    ∙ ap (reduce min) (filter_map-append each (range_with_len 0 n) ((0 + n) ∷ []))
    ∙ smallest_last (filter_map each (range_with_len 0 n)) (each (0 + n))
    ∙ rw (least_of_each minute duration lent n, here)
    (smaller_week (least_wait_of minute duration lent n) (first_from (fits_in_of minute duration (window_at lent n)) 0 week)
    ∙ ap in_week (rw (add-one n) at (least_more minute duration lent n)))

-- ---- the answer by the option of the least wait

module _ (minute duration : ℕ) (lent : List ℕ) where
  abbrev least : ℕ
  least = least_wait_of minute duration lent (window_count_of lent)

  pub plan_least : in_range_of minute duration lent ≡ true → planned_from (ok_or (in_week least) Decline.NoWait) ≡ plan_of minute duration lent
  plan_least range = go (dec_lt least week)
    where
      go : Dec (least < week) → planned_from (ok_or (in_week least) Decline.NoWait) ≡ plan_of minute duration lent
      go d =
          let (numbers, windows) = inside minute duration lent range in
          elim d [
            | yes l ↦ rw (lt-ltb least week l) (plan_found minute duration lent _ _ (le_refl _) (le_refl _) numbers windows refl l)
            | no l ↦ rw (le-ltb least week (omega arith)) (plan_none minute duration lent _ _ (le_refl _) (le_refl _) numbers windows refl (omega arith))
          ]
