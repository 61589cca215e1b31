-- The action of each place, block by block: a place of a block divides into the block's number and the place in it.
-- Assumes nothing.
use mathlib.Core.Path.{◌≡◌, sym, ap, ◌∙◌}
use mathlib.Core.List.{List, [], ◌∷◌, ◌++◌}
use Prim.Native.Nat.{ℕ, zero, suc, ◌+◌, ◌-◌, ◌*◌, ◌/◌, ◌≤◌, ◌<◌}
use native.Mathlib.Nat.{not-suc-le-zero, div-lt_iff_lt-mul}
use native.Mathlib.Omega.{arith}
use lib.Arith.{digits_lt, digits_div, digits_mod}
use lib.ListN.{get_or, get_or-append}
use lib.Seq.{get_or-append-add}
use borrow.Author.Tests.{lt-ltb, le-ltb}
use Rattle.words.specs.Quad.{word_at}
use Rattle.geometry.specs.declared.banks.Geometry.{Geometry}
use Rattle.geometry.specs.Banks.{pages_of, page_quads_of}
use Rattle.start_up.specs.StartUp.{Access, access}
use Rattle.update.specs.declared.actions.Action.{Action}
use Rattle.update.specs.declared.actions.Action.TheVariants.{Store, Step}
use Rattle.update.specs.Actions.{stored, launch_stores, upper_address_of, end_stores, page_stores, quad_block, erased_page_of, programmed_quad_of}
use Rattle.update.specs.Actions.{new_quad_of, bank_quads_of, total_of, page_actions, programming_from, page_action_of, quad_action_of, action_at_of}

-- a store as an action
abbrev pub store_of_access : Access → Action
store_of_access a = Store a.register a.form a.value

-- the total is where the programming ends
pub total_place : (g : Geometry) → total_of g ≡ programming_from g + bank_quads_of g * 13
unfolding total_of
total_place g = omega arith

module _ (g : Geometry) (image : List ℕ) (w : ℕ) where
  -- a page's action, and a quad's
  pub page-action : (i j : ℕ) → i < pages_of g → j < page_actions g
      → action_at_of g image w (12 + i * page_actions g + j) ≡ page_action_of g (erased_page_of g i) j
  unfolding action_at_of
  page-action i j l m =
      let at = 12 + i * page_actions g + j in
      let below : at < programming_from g = omega (arith, digits_lt l m) in
      let from : at - 12 ≡ i * page_actions g + j = omega arith in
      rw (le-ltb at 12 (omega arith), lt-ltb at (programming_from g) below, from, digits_div i m, digits_mod i m)

  pub quad-action : (i j : ℕ) → j < 13 → let q = programmed_quad_of g i in
      action_at_of g image w (programming_from g + i * 13 + j) ≡ quad_action_of g q (new_quad_of g image w q) j
  unfolding action_at_of
  quad-action i j m =
      let at = programming_from g + i * 13 + j in
      let from : at - programming_from g ≡ i * 13 + j = omega arith in
      rw (le-ltb at 12 (omega arith), le-ltb at (programming_from g) (omega arith), from, digits_div i m, digits_mod i m)

  -- before the programming no action depends on the sequence word
  pub early_action : (v place : ℕ) → place < programming_from g → action_at_of g image w place ≡ action_at_of g image v place
  unfolding action_at_of
  early_action v place l = rw (lt-ltb place (programming_from g) l)

-- ---- a place by division, as the code finds it
shifted : {A : Type 0} (x : A) (l : List A) (d : A) (k : ℕ) → 0 < k → get_or l (k - 1) d ≡ get_or (x ∷ l) k d
shifted x l d zero h = absurd (not-suc-le-zero h)
shifted x l d (suc k) h = let e : suc k - 1 ≡ k = omega arith in rw e

pub launch_of_quad : (g : Geometry) (j : ℕ) (words : List ℕ) (k : ℕ) → 5 ≤ k → k < 11
    → get_or (stored (launch_stores 2)) (k - 5) Step ≡ quad_action_of g j words k
unfolding quad_action_of
launch_of_quad g j words k lo hi =
    let word : ℕ → Access = λ n. access (3 + n) 0 (word_at words n) in
    let first = stored (access 2 0 (upper_address_of g j) ∷ word 0 ∷ word 1 ∷ word 2 ∷ word 3 ∷ []) in
    let e : 5 + (k - 5) ≡ k = omega arith in
    sym (get_or-append (stored (launch_stores 2)) (Step ∷ stored end_stores) Step (k - 5) (omega arith))
    ∙ sym (get_or-append-add first (stored (launch_stores 2) ++ (Step ∷ stored end_stores)) (k - 5) Step)
    ∙ ap (λ (n : ℕ). get_or (quad_block g j words) n Step) e

-- a place of the erasing is one of a page's
pub page_at_lem : (g : Geometry) (place : ℕ) → 12 ≤ place → place < programming_from g → (place - 12) / page_actions g < pages_of g
page_at_lem g place late l = (div-lt_iff_lt-mul {k = page_actions g} {x = place - 12} {y = pages_of g} (omega arith)).1 (omega arith)

-- ---- a number by what it is not
pub later : {k n : ℕ} → n ≤ k → (k ≡ n → ⊥) → suc n ≤ k
later l ne = omega arith

pub only : {k n : ℕ} → n ≤ k → k < suc n → k ≡ n
only l m = omega arith

pub earlier : {k n : ℕ} → k < suc n → (k ≡ n → ⊥) → k < n
earlier l ne = omega arith

pub some : {k : ℕ} → (k ≡ 0 → ⊥) → 1 ≤ k
some ne = omega arith

pub launch_of_page : (g : Geometry) (page k : ℕ) → 0 < k → get_or (stored (launch_stores 4)) (k - 1) Step ≡ get_or (stored (page_stores g page)) k Step
launch_of_page g page k h = shifted (Store 2 0 (upper_address_of g (page * page_quads_of g))) (stored (launch_stores 4)) Step k h

pub five_less : {k : ℕ} → 5 ≤ k → k < 11 → k - 5 < 6
five_less lo hi = omega arith

-- what is left of a place past the pages
pub rest_below : (g : Geometry) (place : ℕ) → programming_from g ≤ place → place < total_of g → (place - programming_from g) / 13 < bank_quads_of g
rest_below g place l m = (div-lt_iff_lt-mul {k = 13} {x = place - programming_from g} {y = bank_quads_of g} (omega arith)).1 (omega (arith, total_place g))
