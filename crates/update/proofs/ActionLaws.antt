-- The list of actions: blocks of one length are read by division, so the action at a place is the list's, and there are as many as the total.
-- Assumes nothing.
use mathlib.Core.Path.{◌≡◌, refl, sym, ap, ◌∙◌}
use mathlib.Core.Bool.{Bool, true, false}
use mathlib.Core.List.{List, ◌++◌}
use mathlib.Core.Logic.{◌⊎◌, inl, inr}
use Prim.Native.Nat.{ℕ, zero, suc, ◌+◌, ◌-◌, ◌*◌, ◌/◌, ◌%◌, ◌≤◌, ◌<◌}
use native.Mathlib.Nat.{le_of_suc-le-suc, not-suc-le-zero, mod-lt, div-add-mod', div-lt_iff_lt-mul, eq-or-lt_of_le, add-sub_of_le, mul-le-mul_right}
use native.Mathlib.Omega.{arith}
use lib.Dec.{ltb}
use lib.ListN.{length, get_or, replicate, length-append, length-replicate, get_or-replicate, get_or-append}
use lib.Seq.{get_or-append-add}
use borrow.Author.Tests.{ltb-true, ltb-false}
use Rattle.words.specs.Word.{pick}
use Rattle.geometry.specs.declared.banks.Geometry.{Geometry}
use Rattle.geometry.specs.Banks.{pages_of, page_quads_of}
use Rattle.update.specs.declared.actions.Action.{Action}
use Rattle.update.specs.declared.actions.Action.TheVariants.{Store, Step}
use Rattle.update.specs.Actions.{stored, blocks, prologue, end_stores, page_stores, page_block, quad_block, erased_page_of}
use Rattle.update.specs.Actions.{programmed_quad_of, new_quad_of, bank_quads_of, erasing, programming, actions_of, total_of}
use Rattle.update.specs.Actions.{page_actions, quad_actions, programming_from, page_action_of, quad_action_of, action_at_of}
use Rattle.update.proofs.PlaceLaws.{total_place}

-- ---- blocks of one length
module _ {A : Type 0} where
  get_d_append_right : (xs ys : List A) (p : ℕ) (d : A) → length xs ≤ p → get_or (xs ++ ys) p d ≡ get_or ys (p - length xs) d
  get_d_append_right xs ys p d h = rw (add-sub_of_le h) at (get_or-append-add xs ys (p - length xs) d)

  -- what both choices of a comparison are, the chosen one is
  pick_below : (a b : ℕ) {x y z : A} → (a < b → z ≡ x) → (b ≤ a → z ≡ y) → z ≡ pick (ltb a b) x y
  pick_below a b {x} {y} {z} low high = go (ltb a b) refl
    where
      go : (t : Bool) → ltb a b ≡ t → z ≡ pick t x y
      go true e = low (ltb-true a b e)
      go false e = high (ltb-false a b e)

  module _ (len : ℕ) (f : ℕ → List A) (each : (i : ℕ) → length (f i) ≡ len) where
    pub length-blocks : (n : ℕ) → length (blocks n f) ≡ n * len
    length-blocks zero = omega arith
    length-blocks (suc n) = rw (length-append, length-blocks n, each) (omega arith)

    get_d_blocks : (n i j : ℕ) (d : A) → i < n → j < len → get_or (blocks n f) (i * len + j) d ≡ get_or (f i) j d
    get_d_blocks zero i j d h l = absurd (not-suc-le-zero h)
    get_d_blocks (suc n) i j d h l = go (eq-or-lt_of_le (le_of_suc-le-suc h)) (get_d_blocks n i j d)
      where
        go : (i ≡ n) ⊎ (i < n) → (i < n → j < len → get_or (blocks n f) (i * len + j) d ≡ get_or (f i) j d)
            → get_or (blocks n f ++ f n) (i * len + j) d ≡ get_or (f i) j d
        go (inl e) below = rw (e, ← length-blocks n) (get_or-append-add (blocks n f) (f n) j d)
        go (inr m) below =
            get_or-append (blocks n f) (f n) d (i * len + j) (rw (length-blocks n) (omega (arith, mul-le-mul_right len m))) ∙ below m l

    -- read by division
    blocks_at : (n p : ℕ) (d : A) → 0 < len → p < n * len → get_or (blocks n f) p d ≡ get_or (f (p / len)) (p % len) d
    blocks_at n p d pos h = rw (div-add-mod' p len) at (get_d_blocks n (p / len) (p % len) d ((div-lt_iff_lt-mul pos).1 h) (mod-lt p pos))

-- ---- a page's actions, and a quad's
pub page_length : (g : Geometry) (page : ℕ) → length (page_block g page) ≡ page_actions g
page_length g page = simp (length-append, length-replicate) (omega arith)

-- action k of the list is that by comparison
pub page_listed : (g : Geometry) (page k : ℕ) → k < page_actions g → get_or (page_block g page) k Step ≡ page_action_of g page k
unfolding page_action_of
page_listed g page k l =
    pick_below k 7 (λ (m : k < 7). get_or-append stores rest Step k m)
    (λ (m : 7 ≤ k). get_d_append_right stores rest k Step m ∙ pick_below k (7 + page_quads_of g) (step m) (end m))
  where
    stores : List Action
    stores = stored (page_stores g page)

    steps : List Action
    steps = replicate (page_quads_of g) Step

    rest : List Action
    rest = steps ++ stored end_stores

    step : 7 ≤ k → k < 7 + page_quads_of g → get_or rest (k - 7) Step ≡ Step
    step m h =
        get_or-append steps (stored end_stores) Step (k - 7) (rw length-replicate (omega arith))
        ∙ get_or-replicate (page_quads_of g) (k - 7) Step Step (omega arith)

    end : 7 ≤ k → 7 + page_quads_of g ≤ k → get_or rest (k - 7) Step ≡ Store 0 1 0x4000
    end m h =
        let last : k - 7 ≡ length steps + 0 = rw length-replicate (omega arith) in
        rw last (get_or-append-add steps (stored end_stores) 0 Step)

module _ (g : Geometry) (image : List ℕ) (w : ℕ) where
  abbrev page : ℕ → List Action
  page i = page_block g (erased_page_of g i)

  abbrev quad : ℕ → List Action
  quad i = quad_block g (programmed_quad_of g i) (new_quad_of g image w (programmed_quad_of g i))

  erasing_length : length (erasing g) ≡ pages_of g * page_actions g
  erasing_length = length-blocks (page_actions g) page (λ i. page_length g (erased_page_of g i)) (pages_of g)

  programming_length : length (programming g image w) ≡ bank_quads_of g * quad_actions
  programming_length = length-blocks quad_actions quad (λ i. refl) (bank_quads_of g)

  -- "Total 12 + 8×N + 112×N×Q.": as many actions
  pub actions_total : length (actions_of g image w) ≡ total_of g
  unfolding actions_of
  actions_total =
      let lengths = length-append (erasing g) (programming g image w) in
      omega (arith, length-append prologue (erasing g ++ programming g image w), lengths, erasing_length, programming_length, total_place g)

  -- the action at a place is the list's, for every geometry and every place below the total
  pub action_listed : (place : ℕ) → place < total_of g → action_at_of g image w place ≡ get_or (actions_of g image w) place Step
  unfolding action_at_of actions_of quad_action_of
  action_listed place l =
      sym
      (pick_below place 12 (λ (m : place < 12). get_or-append prologue rest Step place m)
      (λ (m : 12 ≤ place). get_d_append_right prologue rest place Step m ∙ pick_below place (programming_from g) (erases m) (programs m)))
    where
      rest : List Action
      rest = erasing g ++ programming g image w

      erases : 12 ≤ place → place < programming_from g
          → get_or rest (place - 12) Step ≡ page_action_of g (erased_page_of g ((place - 12) / page_actions g)) ((place - 12) % page_actions g)
      erases m h =
          let pos : 0 < page_actions g = omega arith in
          get_or-append (erasing g) (programming g image w) Step (place - 12) (rw erasing_length (omega arith))
          ∙ blocks_at (page_actions g) page (λ i. page_length g (erased_page_of g i)) (pages_of g) (place - 12) Step pos (omega arith)
          ∙ page_listed g (erased_page_of g ((place - 12) / page_actions g)) ((place - 12) % page_actions g) (mod-lt (place - 12) pos)

      programs : 12 ≤ place → programming_from g ≤ place
          → get_or rest (place - 12) Step ≡ get_or (quad ((place - programming_from g) / quad_actions)) ((place - programming_from g) % quad_actions) Step
      programs m h =
          let from : place - 12 - length (erasing g) ≡ place - programming_from g = rw erasing_length (omega arith) in
          get_d_append_right (erasing g) (programming g image w) (place - 12) Step (rw erasing_length (omega arith))
          ∙ ap (λ (p : ℕ). get_or (programming g image w) p Step) from
          ∙ blocks_at quad_actions quad (λ i. refl) (bank_quads_of g) (place - programming_from g) Step (omega arith) (omega (arith, total_place g))
