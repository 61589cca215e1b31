-- The action of each place of a block: a store of its list, a step, or its end. A block's places end where the next block's begin.
-- Assumes nothing.
use mathlib.Core.Path.{◌≡◌, refl, sym, ap, ◌∙◌}
use mathlib.Core.List.{List, ◌++◌}
use Prim.Native.Nat.{ℕ, ◌+◌, ◌≤◌, ◌<◌}
use native.Mathlib.Nat.{zero-add, mul-le-mul_right}
use native.Mathlib.Omega.{arith}
use lib.ListN.{length, get_or, replicate, length-append, length-replicate, get_or-replicate, get_or-append}
use lib.Seq.{get_or-append-add}
use borrow.Author.Tests.{lt-ltb}
use Rattle.start_up.specs.StartUp.{Access}
use Rattle.update.specs.declared.actions.Action.{Action}
use Rattle.update.specs.declared.actions.Action.TheVariants.{Store, Step}
use Rattle.update.specs.Actions.{stored, erased_page_of, total_of, page_actions, quad_action_of, action_at_of}
use Rattle.update.proofs.StoringLaws.{none, stored_at, stored_length}
use Rattle.update.proofs.PlaceLaws.{store_of_access, total_place, page-action, quad-action}
use Rattle.update.proofs.ActionLaws.{page_length, page_listed}
use Rattle.update.proofs.Blocks.{Fixed, Block, Has, place_of, stores_in, steps_in, end_in, actions_in, old_word}
use Rattle.update.proofs.Blocks.Block.{prologue, page, quad}

-- ---- a list of stores, steps and stores
module _ (stores : List Access) (steps : ℕ) (end : List Access) where
  listed : List Action
  listed = stored stores ++ (replicate steps Step ++ stored end)

  listed_length : length listed ≡ length stores + (steps + length end)
  unfolding listed
  listed_length = simp (length-append, length-replicate, stored_length)

  store_listed : (j : ℕ) → j < length stores → get_or listed j Step ≡ store_of_access (get_or stores j none)
  unfolding listed
  store_listed j l = get_or-append (stored stores) _ Step j (rw (stored_length stores) l) ∙ stored_at stores j l

  past_stores : (j : ℕ) → get_or listed (length stores + j) Step ≡ get_or (replicate steps Step ++ stored end) j Step
  unfolding listed
  past_stores j = rw (stored_length stores) at (get_or-append-add (stored stores) (replicate steps Step ++ stored end) j Step)

  step_listed : (j : ℕ) → j < steps → get_or listed (length stores + j) Step ≡ Step
  step_listed j l =
      past_stores j
      ∙ get_or-append (replicate steps Step) (stored end) Step j (rw length-replicate l)
      ∙ get_or-replicate steps j Step Step l

  end_listed : get_or listed (length stores + steps) Step ≡ get_or (stored end) 0 Step
  end_listed =
      past_stores steps
      ∙ ap (λ (n : ℕ). get_or (replicate steps Step ++ stored end) n Step) (sym (omega (arith, length-replicate steps Step)))
      ∙ get_or-append-add (replicate steps Step) (stored end) 0 Step

module _ (u : Fixed) where
  open u use {g, image}

  pub block_length : (k : Block) → length (actions_in u k) ≡ length (stores_in u k) + (steps_in u k + length (end_in u k))
  unfolding listed
  block_length k = listed_length (stores_in u k) (steps_in u k) (end_in u k)

  -- the action of a place of a block is its own
  block_action : (k : Block) → Has u k → (j : ℕ) → j < length (actions_in u k)
      → action_at_of g image (old_word u) (place_of u k + j) ≡ get_or (actions_in u k) j Step
  unfolding action_at_of quad_action_of
  block_action prologue has j l = rw (zero-add j, lt-ltb j 12 l)
  block_action (page i) has j l =
      let below : j < page_actions g = rw (page_length g (erased_page_of g i)) at l in
      page-action g image (old_word u) i j has below ∙ sym (page_listed g (erased_page_of g i) j below)
  block_action (quad i) has j l = quad-action g image (old_word u) i j l

  pub store_action : (k : Block) → Has u k → (j : ℕ) → j < length (stores_in u k)
      → action_at_of g image (old_word u) (place_of u k + j) ≡ store_of_access (get_or (stores_in u k) j none)
  unfolding listed
  store_action k has j l = block_action k has j (omega (arith, block_length k)) ∙ store_listed (stores_in u k) (steps_in u k) (end_in u k) j l

  pub step_action : (k : Block) → Has u k → (j : ℕ) → j < steps_in u k
      → action_at_of g image (old_word u) (place_of u k + (length (stores_in u k) + j)) ≡ Step
  unfolding listed
  step_action k has j l =
      block_action k has (length (stores_in u k) + j) (omega (arith, block_length k)) ∙ step_listed (stores_in u k) (steps_in u k) (end_in u k) j l

  -- a block with steps has an end
  pub block-end : (k : Block) → 0 < steps_in u k → (length (end_in u k) ≡ 1) × (get_or (stored (end_in u k)) 0 Step ≡ Store 0 1 0x4000)
  block-end prologue l = absurd (omega arith)
  block-end (page i) l = (refl, refl)
  block-end (quad i) l = (refl, refl)

  pub end_action : (k : Block) → Has u k → 0 < steps_in u k
      → action_at_of g image (old_word u) (place_of u k + (length (stores_in u k) + steps_in u k)) ≡ Store 0 1 0x4000
  unfolding listed
  end_action k has l =
      let (one, end) = block-end k l in
      block_action k has (length (stores_in u k) + steps_in u k) (omega (arith, block_length k)) ∙ end_listed (stores_in u k) (steps_in u k) (end_in u k) ∙ end

  -- every block ends by the total
  pub block_below : (k : Block) → Has u k → place_of u k + length (actions_in u k) ≤ total_of g
  block_below prologue has = omega (arith, total_place g)
  block_below (page i) has =
      omega (arith, total_place g, page_length g (erased_page_of g i), mul-le-mul_right (page_actions g) has)
  block_below (quad i) has = omega (arith, total_place g)
