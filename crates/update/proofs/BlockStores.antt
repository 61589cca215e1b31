-- The stores of a block: none of them is declined, all but the last leave the device at rest, and the last launches the block's operation,
-- or in the prologue frees the upper alias.
-- Assumes nothing.
use mathlib.Core.Path.{◌≡◌, refl, sym, ap, ◌∙◌}
use mathlib.Core.Bool.{true}
use mathlib.Core.List.{List, [], ◌∷◌, ◌++◌}
use Prim.Native.Nat.{ℕ, ◌+◌, ◌-◌, ◌*◌, ◌^◌, ◌≤◌, ◌<◌}
use native.Mathlib.Nat.{mul-lt-mul_of_pos_right}
use native.Mathlib.Decide.{dec_le}
use native.Mathlib.Omega.{arith}
use lib.Dec.{eqb, lit<}
use lib.ListN.{length, take}
use lib.Seq.{take-append-add}
use Rattle.words.specs.Quad.{word_at, quad_at, blank_quad}
use Rattle.words.proofs.CaseLaws.{below_four}
use Rattle.words.proofs.PickLaws.{pick_both}
use Rattle.geometry.specs.declared.banks.Geometry.{Geometry}
use Rattle.geometry.specs.Banks.{InRange, pages_of, page_quads_of}
use Rattle.geometry.proofs.SizeLaws.{in-range}
use Rattle.sequence.specs.Sequence.{sequence_quad_of, next_sequence_of}
use Rattle.device.specs.declared.record.Device.{Device}
use Rattle.device.specs.Builders.{with_address, with_data}
use Rattle.device.specs.Record.{bfswap}
use Rattle.common_declines.proofs.PossibleLaws.{idle_step}
use Rattle.register_access.specs.Store.{has_form_of}
use Rattle.register_access.proofs.AcceptedLaws.{AtRest}
use Rattle.start_up.specs.StartUp.{stores_of}
use Rattle.start_up.proofs.StartUpLaws.{stores_append}
use Rattle.controller.proofs.RestLaws.{NoLaunches}
use Rattle.update.specs.Actions.{clearing_stores, unprotecting_stores, page_stores, quad_stores}
use Rattle.update.specs.Actions.{upper_address_of, erased_page_of, programmed_quad_of, new_quad_of, bank_quads_of}
use Rattle.update.specs.PowerFail.{Words}
use Rattle.update.proofs.WordLaws.{next_word}
use Rattle.update.proofs.TargetLaws.{address_word}
use Rattle.update.proofs.HeadLaws.{Between, run_con, launched_device, cleared_device, quiet_op, quiet_set, quiet_clear, quiet_keys}
use Rattle.update.proofs.HeadLaws.{page_head, quad_head, clearing_head, cleared_rest, unprotecting_head, ready_between}
use Rattle.update.proofs.StoringLaws.{Forms, prefix_rest, quiet_prefix, Shut, shut_prefix, swap_kept}
use Rattle.update.proofs.BankLaws.{page_below, quad_below}
use Rattle.update.proofs.Blocks.{Fixed, Block, Has, stores_in, steps_in, run_in, Begins, DeviceIn, old_word, new_words}
use Rattle.update.proofs.Blocks.Block.{prologue, page, quad}

-- a quad of four words of 32 bits
abbrev pub SmallQuad : List ℕ → Type 0
SmallQuad q = (k : ℕ) → k < 4 → word_at q k < 2 ^ 32

pub blank_small : SmallQuad blank_quad
blank_small = below_four _ (lit< tt) (lit< tt) (lit< tt) (lit< tt)

pub quad_small : (l : List ℕ) (j : ℕ) → Words l → SmallQuad (quad_at l j)
quad_small l j words = below_four _ (words (4 * j)) (words (4 * j + 1)) (words (4 * j + 2)) (words (4 * j + 3))

next_small : (w : ℕ) → SmallQuad (next_sequence_of w)
unfolding next_sequence_of
next_small w = below_four _ (next_word w) (lit< tt) (lit< tt) (lit< tt)

-- the quads of the new bank
pub new_small : (g : Geometry) (image : List ℕ) (w j : ℕ) → Words image → SmallQuad (new_quad_of g image w j)
unfolding new_quad_of
new_small g image w j words = pick_both SmallQuad (eqb j (sequence_quad_of g)) (next_small w) (quad_small image j words)

pub new_four : (g : Geometry) (image : List ℕ) (w j : ℕ) → let q = new_quad_of g image w j in
    q ≡ word_at q 0 ∷ word_at q 1 ∷ word_at q 2 ∷ word_at q 3 ∷ []
unfolding new_quad_of next_sequence_of
new_four g image w j = pick_both (λ (q : List ℕ). q ≡ word_at q 0 ∷ word_at q 1 ∷ word_at q 2 ∷ word_at q 3 ∷ []) (eqb j (sequence_quad_of g)) refl refl

-- ---- the stores of a page and of a quad
module _ (g : Geometry) (ok : InRange g) where
  page_word : (p : ℕ) → p < pages_of g → upper_address_of g (p * page_quads_of g) < 2 ^ 32
  page_word p l = address_word g ok (p * page_quads_of g) (mul-lt-mul_of_pos_right l (omega (arith, ok.q_low)))

  page_forms : (p : ℕ) → p < pages_of g → Forms (page_stores g p)
  unfolding has_form_of
  page_forms p l = search (arith, page_word p l)

  page_quiet : (p : ℕ) → p < pages_of g → NoLaunches (take 6 (page_stores g p))
  unfolding has_form_of
  page_quiet p l = search (arith, page_word p l)

  module _ (j : ℕ) (l : j < bank_quads_of g) (words : List ℕ) (small : SmallQuad words) where
    quad_forms : Forms (quad_stores g j words)
    unfolding has_form_of
    quad_forms = search (arith, address_word g ok j l, small 0 (omega arith), small 1 (omega arith), small 2 (omega arith), small 3 (omega arith))

    quad_quiet : NoLaunches (take 10 (quad_stores g j words))
    unfolding has_form_of
    quad_quiet = search (arith, address_word g ok j l, small 0 (omega arith), small 1 (omega arith), small 2 (omega arith), small 3 (omega arith))

    -- the key is shut before each store to NVMCON
    quad_shut : Shut true (take 10 (quad_stores g j words))
    quad_shut = (refl, (refl, (refl, (refl, (refl, (refl, (refl, (refl, (refl, (refl, tt))))))))))

-- ---- the stores of the prologue
prologue_forms : Forms (clearing_stores ++ unprotecting_stores)
unfolding has_form_of
prologue_forms = search arith

module _ (u : Fixed) where
  open u use {g, image, b, listed, image_words}

  ok : InRange g
  ok = in-range g listed

  small : (i : ℕ) → SmallQuad (new_words u i)
  small i = new_small g image (old_word u) (programmed_quad_of g i) image_words

  -- the stores past the first part, which clears the errors
  prologue_past : (d : Device) → Begins u d → (n : ℕ)
      → stores_of g d (take (7 + n) (clearing_stores ++ unprotecting_stores)) ≡ stores_of g (cleared_device b d) (take n unprotecting_stores)
  prologue_past d at n =
      ap (stores_of g d) (take-append-add clearing_stores unprotecting_stores n)
      ∙ stores_append g d clearing_stores (take n unprotecting_stores)
      ∙ ap (λ (e : Device). stores_of g e (take n unprotecting_stores)) (clearing_head g b d at.rest at.boot at.program)

  prologue_rests : (d : Device) → Begins u d → (j : ℕ) → j < 12 → AtRest g (stores_of g d (take j (clearing_stores ++ unprotecting_stores)))
  prologue_rests d at j l = go (dec_le 7 j)
    where
      past : (n : ℕ) → n ≤ 4 → AtRest g (stores_of g d (take (7 + n) (clearing_stores ++ unprotecting_stores)))
      past n m =
          let cleared = cleared_rest g b d at.rest at.boot at.program in
          rw (prologue_past d at n) (prefix_rest g (cleared_device b d) cleared unprotecting_stores 4 n m (quiet_clear, quiet_keys))

      go : Dec (7 ≤ j) → AtRest g (stores_of g d (take j (clearing_stores ++ unprotecting_stores)))
      go (yes late) = let here : 7 + (j - 7) ≡ j = omega arith in rw here at (past (j - 7) (omega arith))
      go (no early) =
          prefix_rest g d at.rest (clearing_stores ++ unprotecting_stores) 6 j (omega arith)
          (quiet_clear, (quiet_op 0 refl (lit< tt), (quiet_set, quiet_keys)))

  -- ---- of every block
  pub block_fits : (k : Block) → Has u k → Forms (stores_in u k)
  block_fits prologue has = prologue_forms
  block_fits (page i) has = page_forms g ok (erased_page_of g i) (page_below g ok i has)
  block_fits (quad i) has = quad_forms g ok (programmed_quad_of g i) (quad_below g ok i has) (new_words u i) (small i)

  pub block_rests : (k : Block) → Has u k → (d : Device) → DeviceIn u k d → (j : ℕ) → j < length (stores_in u k)
      → AtRest g (stores_of g d (take j (stores_in u k)))
  block_rests prologue has d at j l = prologue_rests d at j l
  block_rests (page i) has d at j l =
      prefix_rest g d at.rest (stores_in u (page i)) 6 j (omega arith) (page_quiet g ok (erased_page_of g i) (page_below g ok i has))
  block_rests (quad i) has d at j l =
      prefix_rest g d at.rest (stores_in u (quad i)) 10 j (omega arith)
      (quad_quiet g ok (programmed_quad_of g i) (quad_below g ok i has) (new_words u i) (small i))

  -- within the stores of a quad BFSWAP stays
  pub quad_swap : (i : ℕ) → Has u (quad i) → (d : Device) → Between g b d → (j : ℕ) → j < 11 → bfswap (stores_of g d (take j (stores_in u (quad i)))) ≡ b
  quad_swap i has d at j l =
      let q = programmed_quad_of g i in
      let below = quad_below g ok i has in
      let stores = stores_in u (quad i) in
      swap_kept g d at.rest true (λ _. at.shut) (take j stores) (quiet_prefix stores 10 j (omega arith) (quad_quiet g ok q below (new_words u i) (small i)))
      (shut_prefix true stores 10 j (omega arith) (quad_shut g ok q below (new_words u i) (small i)))
      ∙ at.boot

  -- the stores of a block with steps launch its operation
  pub block_launches : (k : Block) → Has u k → (d : Device) → DeviceIn u k d → 0 < steps_in u k → stores_of g d (stores_in u k) ≡ run_in u k d 0
  block_launches prologue has d at l = absurd (omega arith)
  block_launches (page i) has d at l =
      page_head g b d at (erased_page_of g i) (page_below g ok i has)
      ∙ ap (run_in u (page i) d) (idle_step g d at.rest.possible at.rest.idle)
  block_launches (quad i) has d at l =
      let q = new_words u i in
      let here : Device = with_address d (upper_address_of g (programmed_quad_of g i)) in
      quad_head g b d at (programmed_quad_of g i) (word_at q 0) (word_at q 1) (word_at q 2) (word_at q 3) (quad_below g ok i has)
      (small i 0 (omega arith)) (small i 1 (omega arith)) (small i 2 (omega arith)) (small i 3 (omega arith))
      ∙ ap (λ (words : List ℕ). launched_device (with_data here words) (run_con b 2) d.step) (sym (new_four g image (old_word u) (programmed_quad_of g i)))
      ∙ ap (run_in u (quad i) d) (idle_step g d at.rest.possible at.rest.idle)

  -- and those of the prologue lead between two blocks
  pub prologue_leads : (d : Device) → Begins u d → Between g b (stores_of g d (stores_in u prologue))
  prologue_leads d at =
      rw (prologue_past d at 5 ∙ unprotecting_head g b d at.rest at.boot at.program at.lock)
      (ready_between g b d at.rest at.boot at.program at.lock at.reach at.quad)
