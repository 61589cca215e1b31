-- "The update, action by action", by the paper's numbers and addresses, and that no other list is played. Assumes nothing.
use Rattle.std.specs.Prelude.{ℕ, ◌+◌, ◌-◌, ◌*◌, ◌%◌, ◌≡◌, true, List, [], ◌∷◌, ◌++◌, eqb, ltb, length, replicate}
use Rattle.words.specs.Word.{pick}
use Rattle.words.specs.Quad.{word_at}
use Rattle.geometry.specs.declared.banks.Geometry.{Geometry}
use Rattle.geometry.specs.Banks.{in_range_of}
use Rattle.update.specs.declared.actions.Action.{Action}
use Rattle.update.specs.declared.actions.Action.TheVariants.{Store, Step}
use Rattle.update.specs.Actions.{blocks, actions_of}
use Rattle.update.specs.StartSentences.{list_total}

-- "three keys"
abbrev pub keys : List Action
keys = Store 1 0 0 ∷ Store 1 0 0xAA99_6655 ∷ Store 1 0 0x5566_99AA ∷ []

-- "1. NVMCON clear 0x4000; NVMCON plain 0; set 0x4000; three keys; set 0x8000; clear 0x4000; three keys; NVMBWP clear 0x1F. 12 actions."
abbrev pub first : List Action
first = Store 0 1 0x4000 ∷ Store 0 0 0 ∷ Store 0 2 0x4000 ∷ (keys ++ (Store 0 2 0x8000 ∷ Store 0 1 0x4000 ∷ (keys ++ (Store 9 1 0x1F ∷ []))))

-- "2. Erase on the upper side: last boot page, other boot pages ascending, program pages ascending.": where page i of these begins
abbrev pub erased_at : Geometry → ℕ → ℕ
erased_at g i =
    pick (eqb i 0) (0x1FC2_0000 + (g.b - 1) * (128 * g.q))
    (pick (ltb i g.b) (0x1FC2_0000 + (i - 1) * (128 * g.q)) (0x1D00_0000 + (g.p + (i - g.b)) * (128 * g.q)))

-- "Each: NVMADDR, NVMCON plain 4, set 0x4000, keys, set 0x8000, 8×Q steps, clear 0x4000."
abbrev pub erased : Geometry → ℕ → List Action
erased g i =
    Store 2 0 (erased_at g i) ∷ Store 0 0 4 ∷ Store 0 2 0x4000 ∷ (keys ++ (Store 0 2 0x8000 ∷ (replicate (8 * g.q) Step ++ (Store 0 1 0x4000 ∷ []))))

-- "3. Program quads: program pages, then boot pages ascending, sequence quad last.": where quad i of these is, and its first word in a bank
abbrev pub programmed_at : Geometry → ℕ → ℕ
programmed_at g i = pick (ltb i (8 * g.q * g.p)) (0x1D00_0000 + g.p * (128 * g.q) + 16 * i) (0x1FC2_0000 + 16 * (i - 8 * g.q * g.p))

abbrev pub programmed_word : Geometry → ℕ → ℕ
programmed_word g i = pick (ltb i (8 * g.q * g.p)) (g.b * (32 * g.q) + 4 * i) (4 * (i - 8 * g.q * g.p))

-- "the new sequence quad is T = t+1 (modulo 65,536), its complement, then three words of all ones. The image is one bank long; its last boot quad
-- is ignored.": word n of quad i, by the image and the lower-alias bank's sequence word
abbrev pub programmed_data : Geometry → List ℕ → ℕ → ℕ → ℕ → ℕ
programmed_data g image w i n =
    let t = (w % 65536 + 1) % 65536 in
    pick (eqb (i + 1) (8 * g.q * (g.b + g.p))) (pick (eqb n 0) (t + 65536 * (65535 - t)) 0xFFFF_FFFF) (word_at image (programmed_word g i + n))

-- "Each: NVMADDR, NVMDATA0 to 3, NVMCON plain 2, set 0x4000, keys, set 0x8000, one step, clear 0x4000."
abbrev pub programmed : Geometry → List ℕ → ℕ → ℕ → List Action
programmed g image w i =
    let word : ℕ → Action = λ n. Store (3 + n) 0 (programmed_data g image w i n) in
    Store 2 0 (programmed_at g i) ∷ word 0 ∷ word 1 ∷ word 2 ∷ word 3
    ∷ Store 0 0 2 ∷ Store 0 2 0x4000 ∷ (keys ++ (Store 0 2 0x8000 ∷ Step ∷ Store 0 1 0x4000 ∷ []))

-- every action, in order
abbrev pub the_list : Geometry → List ℕ → ℕ → List Action
the_list g image w = first ++ (blocks (g.b + g.p) (erased g) ++ blocks (8 * g.q * (g.b + g.p)) (programmed g image w))

pub record ListSentences : Type 0 where
  pub same : (g : Geometry) → in_range_of g ≡ true → (image : List ℕ) (w : ℕ) → actions_of g image w ≡ the_list g image w
  -- "Total 12 + 8×N + 112×N×Q."
  pub total : (g : Geometry) (image : List ℕ) (w : ℕ) → length (the_list g image w) ≡ list_total g
