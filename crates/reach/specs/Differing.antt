-- W-214: which answer the call gives and what it means, that this fixes the call, and that the two lists of actions differ at the place given
-- and nowhere else. Assumes nothing.
use Rattle.std.specs.Prelude.{ℕ, ◌+◌, ◌-◌, ◌/◌, ◌%◌, ◌<◌, ◌≡◌, true, List, [], ◌∷◌, length, get_or}
use Rattle.words.specs.Quad.{word_at}
use Rattle.words.specs.Lists.{Ascending}
use Rattle.words.specs.Decline.{number_of}
use Rattle.geometry.specs.declared.banks.Geometry.{Geometry}
use Rattle.geometry.specs.Banks.{in_range_of, bank_words_of}
use Rattle.geometry.specs.Lent.{Fit, LentDeclines}
use Rattle.sequence.specs.Sequence.{sequence_quad_of}
use Rattle.device.specs.Numbers.{NVMDATA0, plain}
use Rattle.update.specs.declared.actions.Action.TheVariants.{Store, Step}
use Rattle.update.specs.Actions.{actions_of, total_of}
use Rattle.reach.specs.declared.Difference.{Difference}
use Rattle.reach.specs.Reach.{ReachAnswer, Reached, reach_number_of, data_place_of, reach_of}

-- word i differs, and no other does
pub record OneWord (image other : List ℕ) (i : ℕ) : Type 0 where
  pub differs : word_at image i ≡ word_at other i → ⊥
  pub same : (j : ℕ) → (j ≡ i → ⊥) → word_at image j ≡ word_at other j

abbrev pub Differs : List ℕ → List ℕ → ℕ → Type 0
Differs image other i = word_at image i ≡ word_at other i → ⊥

-- "the number of differing words and the lowest and highest differing word; for equal images all three are 0": by the numbers of the words
-- among the first n that differ
pub record Meaning (image other : List ℕ) (n : ℕ) (d : Difference) (words : List ℕ) : Type 0 where
  pub count : d.count ≡ length words
  pub lowest : d.lowest ≡ get_or words 0 0
  pub highest : d.highest ≡ get_or words (length words - 1) 0
  pub differ : Ascending (Differs image other) n words

-- an answer that gives them
pub record WordsGiven (image other : List ℕ) (n : ℕ) (answer : ReachAnswer) : Type 0 where
  pub difference : Difference
  pub words : List ℕ
  pub is : answer ≡ ReachAnswer.Words difference
  pub means : Meaning image other n difference words

-- at a place the actions of the two updates differ, where the lower-alias bank's sequence word is w
abbrev pub DifferAt : Geometry → List ℕ → List ℕ → ℕ → ℕ → Type 0
DifferAt g image other w place = get_or (actions_of g image w) place Step ≡ get_or (actions_of g other w) place Step → ⊥

-- what W-214 asks of an answer; the number of its kind is 0 to 2, in the request's order, and 3 beside a decline (ours)
pub record Reaches (g : Geometry) (image other : List ℕ) (a : Reached) : Type 0 where
  pub declines : LentDeclines g (length image ∷ length other ∷ []) 0 (number_of a.decline)
  pub accepted : in_range_of g ≡ true → Fit g (length image ∷ length other ∷ []) 0 → number_of a.decline ≡ 0
  pub declined : (number_of a.decline ≡ 0 → ⊥) → reach_number_of a.answer ≡ 3
  -- "For two images that differ in one word, a new call gives the place of the differing action"
  pub action : number_of a.decline ≡ 0 → (i : ℕ) → OneWord image other i → (w place : ℕ) → DifferAt g image other w place
      → (a.answer ≡ ReachAnswer.Action place) × (reach_number_of a.answer ≡ 0)
  -- "or says there is none"
  pub no_action : number_of a.decline ≡ 0 → (i : ℕ) → OneWord image other i → ((w place : ℕ) → DifferAt g image other w place → ⊥)
      → (a.answer ≡ ReachAnswer.NoAction) × (reach_number_of a.answer ≡ 1)
  -- "Equal images, or several differing words, are answered with the number of differing words and the lowest and highest differing word"
  pub words : number_of a.decline ≡ 0 → ((i : ℕ) → OneWord image other i → ⊥)
      → WordsGiven image other (bank_words_of g) a.answer × (reach_number_of a.answer ≡ 2)

-- what an answer tells: that one action differs, at a place
pub record Found (g : Geometry) (image other : List ℕ) (place : ℕ) : Type 0 where
  pub word : ℕ
  pub one : OneWord image other word
  pub outside : word / 4 ≡ sequence_quad_of g → ⊥
  pub at : place ≡ data_place_of g word

-- or none
pub record NotFound (g : Geometry) (image other : List ℕ) : Type 0 where
  pub word : ℕ
  pub one : OneWord image other word
  pub inside : word / 4 ≡ sequence_quad_of g

-- "Outside the sequence quad exactly one action differs, a data store.": at that place both are stores to the same NVMDATA register with the
-- two words, and at every other place the actions are the same
pub record OneAction (g : Geometry) (image other : List ℕ) (i w : ℕ) : Type 0 where
  pub within : data_place_of g i < total_of g
  pub long : (length (actions_of g image w) ≡ total_of g) × (length (actions_of g other w) ≡ total_of g)
  pub first : get_or (actions_of g image w) (data_place_of g i) Step ≡ Store (NVMDATA0 + i % 4) plain (word_at image i)
  pub second : get_or (actions_of g other w) (data_place_of g i) Step ≡ Store (NVMDATA0 + i % 4) plain (word_at other i)
  pub same : (k : ℕ) → (k ≡ data_place_of g i → ⊥) → get_or (actions_of g image w) k Step ≡ get_or (actions_of g other w) k Step

pub record Differing : Type 0 where
  -- every call is answered so, and no other answer is as asked
  pub meets : (g : Geometry) (image other : List ℕ) → Reaches g image other (reach_of g image other)
  pub fixes : (g : Geometry) (image other : List ℕ) (a : Reached) → Reaches g image other a → a ≡ reach_of g image other
  -- from the answer to the images
  pub action : (g : Geometry) (image other : List ℕ) (place : ℕ) → (reach_of g image other).answer ≡ ReachAnswer.Action place → Found g image other place
  pub no_action : (g : Geometry) (image other : List ℕ) → (reach_of g image other).answer ≡ ReachAnswer.NoAction → NotFound g image other
  pub outside : (g : Geometry) (image other : List ℕ) (i w : ℕ) → in_range_of g ≡ true → length image ≡ bank_words_of g → length other ≡ bank_words_of g
      → OneWord image other i → (i / 4 ≡ sequence_quad_of g → ⊥) → OneAction g image other i w
  -- "Inside the sequence quad nothing differs.": the lists of actions are the same
  pub inside : (g : Geometry) (image other : List ℕ) (i w : ℕ) → OneWord image other i → i / 4 ≡ sequence_quad_of g
      → actions_of g image w ≡ actions_of g other w
