-- The state of an update by which of its banks is old: bank 2 where b, else bank 1.
-- Assumes nothing.
use mathlib.Core.Path.{◌≡◌, refl, sym, ap, ◌∙◌}
use mathlib.Core.Bool.{Bool, true, false, not}
use mathlib.Core.List.{List}
use Prim.Native.Nat.{ℕ}
use lib.ListN.{length}
use Rattle.words.specs.Word.{pick}
use Rattle.words.specs.Quad.{word_at, put_quad}
use Rattle.words.proofs.BitLaws.{true_not_false}
use Rattle.geometry.specs.declared.banks.Geometry.{Geometry}
use Rattle.geometry.specs.Banks.{bank_words_of}
use Rattle.sequence.specs.Sequence.{sequence_index_of}
use Rattle.device.specs.declared.record.Device.{Device}
use Rattle.device.specs.Record.{bfswap}
use Rattle.flash.specs.Effect.{effect}
use Rattle.flash.specs.Write.{written_of}
use Rattle.resets.specs.Reset.{compared_of}
use Rattle.device.specs.State.{State, bank_of, state}
use Rattle.controller.specs.Controller.{Sound}
use Rattle.update.specs.Start.{lower_word_of, other_word_of}
use Rattle.update.specs.PowerFail.{SameBanks}
use Rattle.update.proofs.WordLaws.{chosen_of}

-- the state with the old bank and the new
abbrev pub placed : Bool → Device → List ℕ → List ℕ → State
placed b d old new = state d (pick b new old) (pick b old new)

-- every state is one
pub replaced : (b : Bool) (s : State) → s ≡ placed b s.device (bank_of s b) (bank_of s (not b))
replaced true s = refl
replaced false s = refl

-- what holds of the old bank and of the new holds of bank 1 and bank 2
pub both_placed : (P : List ℕ → Type 0) (b : Bool) (old new : List ℕ) → P old → P new → P (pick b new old) × P (pick b old new)
both_placed P true old new o n = (n, o)
both_placed P false old new o n = (o, n)

-- and of bank 1 and bank 2, of either
pub either_placed : (P : List ℕ → Type 0) (b : Bool) (s : State) → P s.one → P s.two → P (bank_of s b)
either_placed P true s one two = two
either_placed P false s one two = one

pub same_placed : (b : Bool) (s t : State) → bank_of t b ≡ bank_of s b → bank_of t (not b) ≡ bank_of s (not b) → SameBanks s t
same_placed true s t old new = (new, old)
same_placed false s t old new = (old, new)

-- and the other way
pub same_bank : (s t : State) → SameBanks s t → (second : Bool) → bank_of t second ≡ bank_of s second
same_bank s t (one, two) true = two
same_bank s t (one, two) false = one

pub not_both : {A : Type 0} (b : Bool) → b ≡ not b → A
not_both true e = true_not_false e
not_both false e = true_not_false (sym e)

module _ (b : Bool) (d : Device) (old new : List ℕ) where
  pub bank_old : bank_of (placed b d old new) b ≡ old
  bank_old = go b
    where
      go : (t : Bool) → bank_of (placed t d old new) t ≡ old
      go true = refl
      go false = refl

  pub bank_new : bank_of (placed b d old new) (not b) ≡ new
  bank_new = go b
    where
      go : (t : Bool) → bank_of (placed t d old new) (not t) ≡ new
      go true = refl
      go false = refl

  module _ (g : Geometry) where
    pub new_long : Sound g (placed b d old new) → length new ≡ bank_words_of g
    new_long sound = ap length (sym bank_new) ∙ either_placed (λ l. length l ≡ bank_words_of g) (not b) (placed b d old new) sound.first sound.other

    -- which bank a reset chooses
    pub compared_placed : compared_of g (pick b new old) (pick b old new) ≡ chosen_of b (word_at old (sequence_index_of g)) (word_at new (sequence_index_of g))
    compared_placed = go b
      where
        go : (t : Bool) → compared_of g (pick t new old) (pick t old new) ≡ chosen_of t (word_at old (sequence_index_of g)) (word_at new (sequence_index_of g))
        go true = refl
        go false = refl

    -- where the old bank is lower, t is its
    module _ (boot : bfswap d ≡ b) where
      pub lower_placed : lower_word_of g (placed b d old new) ≡ word_at old (sequence_index_of g)
      lower_placed = rw boot (ap (λ (l : List ℕ). word_at l (sequence_index_of g)) bank_old)

      pub other_placed : other_word_of g (placed b d old new) ≡ word_at new (sequence_index_of g)
      other_placed = rw boot (go b)
        where
          go : (t : Bool) → word_at (pick t (pick t new old) (pick t old new)) (sequence_index_of g) ≡ word_at new (sequence_index_of g)
          go true = refl
          go false = refl

  -- a write of a quad of the new bank
  pub put_placed : (e : Device) (j : ℕ) (words : List ℕ)
      → written_of (placed b d old new) e (effect false true (not b) j words).write ≡ placed b e old (put_quad new j words)
  put_placed e j words = go b
    where
      go : (t : Bool) → written_of (placed t d old new) e (effect false true (not t) j words).write ≡ placed t e old (put_quad new j words)
      go true = refl
      go false = refl
