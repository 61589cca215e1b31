-- Which of declines 1, 2 and 19 applies to a call for a row. Assumes nothing.
use Prim.Native.Nat.{ℕ, ◌≤◌, ◌<◌}
use Rattle.std.specs.Prelude.{Ok, Err}
use mathlib.Core.Path.{◌≡◌, refl}
use mathlib.Core.Bool.{Bool, true, false, ◌&&◌, and-false}
use mathlib.Core.List.{List, [], ◌∷◌}
use mathlib.Core.Logic.{◌⊎◌, inl, inr}
use lib.Dec.{eqb}
use borrow.Author.Tests.{ne_eqb, lt-leb}
use Rattle.words.specs.declared.decline.Decline.{Decline}
use Rattle.words.specs.Decline.{Verdict, accepted_of}
use Rattle.geometry.specs.declared.banks.Geometry.{Geometry}
use Rattle.geometry.specs.Banks.{in_range_of, bank_words_of}
use Rattle.geometry.specs.Lent.{most_sram, lengths_fit_of, lent_decline_of, lent_decline_up_to}
use Rattle.row_signs.specs.declared.sign.Sign.{Sign}
use Rattle.row_signs.specs.declared.queue.Queue.{Queue}
use Rattle.row_judge.specs.Judge.{row_stands_of, row_decline_of, Judged}
use Rattle.row_judge.proofs.JudgeLaws.{stands, lent_accepted}

module _ (g : Geometry) (k : ℕ) (signs : List Sign) (n : ℕ) (queue : Queue) (last store image sram : ℕ) where
  abbrev decline : Verdict
  decline = row_decline_of g k signs n queue last store image sram

  pub geometry_declines : in_range_of g ≡ false → decline ≡ Err Decline.Geometry
  unfolding row_decline_of lent_decline_up_to
  geometry_declines h = rw h refl

  pub length-declines : in_range_of g ≡ true → (image ≡ bank_words_of g → ⊥) ⊎ (most_sram < sram) → decline ≡ Err Decline.Length
  unfolding row_decline_of lent_decline_up_to lengths_fit_of
  length-declines h (inl other) = rw (h, ne_eqb image (bank_words_of g) other) refl
  length-declines h (inr more) = rw (h, lt-leb sram most_sram more, and-false (eqb image (bank_words_of g) && true)) refl

  pub row_declines : in_range_of g ≡ true → image ≡ bank_words_of g → sram ≤ most_sram → (Judged g k signs n queue last store image sram → ⊥)
      → decline ≡ Err Decline.Row
  unfolding row_decline_of
  row_declines listed words room none = go (row_stands_of g k signs n queue last store) refl
    where
      lent : lent_decline_of g (image ∷ []) sram ≡ Ok tt
      lent = lent_accepted g image sram listed words room

      go : (t : Bool) → row_stands_of g k signs n queue last store ≡ t → decline ≡ Err Decline.Row
      go false e = rw (lent, e) refl
      go true e =
          let accepted : accepted_of decline ≡ true = rw (lent, e) refl in
          absurd (none (stands g k signs n queue last store image sram accepted))
