-- The device after a store to another register than NVMCON, register by register: the stored one takes bit by bit, the others stay.
-- Assumes nothing.
use mathlib.Core.Path.{◌≡◌, refl, sym, ap, ◌∙◌}
use mathlib.Core.Bool.{Bool, true, false}
use mathlib.Core.List.{List}
use Prim.Native.Nat.{ℕ, ◌+◌, ◌<◌}
use native.Mathlib.Omega.{arith}
use lib.Dec.{eqb}
use lib.ListN.{length, set, length-set}
use lib.Seq.{get_or-set_same, get_or-set_other}
use borrow.Author.Tests.{eqb-true, ne_eqb}
use Rattle.words.specs.Word.{pick, bit, merge_of}
use Rattle.words.specs.Quad.{word_at}
use Rattle.words.proofs.BitLaws.{merge_bit}
use Rattle.words.proofs.PickLaws.{pick_both, pick_each}
use Rattle.device.specs.declared.record.Device.{Device}
use Rattle.device.specs.Record.{register_of}
use Rattle.device.specs.ByNumber.{FourWords}
use Rattle.device.proofs.NumberLaws.{by_register}
use Rattle.register_fields.specs.Fields.{pwp_takes_of, bwp_takes_of, con2_takes_of}
use Rattle.register_fields.proofs.TakesLaws.{pwp_takes_bit, bwp_takes_bit, con2_takes_bit}
use Rattle.register_access.specs.Store.{data_after, applied_of}
use Rattle.register_access.specs.StoreSentences.{takes}

module _ (d : Device) (w : ℕ) (four : FourWords d) where
  pub applied_four : (r : ℕ) → FourWords (applied_of d r w)
  unfolding applied_of
  applied_four r = record { data_words = words_kept; launched_words = four.launched_words }
    where
      Four : List ℕ → Type 0
      Four l = length l ≡ 4

      stored : (i : ℕ) → Four (set d.nvmdata i w)
      stored i = simp length-set four.data_words

      words_kept : Four (data_after d.nvmdata r w)
      words_kept =
          pick_both Four (eqb r 3) (stored 0)
          (pick_both Four (eqb r 4) (stored 1)
          (pick_both Four (eqb r 5) (stored 2)
          (pick_both Four (eqb r 6) (stored 3) four.data_words)))

  -- "each field takes it if its condition holds on the state before the store, and else stays"
  pub applied_bit : (k r : ℕ) → r < 11 → (r ≡ 0 → ⊥)
      → bit k (register_of (applied_of d r w) r) ≡ pick (takes d r k) (bit k w) (bit k (register_of d r))
  unfolding applied_of register_of
  applied_bit k r l =
      by_register Takes (λ none. absurd (none refl)) (λ some. refl) (λ some. refl)
      (λ some. word 0 (omega arith)) (λ some. word 1 (omega arith)) (λ some. word 2 (omega arith)) (λ some. word 3 (omega arith))
      (λ some. refl)
      (λ some. merged (pwp_takes_of d) d.nvmpwp.0 (pwp_takes_bit d k))
      (λ some. merged (bwp_takes_of d) d.nvmbwp.0 (bwp_takes_bit d k))
      (λ some. merged (con2_takes_of d) d.nvmcon2.0 (con2_takes_bit d k))
      r l
    where
      Takes : ℕ → Type 0
      Takes r = (r ≡ 0 → ⊥) → bit k (register_of (applied_of d r w) r) ≡ pick (takes d r k) (bit k w) (bit k (register_of d r))

      word : (i : ℕ) → i < 4 → bit k (word_at (set d.nvmdata i w) i) ≡ bit k w
      word i l = ap (bit k) (get_or-set_same d.nvmdata i w 0 (omega (arith, four.data_words, l)))

      merged : (mask old : ℕ) {t : Bool} → bit k mask ≡ t → bit k (merge_of mask w old) ≡ pick t (bit k w) (bit k old)
      merged mask old e = merge_bit k mask w old ∙ ap (λ (t : Bool). pick t (bit k w) (bit k old)) e

-- no other register changes
pub applied_other : (d : Device) (w r q : ℕ) → q < 11 → (q ≡ r → ⊥) → register_of (applied_of d r w) q ≡ register_of d q
unfolding applied_of register_of
applied_other d w r q l =
    by_register Stays (λ n. refl) (λ n. refl) (λ n. rw (other 2 n)) (word 0) (word 1) (word 2) (word 3)
    (λ n. rw (other 7 n)) (λ n. rw (other 8 n)) (λ n. rw (other 9 n)) (λ n. rw (other 10 n)) q l
  where
    Stays : ℕ → Type 0
    Stays q = (q ≡ r → ⊥) → register_of (applied_of d r w) q ≡ register_of d q

    other : (c : ℕ) → (c ≡ r → ⊥) → eqb r c ≡ false
    other c n = ne_eqb r c (λ e. n (sym e))

    word : (j : ℕ) → (3 + j ≡ r → ⊥) → word_at (data_after d.nvmdata r w) j ≡ word_at d.nvmdata j
    word j n =
        pick_each Same (eqb r 3) (away 0)
        (λ a. pick_each Same (eqb r 4) (away 1) (λ b. pick_each Same (eqb r 5) (away 2) (λ c. pick_each Same (eqb r 6) (away 3) (λ e. refl))))
      where
        Same : List ℕ → Type 0
        Same l = word_at l j ≡ word_at d.nvmdata j

        away : (i : ℕ) → eqb r (3 + i) ≡ true → Same (set d.nvmdata i w)
        away i e = get_or-set_other d.nvmdata i j w 0 (λ same. n (omega (arith, same, eqb-true r (3 + i) e)))
