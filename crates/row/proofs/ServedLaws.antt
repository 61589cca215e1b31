-- The one turn of a call, and what it leaves of the store. Assumes nothing.
use Prim.Native.Nat.{ℕ, ◌<◌}
use mathlib.Core.Path.{◌≡◌, sym, ap, ap₂, ◌∙◌, subst}
use mathlib.Core.Bool.{false}
use mathlib.Core.List.{List}
use lib.ListN.{length, get_or}
use Rattle.words.proofs.BitLaws.{true_not_false}
use Rattle.geometry.specs.declared.banks.Geometry.{Geometry}
use Rattle.device.specs.State.{state}
use Rattle.row_signs.specs.declared.sign.Sign.{Sign}
use Rattle.row_signs.specs.Signs.{sign_at}
use Rattle.row_turn.specs.SignTurn.{sign_state_of, turned_sign, Lies}
use Rattle.row_choice.proofs.ServedLaws.{served_can}
use Rattle.row.specs.Row.{RowState, Call, answer_of, after_of, turn_at, Can}
use Rattle.row.specs.Choosing.{JudgedCall}
use Rattle.row.specs.Supply.{OutsideBanks}
use Rattle.row.proofs.CallLaws.{known_at, ServingCall, by_cases, not_declined}
use Rattle.row.proofs.KnownLaws.{known_can}
use Rattle.row.proofs.DeclineLaws.{call_judged}
use Rattle.row.proofs.BankLaws.{state_after, word_outside, bank_outside}
use Rattle.row.proofs.SignLaws.{sign_turned, sign_kept}

-- the call does the turn of x: what the field `served` says
abbrev Turns : Geometry → RowState → Call → ℕ → Type 0
Turns g r c x =
    (x < length r.signs) × (Can g r c x
    × ((sign_at (after_of g r c).signs x ≡ turned_sign (sign_at r.signs x) (turn_at g r c x))
    × (((after_of g r c).last ≡ x)
    × (sign_state_of g (after_of g r c).store (sign_at (after_of g r c).signs x) ≡ (turn_at g r c x).state))))

module _ (g : Geometry) (r : RowState) (c : Call) where
  module _ (x : ℕ) (s : ServingCall g r c x) where
    judged : JudgedCall g r c
    judged = call_judged g r c s.accepted

    lies : Lies g r.store (sign_at r.signs x)
    lies = record { first = judged.one_lies x s.inside; other = judged.two_lies x s.inside; apart = judged.own_apart x s.inside }

    can : Can g r c x
    can = known_can g r c x (rw s.chosen at (served_can (known_at g r c) (rw s.chosen s.inside)))

    turns : Turns g r c x
    turns = (
      s.inside,
      (
        can,
        (
          sign_turned g r c x s,
          (
            s.last,
            ap₂ (λ (store : List ℕ) (sign : Sign). sign_state_of g store sign) s.store (sign_turned g r c x s)
                ∙ state_after g r.store c.image c.sram (sign_at r.signs x) lies,
          ),
        ),
      ),
    )

    -- another's banks
    bank_kept : (j : ℕ) → j < length r.signs → (j ≡ x → ⊥)
        → sign_state_of g (after_of g r c).store (sign_at (after_of g r c).signs j) ≡ sign_state_of g r.store (sign_at r.signs j)
    bank_kept j l other =
        let a = judged.signs_apart x j s.inside l (λ e. other (sym e)) in
        ap₂ (λ (store : List ℕ) (sign : Sign). sign_state_of g store sign) s.store (sign_kept g r c x s j other)
        ∙ ap₂ (λ (one two : List ℕ). state (sign_at r.signs j).device one two)
        (bank_outside g r.store c.image c.sram (sign_at r.signs x) lies (sign_at r.signs j).one (judged.one_lies j l) a.one_one a.two_one)
        (bank_outside g r.store c.image c.sram (sign_at r.signs x) lies (sign_at r.signs j).two (judged.two_lies j l) a.one_two a.two_two)

  pub served : (answer_of g r c).decline ≡ 0 → (answer_of g r c).idle ≡ false → Turns g r c (answer_of g r c).served
  served accepted busy =
      by_cases g r c
      (λ d. not_declined g r c d accepted)
      (λ i. true_not_false (sym i.idle ∙ busy))
      (λ x s. subst (Turns g r c) (sym s.served) (turns x s))

  pub other_banks : (answer_of g r c).decline ≡ 0 → (j : ℕ) → j < length r.signs → (j ≡ (answer_of g r c).served → ⊥)
      → sign_state_of g (after_of g r c).store (sign_at (after_of g r c).signs j) ≡ sign_state_of g r.store (sign_at r.signs j)
  other_banks accepted j l other =
      by_cases g r c
      (λ d. not_declined g r c d accepted)
      (λ i. ap₂ (λ (store : List ℕ) (signs : List Sign). sign_state_of g store (sign_at signs j)) i.store i.signs)
      (λ x s. bank_kept x s j l (λ e. other (e ∙ sym s.served)))

  pub outside : (v : ℕ) → OutsideBanks g (sign_at r.signs (answer_of g r c).served) v → get_or (after_of g r c).store v 0 ≡ get_or r.store v 0
  outside v out =
      by_cases g r c
      (λ d. ap (λ (r : RowState). get_or r.store v 0) d.after)
      (λ i. ap (λ (store : List ℕ). get_or store v 0) i.store)
      (λ x s.
      let (one, two) = subst (λ (y : ℕ). OutsideBanks g (sign_at r.signs y) v) s.served out in
      ap (λ (store : List ℕ). get_or store v 0) s.store
      ∙ word_outside g r.store c.image c.sram (sign_at r.signs x) (lies x s) v one two)
