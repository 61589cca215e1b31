-- The key step that a key store and a register read leave.
-- Assumes nothing.
use mathlib.Core.Path.{◌≡◌, refl}
use mathlib.Core.Bool.{true, ◌&&◌}
use Prim.Native.Nat.{ℕ, ◌≤◌, ◌<◌}
use native.Mathlib.Omega.{arith}
use borrow.Author.Tests.{lt-ltb, le-ltb, eqb-true}
use lib.Dec.{eqb, ltb}
use Rattle.words.proofs.PickLaws.{pick_both, pick_each, and_both}
use Rattle.register_fields.specs.Fields.{key_next_of, key_after_read_of}

-- a key store leaves a key step
pub key_next_high : (keystep value : ℕ) → key_next_of keystep value ≤ 3
unfolding key_next_of
key_next_high keystep value =
    pick_both (λ (n : ℕ). n ≤ 3) (eqb value 0) (omega arith)
    (pick_both (λ (n : ℕ). n ≤ 3) (eqb keystep 1 && eqb value 0xAA99_6655) (omega arith)
    (pick_both (λ (n : ℕ). n ≤ 3) (eqb keystep 2 && eqb value 0x5566_99AA) (omega arith) (omega arith)))

-- "out of turn": to 0 by another value than 0
pub key_out : (keystep value : ℕ) → (value ≡ 0 → ⊥) → (keystep ≡ 1 → value ≡ 0xAA99_6655 → ⊥) → (keystep ≡ 2 → value ≡ 0x5566_99AA → ⊥)
    → key_next_of keystep value ≡ 0
unfolding key_next_of
key_out keystep value not_first not_second not_third =
    pick_each Zero (eqb value 0) (λ e. absurd (not_first (eqb-true value 0 e)))
    (λ e. pick_each Zero (eqb keystep 1 && eqb value 0xAA99_6655) (out 1 0xAA99_6655 not_second)
    (λ e. pick_each Zero (eqb keystep 2 && eqb value 0x5566_99AA) (out 2 0x5566_99AA not_third) (λ e. refl)))
  where
    Zero : ℕ → Type 0
    Zero n = n ≡ 0

    out : {A : Type 0} (step key : ℕ) → (keystep ≡ step → value ≡ key → ⊥) → (eqb keystep step && eqb value key) ≡ true → A
    out step key none e =
        let (at, by) = and_both (eqb keystep step) (eqb value key) e in
        absurd (none (eqb-true keystep step at) (eqb-true value key by))

-- a register read leaves a key step below 2 and closes a higher one
pub key_kept : (keystep : ℕ) → keystep < 2 → key_after_read_of keystep ≡ keystep
unfolding key_after_read_of
key_kept keystep l = rw (lt-ltb keystep 2 l)

pub key_closed : (keystep : ℕ) → 2 ≤ keystep → key_after_read_of keystep ≡ 0
unfolding key_after_read_of
key_closed keystep h = rw (le-ltb keystep 2 h)

pub key_after_read_high : (keystep : ℕ) → keystep ≤ 3 → key_after_read_of keystep ≤ 3
unfolding key_after_read_of
key_after_read_high keystep h = pick_both (λ (n : ℕ). n ≤ 3) (ltb keystep 2) h (omega arith)
