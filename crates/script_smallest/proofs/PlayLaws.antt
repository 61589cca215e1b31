-- A play without a record: the records before it play as they did, and where it is refused so do those after it. Assumes nothing.
use Prim.Native.Nat.{ℕ, zero, suc, ◌+◌, ◌<◌, ◌≤◌}
use mathlib.Core.Path.{◌≡◌, refl, sym, ap, subst, ◌∙◌}
use mathlib.Core.Bool.{false}
use mathlib.Core.List.{List}
use native.Mathlib.Omega.{arith}
use native.Mathlib.Decide.{dec_lt}
use Rattle.words.specs.Decline.{number_of, accepted_of}
use Rattle.geometry.specs.declared.banks.Geometry.{Geometry}
use Rattle.device.specs.State.{State}
use Rattle.controller.proofs.Controller.{controller}
use Rattle.script_format.specs.declared.Record.{Record}
use Rattle.script_format.specs.Records.{record_of, records_of}
use Rattle.script_record.specs.Record.{record_after_of}
use Rattle.script_play.specs.Play.{state_of, operation_of}
use Rattle.script_play.proofs.ControllerLaws.{record_runs, record_declines}
use Rattle.script_smallest.specs.Smallest.{answer_of, without_of}
use Rattle.script_smallest.proofs.WithoutLaws.{without}

next_is : (m : ℕ) → m + 1 ≡ suc m
next_is m = omega arith

module _ (g : Geometry) (sram : List ℕ) where
  -- a refused record changes nothing
  refused_same : (s : State) (r : Record) → accepted_of (record_after_of g sram s r).decline ≡ false → (record_after_of g sram s r).state ≡ s
  refused_same s r off =
      record_runs g sram s r ∙ controller.declined_same g s (operation_of sram r) (ap accepted_of (sym (record_declines g sram s r)) ∙ off)

  module _ (s : State) where
    -- plays of the same records
    same_state : (y z : List ℕ) (k : ℕ) → ((j : ℕ) → j < k → record_of y j ≡ record_of z j) → state_of g sram s y k ≡ state_of g sram s z k
    same_state y z zero same = refl
    same_state y z (suc k) same =
        ap (λ (t : State). (record_after_of g sram t (record_of y k)).state) (same_state y z k (λ j l. same j (omega (arith, l))))
        ∙ ap (λ (r : Record). (record_after_of g sram (state_of g sram s z k) r).state) (same k (omega arith))

    -- so they answer the same
    same_answer : (y z : List ℕ) (k m : ℕ) → state_of g sram s y k ≡ state_of g sram s z m → record_of y k ≡ record_of z m
        → answer_of g sram s y k ≡ answer_of g sram s z m
    same_answer y z k m states records =
        ap (λ (t : State). number_of (record_after_of g sram t (record_of y k)).decline) states
        ∙ ap (λ (r : Record). number_of (record_after_of g sram (state_of g sram s z m) r).decline) records

    module _ (x : List ℕ) (i : ℕ) (l : i < records_of x) where
      -- a record before i
      pub before : (k : ℕ) → k < i → answer_of g sram s (without_of x i) k ≡ answer_of g sram s x k
      before k h =
          same_answer (without_of x i) x k k (same_state (without_of x i) x k (λ j m. (without x i l).below j (omega (arith, m, h))))
          ((without x i l).below k h)

      module _ (off : accepted_of (record_after_of g sram (state_of g sram s x i) (record_of x i)).decline ≡ false) where
        -- where record i is refused, the state after m records of the rest, m at least i, is that after m + 1 of the whole
        at_refused : (m : ℕ) → i ≡ m → state_of g sram s (without_of x i) m ≡ state_of g sram s x (suc m)
        at_refused m e =
            subst (λ (n : ℕ). state_of g sram s (without_of x i) n ≡ state_of g sram s x (suc n)) e
            (same_state (without_of x i) x i (λ j h. (without x i l).below j h) ∙ sym (refused_same (state_of g sram s x i) (record_of x i) off))

        refused_state : (m : ℕ) → i ≤ m → m + 1 ≤ records_of x → state_of g sram s (without_of x i) m ≡ state_of g sram s x (suc m)
        refused_state zero h room = at_refused zero (omega arith)
        refused_state (suc m) h room = go (dec_lt m i) (refused_state m)
          where
            go : Dec (m < i) → (i ≤ m → m + 1 ≤ records_of x → state_of g sram s (without_of x i) m ≡ state_of g sram s x (suc m))
                → state_of g sram s (without_of x i) (suc m) ≡ state_of g sram s x (suc (suc m))
            go (yes below) earlier = at_refused (suc m) (omega (arith, below, h))
            go (no above) earlier =
                ap (λ (t : State). (record_after_of g sram t (record_of (without_of x i) m)).state) (earlier (omega (arith, above)) (omega (arith, room)))
                ∙ ap (λ (r : Record). (record_after_of g sram (state_of g sram s x (suc m)) r).state)
                ((without x i l).above m (omega (arith, above)) (omega (arith, room)) ∙ ap (λ (n : ℕ). record_of x n) (next_is m))

        pub after_refused : (m : ℕ) → i ≤ m → m + 1 < records_of x → answer_of g sram s (without_of x i) m ≡ answer_of g sram s x (suc m)
        after_refused m h room =
            same_answer (without_of x i) x m (suc m) (refused_state m h (omega (arith, room)))
            ((without x i l).above m h room ∙ ap (λ (n : ℕ). record_of x n) (next_is m))
