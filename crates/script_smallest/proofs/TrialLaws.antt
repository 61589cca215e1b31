-- A play under way, and whether it gave the number. Assumes nothing.
use Prim.Native.Nat.{ℕ, suc, ◌*◌, ◌+◌, ◌<◌, ◌≤◌}
use mathlib.Core.Path.{◌≡◌, sym, ap, ◌∙◌}
use mathlib.Core.Bool.{Bool, true, ◌||◌, or-true, or-false}
use mathlib.Core.List.{List}
use native.Mathlib.Omega.{arith}
use lib.Dec.{eqb}
use lib.ListN.{length, take}
use lib.Seq.{get_or-take, length-take-le}
use borrow.Author.Tests.{eq-eqb, ne_eqb}
use Rattle.words.specs.Word.{any_below}
use Rattle.words.specs.Decline.{number_of}
use Rattle.geometry.specs.declared.banks.Geometry.{Geometry}
use Rattle.device.specs.declared.record.Device.{Device}
use Rattle.device.specs.State.{State, state, After}
use Rattle.script_format.specs.declared.Record.{Record}
use Rattle.script_format.specs.Records.{record_of, records_of}
use Rattle.script_record.specs.Record.{record_after_of}
use Rattle.script_play.specs.Play.{state_of}
use Rattle.script_smallest.specs.Smallest.{answer_of, gives_of, shows_of}
use Rattle.script_smallest.proofs.WithoutLaws.{same_record}

-- the first records of a script
pub front_record : (x : List ℕ) (n k : ℕ) → k < n → record_of (take (8 * n) x) k ≡ record_of x k
front_record x n k l = same_record (take (8 * n) x) x k k (λ b c. get_or-take (8 * n) x (8 * k + b) 0 (omega (arith, l, c)))

pub front_records : (x : List ℕ) (n : ℕ) → 8 * n ≤ length x → records_of (take (8 * n) x) ≡ n
front_records x n h = omega (arith, length-take-le (8 * n) x h)

-- after the first k records: the state, and whether one of them gave the number
pub record Trying (g : Geometry) (sram : List ℕ) (start : State) (script : List ℕ) (number : ℕ) (s : State) (given : Bool) (k : ℕ) : Type 0 where
  pub reached : s ≡ state_of g sram start script k
  pub told : given ≡ any_below (λ i. eqb (answer_of g sram start script i) number) k

module _ (g : Geometry) (sram : List ℕ) (start : State) (script : List ℕ) (number : ℕ) where
  -- so after the next
  pub trying_next : (s : State) (given : Bool) (k : ℕ) → Trying g sram start script number s given k
      → (r : Record) → r ≡ record_of script k → (a : After) → a ≡ record_after_of g sram s r
      → (now : Bool) → now ≡ (given || eqb (number_of a.decline) number) → Trying g sram start script number a.state now (suc k)
  trying_next s given k t r er a ea now en =
      let e : a ≡ record_after_of g sram (state_of g sram start script k) (record_of script k) = rw (t.reached, er) at ea in
      record {
        reached = ap (λ (b : After). b.state) e;
        told =
            en ∙ ap (λ (b : Bool). b || eqb (number_of a.decline) number) t.told
            ∙ ap (λ (b : After). any_below (λ i. eqb (answer_of g sram start script i) number) k || eqb (number_of b.decline) number) e;
      }

  pub trying_ends : (s : State) (given : Bool) (n k : ℕ) → Trying g sram start script number s given k → k ≡ n → records_of script ≡ n
      → given ≡ gives_of g sram start number script
  trying_ends s given n k t e all =
      t.told ∙ ap (λ (m : ℕ). any_below (λ i. eqb (answer_of g sram start script i) number) m) (e ∙ sym all)

-- it is given by this record, or as before
pub given_now : (given : Bool) (n number : ℕ) → n ≡ number → true ≡ (given || eqb n number)
given_now given n number e = rw (eq-eqb n number e) (sym (or-true given))

pub as_before : (given : Bool) (n number : ℕ) → (n ≡ number → ⊥) → given ≡ (given || eqb n number)
as_before given n number e = rw (ne_eqb n number e) (sym (or-false given))

-- on banks set from others, what a play gives is what it gives on those
pub shows_on : (g : Geometry) (sram : List ℕ) (d : Device) (one two first other : List ℕ) (number : ℕ) (script : List ℕ) (given : Bool)
    → first ≡ one → other ≡ two → (number ≡ 0 → ⊥) → given ≡ gives_of g sram (state d first other) number script
    → given ≡ shows_of g sram (state d one two) number script
unfolding shows_of
shows_on g sram d one two first other number script given e1 e2 some e =
    rw (ne_eqb number 0 some) (e ∙ ap (λ (l : List ℕ). gives_of g sram (state d l other) number script) e1
    ∙ ap (λ (l : List ℕ). gives_of g sram (state d one l) number script) e2)
