-- What holds of the script that is left. Assumes nothing.
use Prim.Native.Nat.{ℕ, suc, ◌+◌, ◌-◌, ◌%◌, ◌<◌}
use mathlib.Core.Path.{◌≡◌, refl, ap, subst, ◌∙◌}
use mathlib.Core.Bool.{Bool, true, false}
use mathlib.Core.List.{List}
use native.Mathlib.Omega.{arith}
use native.Mathlib.Decide.{dec_lt}
use lib.Dec.{eqb}
use lib.ListN.{length}
use borrow.Author.Tests.{eqb-true, eq-eqb}
use Rattle.words.proofs.PickLaws.{and_both, all-below, all_hold}
use Rattle.words.specs.Word.{all_below}
use Rattle.geometry.specs.declared.banks.Geometry.{Geometry}
use Rattle.device.specs.State.{State}
use Rattle.script_format.specs.Records.{record_of, records_of, is_record_of, is_script_of}
use Rattle.script_smallest.specs.Smallest.{answer_of, shows_of, without_of, smallest_script_of}
use Rattle.script_smallest.specs.SmallestScripts.{Drops, Gives, Shown}
use Rattle.script_smallest.specs.SmallestScripts.Drops.{stop, next}
use Rattle.script_smallest.proofs.WithoutLaws.{shorter, without}
use Rattle.script_smallest.proofs.DropLaws.{drops, drops_show, drops_stop, drops_none}
use Rattle.script_smallest.proofs.ShowLaws.{shows_gives}
use Rattle.script_smallest.proofs.PartLaws.{stood, stood_same, drops_part}
use Rattle.script_smallest.proofs.PlayLaws.{before, after_refused}

-- a script without a record is one
without_script : (x : List ℕ) (i : ℕ) → i < records_of x → is_script_of x ≡ true → is_script_of (without_of x i) ≡ true
unfolding is_script_of
without_script x i l h =
    let both = and_both (eqb (length x % 8) 0) _ h in
    let whole : length (without_of x i) % 8 ≡ 0 = omega (arith, shorter x i l, eqb-true (length x % 8) 0 both.0) in
    let each : all_below (λ k. is_record_of (record_of (without_of x i) k)) (records_of (without_of x i)) ≡ true =
    all_hold _ _ (λ k m.
    let there = stood_same x i k l m in
    ap is_record_of there.1 ∙ all-below (λ j. is_record_of (record_of x j)) (records_of x) both.1 (stood i k) there.0) in
    rw (eq-eqb _ _ whole, each)

module _ (g : Geometry) (sram : List ℕ) (s : State) (number : ℕ) where
  drops_script : (x r : List ℕ) → Drops g sram s number x r → is_script_of x ≡ true → is_script_of r ≡ true
  drops_script _ _ (stop x none) h = h
  drops_script _ _ (next x r i l can first rest) h = drops_script (without_of x i) r rest (without_script x i l h)

  module _ (r : List ℕ) (gives : Gives g sram s r number) (needed : (i : ℕ) → i < records_of r → Gives g sram s (without_of r i) number → ⊥) where
    -- the record that gives the number is the last, since the last could go otherwise
    last_gives : (k : ℕ) → k + 1 ≡ records_of r → answer_of g sram s r k ≡ number
    last_gives k e = go (dec_lt gives.at k)
      where
        there : k < records_of r
        there = omega (arith, e)

        go : Dec (gives.at < k) → answer_of g sram s r k ≡ number
        go (yes l) =
            absurd (needed k there
            (record {
              at = gives.at;
              below = omega (arith, (without r k there).fewer, e, l);
              answers = before g sram s r k there gives.at l ∙ gives.answers;
            }))
        go (no l) =
            let same : gives.at ≡ k = omega (arith, l, e, gives.below) in
            subst (λ (m : ℕ). answer_of g sram s r m ≡ number) same gives.answers

    -- one before it that is refused could go
    others_accepted : (k : ℕ) → k + 1 < records_of r → answer_of g sram s r k ≡ 0
    others_accepted k l = go (eqb (answer_of g sram s r k) 0) refl
      where
        go : (t : Bool) → eqb (answer_of g sram s r k) 0 ≡ t → answer_of g sram s r k ≡ 0
        go true e = eqb-true _ _ e
        go false e =
            let there : k < records_of r = omega (arith, l) in
            absurd (needed k there
            (record {
              at = records_of r - 2;
              below = omega (arith, (without r k there).fewer, l);
              answers =
                  after_refused g sram s r k there e (records_of r - 2) (omega (arith, l)) (omega (arith, l))
                  ∙ last_gives (suc (records_of r - 2)) (omega (arith, l));
            }))

  pub shown : (x : List ℕ) → is_script_of x ≡ true → (number ≡ 0 → ⊥) → shows_of g sram s number x ≡ true
      → Shown g sram s x number (smallest_script_of g sram s number x)
  unfolding smallest_script_of
  shown x script some shows =
      let r = smallest_script_of g sram s number x in
      let d = drops g sram s number some (records_of x) x (omega arith) in
      let gives = drops_show g sram s number x r d (shows_gives g sram s number x shows) in
      let needed = drops_stop g sram s number x r d in
      record {
        drops = d;
        shows = gives;
        needed = needed;
        part = drops_part g sram s number x r d;
        is-script = drops_script x r d script;
        whole = drops_none g sram s number x r d;
        last = last_gives r gives needed;
        accepted_before = others_accepted r gives needed;
      }
