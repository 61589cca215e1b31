-- A device is its eleven registers, its two numbers and the six words that were launched. Assumes nothing.
use mathlib.Core.Path.{◌≡◌, sym, ◌∙◌}
use mathlib.Core.List.{List}
use Prim.Native.Nat.{ℕ}
use native.Mathlib.Omega.{arith}
use lib.ListN.{length}
use lib.Seq.{ext_get_or}
use Rattle.words.specs.Quad.{word_at}
use Rattle.words.proofs.CaseLaws.{below_four}
use Rattle.device.specs.Record.{register_of}
use Rattle.device.specs.ByNumber.{KnownByNumbers}

-- two lists of four words
same_four : (l m : List ℕ) → length l ≡ 4 → length m ≡ 4 → word_at l 0 ≡ word_at m 0 → word_at l 1 ≡ word_at m 1 → word_at l 2 ≡ word_at m 2
    → word_at l 3 ≡ word_at m 3 → l ≡ m
same_four l m a b zero one two three =
    ext_get_or 0 l m (a ∙ sym b) (λ j h. below_four (λ j. word_at l j ≡ word_at m j) zero one two three j (omega (arith, h, a)))

pub known_by_numbers : KnownByNumbers
unfolding register_of
known_by_numbers d e four also same =
    let r = same.registers in
    let l = same.launched in
    let con = r 0 (omega arith) in
    let key = r 1 (omega arith) in
    let address = r 2 (omega arith) in
    let data_words =
    same_four d.nvmdata e.nvmdata four.data_words also.data_words (r 3 (omega arith)) (r 4 (omega arith)) (r 5 (omega arith)) (r 6 (omega arith)) in
    let source = r 7 (omega arith) in
    let pwp = r 8 (omega arith) in
    let bwp = r 9 (omega arith) in
    let con2 = r 10 (omega arith) in
    let target = l 2 (omega arith) (omega arith) in
    let launched_words =
    same_four d.launched.nvmdata e.launched.nvmdata four.launched_words also.launched_words (l 3 (omega arith) (omega arith))
    (l 4 (omega arith) (omega arith)) (l 5 (omega arith) (omega arith)) (l 6 (omega arith) (omega arith)) in
    let from = l 7 (omega arith) (omega arith) in
    λ i.
    record {
      nvmcon = record { 0 = con i };
      nvmkey = key i;
      nvmaddr = address i;
      nvmdata = data_words i;
      nvmsrcaddr = source i;
      nvmpwp = record { 0 = pwp i };
      nvmbwp = record { 0 = bwp i };
      nvmcon2 = record { 0 = con2 i };
      keystep = same.keystep i;
      step = same.step i;
      launched = record { nvmaddr = target i; nvmdata = launched_words i; nvmsrcaddr = from i };
    }
