-- A number has one row of decimal digits and one of eight hexadecimal ones, so that a record has one line. Assumes nothing.
use mathlib.Core.Path.{◌≡◌, refl, sym, ◌∙◌}
use mathlib.Core.Bool.{Bool, true, false}
use mathlib.Core.List.{List, [], ◌∷◌, ◌++◌, append_assoc}
use mathlib.Core.Logic.{◌⊎◌, inl, inr}
use Prim.Native.Nat.{ℕ, zero, suc, ◌-◌, ◌/◌, ◌%◌, ◌^◌, ◌≤◌, ◌<◌}
use native.Mathlib.Nat.{mod-lt, pow-le-pow_right}
use native.Mathlib.Decide.{dec_le}
use native.Mathlib.Omega.{arith}
use borrow.Author.Tests.{eqb-true}
use lib.Dec.{eqb}
use lib.ListN.{length, get_or}
use lib.Seq.{ext_get_or}
use Rattle.words.specs.Word.{pick}
use Rattle.words.proofs.PickLaws.{all-below}
use Rattle.text.specs.Digits.{digit_of, digits_of, width_of}
use Rattle.text.specs.Lines.{line_feed, decimal_of, flag_of, line_of}
use Rattle.text.specs.LineSentences.{Decimal, capitals, Hexadecimal, Line, LinesFixed}
use Rattle.text.proofs.DigitLaws.{digits_length, digit_in, digit_at, width_one, width_holds, width_fewest}

-- lists that agree in each place, counted from the right
from_right : (a b : List ℕ) → length a ≡ length b
    → ((k : ℕ) → k < length a → get_or a (length a - 1 - k) 0 ≡ get_or b (length b - 1 - k) 0) → a ≡ b
from_right a b long same = ext_get_or 0 a b long place
  where
    place : (i : ℕ) → i < length a → get_or a i 0 ≡ get_or b i 0
    place i l =
        let back : length a - 1 - (length a - 1 - i) ≡ i = omega arith in
        let there : length b - 1 - (length a - 1 - i) ≡ i = omega arith in
        rw (back, there) at (same (length a - 1 - i) (omega arith))

-- ---- decimal numbers
abbrev decimal : ℕ → List ℕ
decimal n = digits_of 10 n (width_of n)

decimal_meets : (n : ℕ) → Decimal n (decimal n)
decimal_meets n =
    let long = digits_length 10 n (width_of n) in
    record { digit = rw long (digit_at n (width_of n)); whole = rw long (width_holds n); fewest = rw long (fewest (dec_le 1 n)) }
  where
    fewest : Dec (1 ≤ n) → (width_of n ≡ 1) ⊎ (10 ^ (width_of n - 1) ≤ n)
    fewest (yes l) = inr (width_fewest n l)
    fewest (no l) = inl (width_one n (omega arith))

module _ (n : ℕ) where
  -- there is a digit
  some : (a : List ℕ) → Decimal n a → 0 < length a
  some a d = go (length a) refl d.fewest
    where
      go : (k : ℕ) → length a ≡ k → (length a ≡ 1) ⊎ (10 ^ (length a - 1) ≤ n) → 0 < length a
      go k e (inl one) = omega (arith, one)
      go (suc k) e (inr reached) = omega (arith, e)
      go zero e (inr reached) = absurd (omega (arith, rw e at d.whole, rw e at reached))

  -- no digit more than is wanted
  no_longer : (a b : List ℕ) → Decimal n a → Decimal n b → length a ≤ length b
  no_longer a b p q = go (dec_le (length a) (length b)) p.fewest
    where
      go : Dec (length a ≤ length b) → (length a ≡ 1) ⊎ (10 ^ (length a - 1) ≤ n) → length a ≤ length b
      go (yes l) f = l
      go (no l) (inl one) = omega (arith, one, some b q)
      go (no l) (inr reached) =
          let held : 10 ^ length b ≤ 10 ^ (length a - 1) = pow-le-pow_right {n = 10} (omega arith) (omega (arith, l)) in
          absurd (omega (arith, held, reached, q.whole))

  one_decimal : (a b : List ℕ) → Decimal n a → Decimal n b → a ≡ b
  one_decimal a b p q =
      let long : length a ≡ length b = omega (arith, no_longer a b p q, no_longer b a q p) in
      from_right a b long (λ k l. p.digit k l ∙ sym (q.digit k (omega (arith, long, l))))

-- ---- eight hexadecimal capitals
abbrev eight : ℕ → List ℕ
eight w = digits_of 16 w 8

capital : (d : ℕ) → d < 16 → digit_of d ≡ get_or capitals d 0
unfolding digit_of
capital d l = eqb-true _ _ (all-below (λ d. eqb (digit_of d) (get_or capitals d 0)) 16 refl d l)

eight_meets : (w : ℕ) → Hexadecimal w (eight w)
eight_meets w =
    record {
      eight = digits_length 16 w 8;
      digit = λ k l. digit_in 16 w 8 k l ∙ capital (w / 16 ^ k % 16) (mod-lt (w / 16 ^ k) (omega arith));
    }

one_eight : (w : ℕ) (a b : List ℕ) → Hexadecimal w a → Hexadecimal w b → a ≡ b
one_eight w a b p q = from_right a b (p.eight ∙ sym q.eight) same
  where
    same : (k : ℕ) → k < length a → get_or a (length a - 1 - k) 0 ≡ get_or b (length b - 1 - k) 0
    same k l =
        let near : k < 8 = omega (arith, p.eight, l) in
        rw (p.eight, q.eight) (p.digit k near ∙ sym (q.digit k near))

-- ---- the line
abbrev joined : List ℕ → List ℕ → List ℕ → Bool → List ℕ
joined first second third event = first ++ (32 ∷ (second ++ (32 ∷ (third ++ (32 ∷ pick event 49 48 ∷ 10 ∷ [])))))

flag : (event : Bool) → decimal_of (flag_of event) line_feed ≡ pick event 49 48 ∷ 10 ∷ []
unfolding digit_of width_of
flag true = refl
flag false = refl

line_joined : (i answer con : ℕ) (event : Bool) → line_of i answer con event ≡ joined (decimal i) (decimal answer) (eight con) event
unfolding line_of
line_joined i answer con event = simp (append_assoc, flag)

line_meets : (i answer con : ℕ) (event : Bool) → Line i answer con event (line_of i answer con event)
line_meets i answer con event =
    record {
      first = decimal i;
      second = decimal answer;
      third = eight con;
      number = decimal_meets i;
      answered = decimal_meets answer;
      nvmcon = eight_meets con;
      same = line_joined i answer con event;
    }

one_line : (i answer con : ℕ) (event : Bool) (line : List ℕ) → Line i answer con event line → line ≡ line_of i answer con event
one_line i answer con event line l =
    let number = one_decimal i l.first (decimal i) l.number (decimal_meets i) in
    let answered = one_decimal answer l.second (decimal answer) l.answered (decimal_meets answer) in
    let nvmcon = one_eight con l.third (eight con) l.nvmcon (eight_meets con) in
    l.same ∙ rw (number, answered, nvmcon) (sym (line_joined i answer con event))

pub lines_fixed : LinesFixed
lines_fixed = record { meets = line_meets; fixes = one_line }
