-- The line of a page is as asked, byte by byte, and nothing else is: each of its 17 bytes is fixed, the side and the protection by the one
-- address at which the map has the page, the count by the one ascending list of its quads that are not blank. Assumes nothing.
use mathlib.Core.Path.{◌≡◌, refl, sym, ap, subst, ◌∙◌}
use mathlib.Core.Bool.{Bool, true, false}
use mathlib.Core.List.{List, ◌∷◌}
use mathlib.Core.Logic.{inl, inr}
use Prim.Native.Nat.{ℕ, zero, suc, ◌+◌, ◌-◌, ◌*◌, ◌^◌, ◌≤◌, ◌<◌}
use native.Mathlib.Decide.{dec_lt, dec_le}
use native.Mathlib.Omega.{arith}
use lib.ListN.{length, get_or}
use Rattle.words.specs.Quad.{word_at, quad_at, is_blank_of}
use Rattle.words.proofs.CaseLaws.{below_four}
use Rattle.words.proofs.ListLaws.{ascending_same}
use Rattle.words.proofs.QuadLaws.{quad_word, blank_word, other_word}
use Rattle.text.specs.Digits.{width_of}
use Rattle.text.specs.Lines.{blank}
use Rattle.geometry.specs.declared.banks.Geometry.{Geometry}
use Rattle.geometry.specs.Banks.{InRange, page_bytes_of, page_quads_of}
use Rattle.device.specs.declared.record.Device.{Device}
use Rattle.sheet_page.specs.declared.PageState.{PageState}
use Rattle.sheet_page.specs.State.{upper_of, page_state_of}
use Rattle.sheet_page.proofs.MapLaws.{PageThere, page_address_of, address_aligned, page_found, page_there}
use Rattle.sheet_page.proofs.MapLaws.{side_of_the_map, words_of_the_map, program_protection, boot_protection}
use Rattle.sheet_page.proofs.UsedLaws.{Listed, listed}
use Rattle.sheet_line.specs.Line.{right_of, line_of}
use Rattle.sheet_line.proofs.WidthLaws.{page_width, quads_width}
use Rattle.sheet_line.proofs.LineLaws.{side_on, bytes_of, right_digit, right_blank, line_bytes, page_byte, side_byte, quads_byte, last_byte}
use Rattle.sheet.specs.PageSheets.{page_in_bank, pages_of_kind, PageAt, Used, RightAligned, Line}
use Rattle.sheet.proofs.WidthLaws.{kind_few, state_fits}

-- ---- numbers in columns

right_aligned : (at : ℕ → ℕ) (last columns n : ℕ) → n < 10 ^ columns → width_of n ≤ columns
    → ((k : ℕ) → k < columns → at (last - k) ≡ get_or (right_of columns n) (columns - 1 - k) 0) → RightAligned at last columns n
right_aligned at last columns n fits narrow is =
    record {
      fits = fits;
      digit = λ k inside shown. is k inside ∙ right_digit columns n k narrow shown;
      padding = λ k inside some low. is k inside ∙ right_blank columns n k inside some low;
    }

one_column : (x y : ℕ → ℕ) (last columns n : ℕ) → RightAligned x last columns n → RightAligned y last columns n → (k : ℕ) → k < columns
    → x (last - k) ≡ y (last - k)
one_column x y last columns n p q zero inside = p.digit 0 inside (inl refl) ∙ sym (q.digit 0 inside (inl refl))
one_column x y last columns n p q (suc k) inside = go (dec_le (10 ^ suc k) n)
  where
    go : Dec (10 ^ suc k ≤ n) → x (last - suc k) ≡ y (last - suc k)
    go (yes l) = p.digit (suc k) inside (inr l) ∙ sym (q.digit (suc k) inside (inr l))
    go (no l) = p.padding (suc k) inside (omega arith) (omega arith) ∙ sym (q.padding (suc k) inside (omega arith) (omega arith))

-- ---- quads that are not all ones

used-quads : (g : Geometry) (bank : List ℕ) (n : ℕ) → Listed (Used g bank n) bank (n * page_quads_of g) (8 * g.q)
used-quads g bank n = listed (Used g bank n) bank (n * page_quads_of g) used not_used (8 * g.q)
  where
    same_word : (j w : ℕ) → w < 4 → word_at (quad_at bank (n * page_quads_of g + j)) w ≡ word_at bank (n * (32 * g.q) + 4 * j + w)
    same_word j w l = quad_word bank (n * page_quads_of g + j) w l ∙ ap (word_at bank) (omega arith)

    used : (j : ℕ) → is_blank_of (quad_at bank (n * page_quads_of g + j)) ≡ false → Used g bank n j
    used j h =
        let o = other_word (quad_at bank (n * page_quads_of g + j)) h in
        record { word = o.word; below = o.below; not_ones = λ ones. o.not_ones (same_word j o.word o.below ∙ ones) }

    not_used : (j : ℕ) → is_blank_of (quad_at bank (n * page_quads_of g + j)) ≡ true → Used g bank n j → ⊥
    not_used j h u = u.not_ones (sym (same_word j u.word u.below) ∙ blank_word (quad_at bank (n * page_quads_of g + j)) h u.word u.below)

-- ---- the line of a page

module _ (g : Geometry) (ok : InRange g) (d : Device) (bank : List ℕ) (second program : Bool) (i : ℕ) (l : i < pages_of_kind g program) where
  there : (address : ℕ) → PageAt g d second (page_in_bank g program i) address → PageThere g ok i d second program address
  there address p = page_there g ok i d second program address l p.inside p.bank p.word p.aligned

  -- the page is somewhere
  here : PageAt g d second (page_in_bank g program i) (page_address_of g program (upper_of d second program) i)
  here =
      let upper = upper_of d second program in
      let found = page_found g ok i program upper l in
      record {
        inside = rw found;
        bank = rw found (side_of_the_map d second program (i * page_bytes_of g));
        word = rw found (words_of_the_map g program upper i);
        aligned = address_aligned g program upper i;
      }

  pub line_meets : (at : ℕ → ℕ) → ((c : ℕ) → c < 17 → at c ≡ get_or (line_of (page_state_of g d bank second program i)) c 0)
      → Line g d bank second program i at
  unfolding page_state_of
  line_meets at is =
      record {
        number = front 0 (omega arith);
        kind = front 2 (omega arith);
        page = right_aligned at 6 3 i few (page_width i few) (λ k inside. is (6 - k) (omega arith) ∙ page_byte s few fits k inside);
        side = λ address p. back 1 (omega arith) ∙ rw (there address p).side;
        program_protected = λ kind address p. back 3 (omega arith) ∙ rw ((there address p).place, kind, program_protection g d (upper_of d second true) i);
        boot_protected = λ kind address p. back 3 (omega arith) ∙ rw ((there address p).side, kind, boot_protection g d (upper_of d second false) i);
        quads = those.quads;
        used = those.each;
        count =
            rw those.count
            (right_aligned at 15 4 s.quads fits (quads_width s.quads fits) (λ k inside. is (15 - k) (omega arith) ∙ quads_byte s few fits k inside));
        blanks = (front 1 (omega arith), (front 3 (omega arith), (back 0 (omega arith), (back 2 (omega arith), back 4 (omega arith)))));
        line_feed_lem = is 16 (omega arith) ∙ last_byte s few fits;
      }
    where
      s : PageState
      s = page_state_of g d bank second program i

      few : i < 1000
      few = omega (arith, kind_few g ok program)

      fits : s.quads < 10000
      fits = (state_fits g d bank second program i ok.q_high few).1

      front : (c : ℕ) → c < 17 → at c ≡ get_or (bytes_of s) c 0
      front c narrow = is c narrow ∙ rw (line_bytes s)

      back : (c : ℕ) → c < 10 → at (7 + c) ≡ get_or (blank ∷ side_on s) c 0
      back c narrow = is (7 + c) (omega arith) ∙ side_byte s few fits c

      those : Listed (Used g bank (page_in_bank g program i)) bank (page_in_bank g program i * page_quads_of g) (8 * g.q)
      those = used-quads g bank (page_in_bank g program i)

  -- ---- and nothing else is as asked

  module _ (x y : ℕ → ℕ) (p : Line g d bank second program i x) (q : Line g d bank second program i y) where
    one_flag : x 10 ≡ y 10
    one_flag = go program refl
      where
        go : (kind : Bool) → program ≡ kind → x 10 ≡ y 10
        go true e = p.program_protected e _ here ∙ sym (q.program_protected e _ here)
        go false e = p.boot_protected e _ here ∙ sym (q.boot_protected e _ here)

    one_count : (k : ℕ) → k < 4 → x (15 - k) ≡ y (15 - k)
    one_count =
        let same = ascending_same (Used g bank (page_in_bank g program i)) (8 * g.q) p.quads q.quads p.used q.used in
        one_column x y 15 4 (length q.quads) (rw same at p.count) q.count

    pub one_line : (c : ℕ) → c < 17 → x c ≡ y c
    one_line c narrow = go (dec_lt c 4) (dec_lt c 7) (dec_lt c 8) (dec_lt c 12) (dec_lt c 16)
      where
        at : {n : ℕ} → x n ≡ y n → n ≡ c → x c ≡ y c
        at same e = subst (λ (n : ℕ). x n ≡ y n) e same

        go : Dec (c < 4) → Dec (c < 7) → Dec (c < 8) → Dec (c < 12) → Dec (c < 16) → x c ≡ y c
        go (yes a) b e f h = below_four (λ n. x n ≡ y n) (cc) (cc) (cc) (cc) c a
        go (no a) (yes b) e f h = at (one_column x y 6 3 i p.page q.page (6 - c) (omega arith)) (omega arith)
        go (no a) (no b) (yes e) f h = at {n = 7} (cc) (omega arith)
        go (no a) (no b) (no e) (yes f) h =
            at (below_four (λ n. x (8 + n) ≡ y (8 + n)) (p.side _ here ∙ sym (q.side _ here)) (cc) one_flag (cc) (c - 8) (omega arith)) (omega arith)
        go (no a) (no b) (no e) (no f) (yes h) = at (one_count (15 - c) (omega arith)) (omega arith)
        go (no a) (no b) (no e) (no f) (no h) = at {n = 16} (cc) (omega arith)
