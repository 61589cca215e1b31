-- What a limit lets pass has its P up to the limit, and up to 64 both limits let pass the same. Assumes nothing.
use Prim.Native.Nat.{ℕ, ◌≤◌, ◌<◌}
use Rattle.std.specs.Prelude.{Ok, Err}
use mathlib.Core.Path.{◌≡◌, refl, ap, ◌∙◌}
use mathlib.Core.Bool.{Bool, true, false}
use mathlib.Core.List.{List}
use native.Mathlib.Omega.{arith}
use lib.Dec.{leb}
use borrow.Author.Tests.{leb-true, le-leb}
use Rattle.words.specs.Word.{pick}
use Rattle.words.specs.declared.decline.Decline.{Decline}
use Rattle.words.specs.Decline.{number_of}
use Rattle.words.proofs.PickLaws.{and_both}
use Rattle.geometry.specs.declared.banks.Geometry.{Geometry}
use Rattle.geometry.specs.Banks.{listed_of, most_boot_pages, most_program_pages, in_range_up_to, in_range_of}
use Rattle.geometry.specs.Lent.{lengths_fit_of, lent_decline_up_to, lent_decline_of}
use Rattle.geometry.specs.LargerBanks.{most_before, LargerBanks}

-- with P up to 64 both limits let pass the same
same_range : (g : Geometry) → g.p ≤ most_before → in_range_of g ≡ in_range_up_to most_before g
unfolding in_range_up_to
same_range g h = rw (le-leb g.p most_before h, le-leb g.p 128 (omega arith))

module _ (most : ℕ) (g : Geometry) (h : in_range_up_to most g ≡ true) where
  -- what a limit lets pass
  record Passed : Type 0 where
    listed : listed_of g.q ≡ true
    b_low : leb 1 g.b ≡ true
    b_high : leb g.b most_boot_pages ≡ true
    p_high : g.p ≤ most

  passed : Passed
  unfolding in_range_up_to
  passed =
      let s0 = and_both (listed_of g.q) _ h in
      let s1 = and_both (leb 1 g.b) _ s0.1 in
      let s2 = and_both (leb g.b most_boot_pages) _ s1.1 in
      record { listed = s0.0; b_low = s1.0; b_high = s2.0; p_high = leb-true g.p most (and_both (leb 1 g.p) _ s2.1).1 }

every_page_count : (g : Geometry) (p : ℕ) → in_range_up_to most_before g ≡ true → 1 ≤ p → p ≤ 128 → in_range_of (record { q = g.q; b = g.b; p = p }) ≡ true
unfolding in_range_up_to
every_page_count g p h low high =
    let was = passed most_before g h in
    rw (was.listed, was.b_low, was.b_high, le-leb 1 p low, le-leb p 128 high)

declined : (g : Geometry) (lengths : List ℕ) (sram : ℕ) → 128 < g.p → number_of (lent_decline_of g lengths sram) ≡ 1
unfolding lent_decline_up_to
declined g lengths sram high = rw (refused (in_range_of g) refl)
  where
    refused : (t : Bool) → in_range_of g ≡ t → in_range_of g ≡ false
    refused true e = let pages = (passed most_program_pages g e).p_high in absurd (omega arith)
    refused false e = e

same_answers : (g : Geometry) (lengths : List ℕ) (sram : ℕ) → g.p ≤ most_before → lent_decline_of g lengths sram ≡ lent_decline_up_to most_before g lengths sram
unfolding lent_decline_up_to
same_answers g lengths sram h =
    ap (λ (b : Bool). pick b (pick (lengths_fit_of g lengths sram) (Ok tt) (Err Decline.Length)) (Err Decline.Geometry)) (same_range g h)

pub larger_banks : LargerBanks
larger_banks =
    record {
      limit = refl;
      larger = every_page_count;
      beyond = declined;
      accepted = λ g h. same_range g (passed most_before g h).p_high ∙ h;
      answers = same_answers;
    }
