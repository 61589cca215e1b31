-- What an accepted request tells: the geometry is in range, each bank has its length, and the buffer holds the sheet.
-- Assumes nothing.
use mathlib.Core.Path.{◌≡◌, refl}
use Rattle.std.specs.Prelude.{Ok}
use mathlib.Core.Bool.{true}
use mathlib.Core.List.{[], ◌∷◌}
use Prim.Native.Nat.{ℕ, ◌≤◌}
use borrow.Author.Tests.{leb-true}
use Rattle.words.specs.Decline.{accepted_of}
use Rattle.words.proofs.DeclineLaws.{held, neither}
use Rattle.geometry.specs.declared.banks.Geometry.{Geometry}
use Rattle.geometry.specs.Banks.{InRange, bank_words_of}
use Rattle.device.specs.declared.record.Device.{Device}
use Rattle.common_declines.specs.CommonDecline.{common_decline_of}
use Rattle.common_declines.proofs.CommonDeclineLaws.{ready}
use Rattle.sheet.specs.Sheet.{sheet_bytes_of, page_sheet_decline_of}

pub record Holds (g : Geometry) (one two buffer : ℕ) : Type 0 where
  pub range : InRange g
  pub first : one ≡ bank_words_of g
  pub other : two ≡ bank_words_of g
  pub room : sheet_bytes_of g ≤ buffer

pub holds : (g : Geometry) (d : Device) (one two buffer : ℕ) → accepted_of (page_sheet_decline_of g d one two buffer) ≡ true → Holds g one two buffer
unfolding page_sheet_decline_of
holds g d one two buffer h =
    let (opened, fits) = neither (common_decline_of g d (one ∷ two ∷ []) 0) _ h in
    let lent = (ready g d (one ∷ two ∷ []) 0 opened).lent in
    record {
      range = lent.range;
      first = lent.banks.0;
      other = lent.banks.1.0;
      room = leb-true _ _ (held _ (Ok tt) _ refl fits).0;
    }
