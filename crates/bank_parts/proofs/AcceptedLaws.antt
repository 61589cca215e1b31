-- What an accepted page request tells: where its page lies. Assumes nothing.
use mathlib.Core.Path.{◌≡◌, refl}
use Rattle.std.specs.Prelude.{Ok, Err}
use mathlib.Core.Bool.{true}
use mathlib.Core.List.{[], ◌∷◌}
use Prim.Native.Nat.{ℕ, ◌+◌, ◌*◌, ◌≤◌}
use lib.Dec.{ltb}
use borrow.Author.Tests.{ltb-true}
use Rattle.geometry.specs.declared.banks.Geometry.{Geometry}
use Rattle.words.specs.declared.decline.Decline.{Decline}
use Rattle.geometry.specs.Banks.{InRange, pages_of, page_words_of, bank_words_of}
use Rattle.words.specs.Decline.{accepted_of}
use Rattle.geometry.specs.Lent.{lent_decline_of}
use Rattle.words.proofs.DeclineLaws.{held, neither}
use Rattle.geometry.proofs.LentLaws.{fits}
use Rattle.geometry.proofs.SizeLaws.{page_in_bank_lem}
use Rattle.bank_parts.specs.Parts.{page_decline_of}

-- the geometry is in range, and the page lies in the bank
pub page_lies : (g : Geometry) (words page : ℕ) → accepted_of (page_decline_of g words page) ≡ true
    → InRange g × (page * page_words_of g + page_words_of g ≤ words)
unfolding page_decline_of
page_lies g words page h =
    let s0 = neither (lent_decline_of g (words ∷ []) 0) _ h in
    let s1 = held (ltb page (pages_of g)) (Ok tt) (Err Decline.Address) refl s0.1 in
    let f = fits g (words ∷ []) 0 s0.0 in
    let length-is : words ≡ bank_words_of g = f.banks.0 in
    (f.range, rw length-is (page_in_bank_lem g f.range page (ltb-true _ _ s1.0)))
