-- An accepted request names a page that lies in the bank.
use Rattle.std.proofs.Common.{◌≡◌, ℕ, ◌+◌, ◌*◌, ◌≤◌, true, sym, ap, ◌∙◌, rules}
use Rattle.words.specs.Decline.{verdict_from, accepted_of}
use Rattle.geometry.specs.declared.banks.Geometry.{Geometry}
use Rattle.geometry.specs.Banks.{page_words_of}
use Rattle.bank_parts.specs.Parts.{page_decline_of}
use Rattle.bank_parts.proofs.AcceptedLaws.{page_lies}
use Rattle.bank_parts.proofs.page.Goals as goal

-- the page lies in the bank by its size as it was computed
room : (g : Geometry) (words page : ℕ) (size : ℕ) → accepted_of (page_decline_of g words page) ≡ true → size ≡ page_words_of g
    → page * size + size ≤ words
room g words page size h w = rw w (page_lies g words page h).1

pub offset_bounds-bank-start : goal.offset_bounds-bank-start
offset_bounds-bank-start c =
    let accepted = ap accepted_of (sym c.page_decline.ensures.verdict ∙ ap verdict_from c.in-Ok.is) in
    let r = room _ _ _ _ accepted (c.page_words-words.ensures ∙ ap page_words_of c.in-Ok.ensures.layout) in
    search (rules, r)

pub slice_bounds-result-end-2 : goal.slice_bounds-result-end-2
slice_bounds-result-end-2 c =
    let accepted = ap accepted_of (sym c.page_decline.ensures.verdict ∙ ap verdict_from c.in-Ok.is) in
    let r = room _ _ _ _ accepted (c.page_words-words.ensures ∙ ap page_words_of c.in-Ok.ensures.layout) in
    search (rules, r)
