-- What is handed back of the lent banks: the bank on the lower alias, and a page. Assumes nothing.
use Rattle.std.specs.Prelude.{ℕ, ◌+◌, ◌*◌, ◌≡◌, true, List, [], ◌∷◌, ltb, length, Ok, Err}
use Rattle.std.specs.Borrow.{Bor}
use Rattle.words.specs.Word.{pick}
use Rattle.geometry.specs.declared.banks.Geometry.{Geometry}
use Rattle.words.specs.declared.decline.Decline.{Decline}
use Rattle.geometry.specs.Banks.{pages_of, page_words_of, page_at}
use Rattle.words.specs.Decline.{Verdict, accepted_of, first_of}
use Rattle.geometry.specs.Lent.{lent_decline_of}
use Rattle.device.specs.declared.record.Device.{Device}
use Rattle.device.specs.Record.{bfswap}
use Rattle.common_declines.specs.CommonDecline.{common_decline_of}

-- declines 1, 2 and 3, by the lengths of bank 1 and bank 2
unfoldable pub lower_bank_decline_of : Geometry → Device → ℕ → ℕ → Verdict
lower_bank_decline_of g d one two = common_decline_of g d (one ∷ two ∷ []) 0

-- "the bank on the lower alias": "BFSWAP = 0 puts bank 1's boot pages on the lower alias, 1 bank 2's."
abbrev pub lower_of : {A : Type 0} → Device → A → A → A
lower_of d one two = pick (bfswap d) two one

-- "the bank on the lower alias is handed back as the lent bank itself": the same reference, and not a copy. Where it is declined nothing is said
-- of where the empty part points (left free; ours points to the first word of bank 1)
abbrev pub LentItself : Geometry → Device → Bor (List ℕ) → Bor (List ℕ) → Bor (List ℕ) → Type 0
LentItself g d one two r =
    accepted_of (lower_bank_decline_of g d (length one.now) (length two.now)) ≡ true
    → r ≡ lower_of d one two

-- its words; "A declined request hands back an empty part"
unfoldable pub lower_bank_of : Geometry → Device → List ℕ → List ℕ → List ℕ
lower_bank_of g d one two = pick (accepted_of (lower_bank_decline_of g d (length one) (length two))) (lower_of d one two) []

-- declines 1, 2 and 8, by the length of the bank: "its page number, 0 to N-1"
unfoldable pub page_decline_of : Geometry → ℕ → ℕ → Verdict
page_decline_of g words page = first_of (lent_decline_of g (words ∷ []) 0) (pick (ltb page (pages_of g)) (Ok tt) (Err Decline.Address))

-- "A page is handed back as that part of the bank.": 32×Q words from word page×32×Q on; "A declined request hands back an
-- empty part"
unfoldable pub page_part_of : Geometry → List ℕ → ℕ → List ℕ
page_part_of g bank page =
    pick (accepted_of (page_decline_of g (length bank) page))
    (page_at g bank page)
    []

-- "as that part of the bank": from the byte where the page starts in the lent bank, and not a copy. Where it is declined nothing is said of where
-- the empty part points (left free; ours points to the first word of the bank)
abbrev pub PartItself : Geometry → Bor (List ℕ) → ℕ → Bor (List ℕ) → Type 0
PartItself g bank page r =
    accepted_of (page_decline_of g (length bank.now) page) ≡ true
    → r.ref_ptr ≡ (bank.ref_ptr.0, page * page_words_of g * 4 + bank.ref_ptr.1)
