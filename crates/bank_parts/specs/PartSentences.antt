-- What is handed back of the lent banks, sentence by sentence, and that the sentences fix it. Assumes nothing.
use Rattle.std.specs.Prelude.{ℕ, ◌+◌, ◌*◌, ◌≤◌, ◌<◌, ◌≡◌, true, false, List, [], ◌∷◌, length, get_or}
use Rattle.words.specs.Word.{bit}
use Rattle.words.specs.Decline.{Verdict, number_of}
use Rattle.geometry.specs.declared.banks.Geometry.{Geometry}
use Rattle.geometry.specs.Banks.{in_range_of}
use Rattle.geometry.specs.Lent.{Fit, LentDeclines}
use Rattle.device.specs.declared.record.Device.{Device}
use Rattle.device.specs.Record.{register_of}
use Rattle.common_declines.specs.CommonDecline.{Usable, CommonDeclines}
use Rattle.bank_parts.specs.Parts.{lower_bank_decline_of, lower_bank_of, page_decline_of, page_part_of}

-- the bank on the lower alias: its number and the words of the part
pub record LowerBankSentences (g : Geometry) (d : Device) (one two : List ℕ) (decline : Verdict) (part : List ℕ) : Type 0 where
  pub declines : CommonDeclines g d (length one ∷ length two ∷ []) 0 (number_of decline)
  pub accepted : Usable g d (length one ∷ length two ∷ []) 0 → number_of decline ≡ 0
  -- "A declined request hands back an empty part"
  pub declined : (number_of decline ≡ 0 → ⊥) → part ≡ []
  -- "BFSWAP = 0 puts bank 1's boot pages on the lower alias, 1 bank 2's."
  pub first : number_of decline ≡ 0 → bit 6 (register_of d 0) ≡ false → part ≡ one
  pub second : number_of decline ≡ 0 → bit 6 (register_of d 0) ≡ true → part ≡ two

-- a page of a bank
pub record PageSentences (g : Geometry) (bank : List ℕ) (page : ℕ) (decline : Verdict) (part : List ℕ) : Type 0 where
  -- 1 and 2; "8. .. a page request with a page number of N or more."
  pub declines : LentDeclines g (length bank ∷ []) 0 (number_of decline)
  pub no_page : in_range_of g ≡ true → Fit g (length bank ∷ []) 0 → g.b + g.p ≤ page → number_of decline ≡ 8
  pub accepted : in_range_of g ≡ true → Fit g (length bank ∷ []) 0 → page < g.b + g.p → number_of decline ≡ 0
  pub declined : (number_of decline ≡ 0 → ⊥) → part ≡ []
  -- "A page is handed back as that part of the bank.": 32×Q words
  pub long : number_of decline ≡ 0 → length part ≡ 32 * g.q
  pub words : number_of decline ≡ 0 → (i : ℕ) → i < 32 * g.q → get_or part i 0 ≡ get_or bank (page * (32 * g.q) + i) 0

pub record PartsFixed : Type 0 where
  pub lower_meets : (g : Geometry) (d : Device) (one two : List ℕ)
      → LowerBankSentences g d one two (lower_bank_decline_of g d (length one) (length two)) (lower_bank_of g d one two)
  pub lower_fixes : (g : Geometry) (d : Device) (one two : List ℕ) (decline : Verdict) (part : List ℕ) → LowerBankSentences g d one two decline part
      → (decline ≡ lower_bank_decline_of g d (length one) (length two)) × (part ≡ lower_bank_of g d one two)
  pub page_meets : (g : Geometry) (bank : List ℕ) (page : ℕ) → PageSentences g bank page (page_decline_of g (length bank) page) (page_part_of g bank page)
  pub page_fixes : (g : Geometry) (bank : List ℕ) (page : ℕ) (decline : Verdict) (part : List ℕ) → PageSentences g bank page decline part
      → (decline ≡ page_decline_of g (length bank) page) × (part ≡ page_part_of g bank page)
