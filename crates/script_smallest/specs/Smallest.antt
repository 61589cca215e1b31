-- W-210: the smallest script that shows a decline. Assumes nothing.
use Rattle.std.specs.Prelude.{ℕ, zero, suc, ◌+◌, ◌*◌, ◌-◌, Bool, not, ◌&&◌, List, [], ◌∷◌, ◌++◌, eqb, leb, ltb, length, take, drop, replicate, Ok, Err, Result}
use Rattle.words.specs.Word.{pick, any_below, first_from}
use Rattle.words.specs.declared.decline.Decline.{Decline}
use Rattle.words.specs.Decline.{Verdict, number_of, accepted_of, first_of}
use Rattle.geometry.specs.declared.banks.Geometry.{Geometry}
use Rattle.geometry.specs.Lent.{lent_decline_of}
use Rattle.device.specs.State.{State}
use Rattle.common_declines.specs.CommonDecline.{common_decline_of}
use Rattle.script_format.specs.Records.{record_of, records_of, is_script_of}
use Rattle.script_record.specs.Record.{record_after_of}
use Rattle.script_play.specs.Play.{state_of}

-- the answer to record i of a play
abbrev pub answer_of : Geometry → List ℕ → State → List ℕ → ℕ → ℕ
answer_of g sram s script i = number_of (record_after_of g sram (state_of g sram s script i) (record_of script i)).decline

-- "that number among the answers of the play"
abbrev pub gives_of : Geometry → List ℕ → State → ℕ → List ℕ → Bool
gives_of g sram s number script = any_below (λ i. eqb (answer_of g sram s script i) number) (records_of script)

-- "Number 0 counts as never given."
unfoldable pub shows_of : Geometry → List ℕ → State → ℕ → List ℕ → Bool
shows_of g sram s number script = not (eqb number 0) && gives_of g sram s number script

-- a script without its record i
abbrev pub without_of : List ℕ → ℕ → List ℕ
without_of script i = take (8 * i) script ++ drop (8 * i + 8) script

-- "the lowest record whose removal still leaves that number among the answers of the play"; the number of records where none can go
abbrev pub lowest_of : Geometry → List ℕ → State → ℕ → List ℕ → ℕ
lowest_of g sram s number script = first_from (λ i. shows_of g sram s number (without_of script i)) 0 (records_of script)

-- "drop the lowest .., begin again from the top, and stop when none can go": at most n times
abbrev pub dropped_of : Geometry → List ℕ → State → ℕ → ℕ → List ℕ → List ℕ
dropped_of g sram s number zero script = script
dropped_of g sram s number (suc n) script =
    let i = lowest_of g sram s number script in
    pick (ltb i (records_of script)) (dropped_of g sram s number n (without_of script i)) script

-- a script has no more records to drop than it has
unfoldable pub smallest_script_of : Geometry → List ℕ → State → ℕ → List ℕ → List ℕ
smallest_script_of g sram s number script = dropped_of g sram s number (records_of script) script

-- "a script of at most 64 records"
abbrev pub most_records : ℕ
most_records = 64

-- declines 1, 2, 3, 14 and 20, before a record is played: "Scratch banks or a result buffer of another length are declined as 2"; "20, after 14, more than
-- 64 records". Of 2 it is the same number whichever length is judged first.
unfoldable pub unplayed_decline_of : Geometry → State → ℕ → List ℕ → ℕ → ℕ → ℕ → Verdict
unplayed_decline_of g s sram script scratch_one scratch_two result =
    first_of (lent_decline_of g (length s.one ∷ length s.two ∷ []) sram)
    (first_of (pick (eqb result (length script)) (Ok tt) (Err Decline.Length))
    (first_of (common_decline_of g s.device (scratch_one ∷ scratch_two ∷ []) 0)
    (first_of (pick (is_script_of script) (Ok tt) (Err Decline.Script))
    (pick (leb (records_of script) most_records) (Ok tt) (Err Decline.Records)))))

-- everything after the call: the answer, the number of records of the result, the scratch banks and the result buffer. The device is a value; the original
-- banks, the SRAM and the script are lent to be read only.
pub record Smallest : Type 0 where
  pub decline : Verdict
  pub records : ℕ
  pub scratch_one : List ℕ
  pub scratch_two : List ℕ
  pub result : List ℕ

-- "The result goes into a lent buffer of the script's length, the rest zeros"
abbrev pub with_zeros : List ℕ → ℕ → List ℕ
with_zeros bytes n = bytes ++ replicate (n - length bytes) 0

abbrev pub answer : Verdict → ℕ → List ℕ → List ℕ → List ℕ → Smallest
answer decline records one two result = record { decline = decline; records = records; scratch_one = one; scratch_two = two; result = result }

-- in contracts: everything after the call, with what is lent as it is then; the records are 0 where it is declined
abbrev pub smallest_from : Result ℕ Decline → List ℕ → List ℕ → List ℕ → Smallest
smallest_from (Ok records) one two result = answer (Ok tt) records one two result
smallest_from (Err e) one two result = answer (Err e) 0 one two result

-- "21, after it, the play never gives the number", with 0 records (ours); else what no record can go of
unfoldable pub searched_of : Geometry → List ℕ → State → List ℕ → ℕ → List ℕ → Smallest
searched_of g sram s script number result =
    let smallest = smallest_script_of g sram s number script in
    pick (shows_of g sram s number script)
    (answer (Ok tt) (records_of smallest) s.one s.two (with_zeros smallest (length script)))
    (answer (Err Decline.NotShown) 0 s.one s.two result)

-- "Afterwards the scratch banks hold the originals' contents, also where 21 is given; nothing else lent changes then." With every other decline the scratch
-- banks are as before, too, and the records are 0 (ours).
unfoldable pub smallest_of : Geometry → List ℕ → State → List ℕ → ℕ → List ℕ → List ℕ → List ℕ → Smallest
smallest_of g sram s script number one two result =
    let decline = unplayed_decline_of g s (length sram) script (length one) (length two) (length result) in
    pick (accepted_of decline) (searched_of g sram s script number result) (answer decline 0 one two result)
