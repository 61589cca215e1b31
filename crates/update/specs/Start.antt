-- The update start: why it is declined, and what it gives. Assumes nothing.
use Rattle.std.specs.Prelude.{ℕ, Bool, not, ◌&&◌, ◌||◌, List, [], ◌∷◌, eqb, ltb, length, Ok, Err}
use Rattle.std.specs.Int.Bits.{bit_and}
use Rattle.words.specs.Word.{pick, has_of}
use Rattle.words.specs.Quad.{word_at}
use Rattle.geometry.specs.declared.banks.Geometry.{Geometry}
use Rattle.words.specs.declared.decline.Decline.{Decline}
use Rattle.geometry.specs.Banks.{program_bytes_of}
use Rattle.words.specs.Decline.{Verdict, accepted_of, first_of}
use Rattle.sequence.specs.Sequence.{sequence_index_of, tseq_of, cseq_of, valid_of}
use Rattle.device.specs.declared.record.Device.{Device}
use Rattle.device.specs.Registers.{UBWPULOCK}
use Rattle.device.specs.Record.{running, bfswap, pfswap}
use Rattle.protection.specs.Protection.{pwp_of}
use Rattle.common_declines.specs.CommonDecline.{common_decline_of}
use Rattle.reads.specs.Read.{same}
use Rattle.resets.specs.Reset.{compared_of}
use Rattle.bank_parts.specs.Parts.{lower_of}
use Rattle.device.specs.State.{State}
use Rattle.update.specs.Answers.{Started}
use Rattle.update.specs.Actions.{total_of}

-- the sequence word of the lower-alias bank, whose low half is t, and that of the other bank
abbrev pub lower_word_of : Geometry → State → ℕ
lower_word_of g s = word_at (lower_of s.device s.one s.two) (sequence_index_of g)

abbrev pub other_word_of : Geometry → State → ℕ
other_word_of g s = word_at (lower_of s.device s.two s.one) (sequence_index_of g)

-- a bit position at 1 in both halves
unfoldable pub clash_of : ℕ → Bool
clash_of w = not (eqb (bit_and (tseq_of w) (cseq_of w)) 0)

-- decline 10 does not apply, clause by clause: "the lower-alias bank's sequence is invalid"
abbrev pub lower_valid_of : Geometry → State → Bool
lower_valid_of g s = valid_of (lower_word_of g s)

-- "a reset would choose the other bank"
abbrev pub reset_keeps_of : Geometry → State → Bool
reset_keeps_of g s = same (compared_of g s.one s.two) (bfswap s.device)

-- "PFSWAP differs from BFSWAP"
abbrev pub swaps_agree_of : State → Bool
swaps_agree_of s = same (pfswap s.device) (bfswap s.device)

-- "the other bank's sequence word is invalid with no bit position at 1 in both halves"
abbrev pub other_safe_of : Geometry → State → Bool
other_safe_of g s = valid_of (other_word_of g s) || clash_of (other_word_of g s)

unfoldable pub sequence_allows_of : Geometry → State → Bool
sequence_allows_of g s = lower_valid_of g s && (reset_keeps_of g s && (swaps_agree_of s && other_safe_of g s))

-- 11 does not apply: "Update start with t = 65,535."
abbrev pub next_exists_of : Geometry → State → Bool
next_exists_of g s = not (eqb (tseq_of (lower_word_of g s)) 65535)

-- 12 does not apply: "Update start with UBWPULOCK = 0 or PWP at least P×128×Q."
unfoldable pub upper_free_of : Geometry → Device → Bool
upper_free_of g d = has_of d.nvmbwp.0 UBWPULOCK && ltb (pwp_of d) (program_bytes_of g)

-- declines 1, 2, 3, 5, 10, 11 and 12, by the length of the image
unfoldable pub start_decline_of : Geometry → State → ℕ → Verdict
start_decline_of g s image =
    first_of (common_decline_of g s.device (length s.one ∷ length s.two ∷ image ∷ []) 0)
    (pick (running s.device) (Err Decline.Running)
    (pick (sequence_allows_of g s)
    (pick (next_exists_of g s)
    (pick (upper_free_of g s.device) (Ok tt) (Err Decline.Protection))
    (Err Decline.LastSequence))
    (Err Decline.Sequence)))

-- "An accepted start changes nothing and gives place 0 and the total." Declined it gives 0 for both (ours)
unfoldable pub start_of : Geometry → State → List ℕ → Started
start_of g s image =
    record {
      decline = start_decline_of g s (length image);
      place = 0;
      total = pick (accepted_of (start_decline_of g s (length image))) (total_of g) 0;
    }
