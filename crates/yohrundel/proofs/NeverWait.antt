-- What these calls ask of a device is BFSWAP, PFSWAP and what is protected, which the end of an operation keeps. Assumes nothing.
use Prim.Native.Nat.{ℕ, zero, suc}
use mathlib.Core.Path.{◌≡◌, refl}
use mathlib.Core.Bool.{Bool, true, false}
use mathlib.Core.List.{List, [], ◌∷◌}
use lib.ListN.{length}
use Rattle.words.specs.Decline.{accepted_of}
use Rattle.geometry.specs.declared.banks.Geometry.{Geometry}
use Rattle.geometry.specs.Banks.{page_at}
use Rattle.device.specs.declared.record.Device.{Device}
use Rattle.device.specs.Registers.{WR}
use Rattle.device.specs.Record.{running, bfswap, pfswap}
use Rattle.protection.specs.Protection.{protected_of}
use Rattle.common_declines.specs.CommonDecline.{common_decline_of}
use Rattle.common_declines.specs.Possible.{possible_of}
use Rattle.flash.specs.Step.{advance_of}
use Rattle.flash.proofs.StepLaws.{advance_possible}
use Rattle.controller.proofs.KeepLaws.{cleared_bit}
use Rattle.controller.proofs.WaitLaws.{ended_idle}
use Rattle.bank_parts.specs.Parts.{lower_bank_decline_of, lower_bank_of, page_decline_of, page_part_of}
use Rattle.sheet_page.specs.State.{kind_pages_of, page_state_of}
use Rattle.sheet.specs.Sheet.{lines_of, sheet_of, page_sheet_decline_of, page_sheet_of}
use Rattle.yohrundel.specs.NeverWait.{ended_device, NeverWait}

module _ (d : Device) where
  boot : bfswap (ended_device d) ≡ bfswap d
  boot = cleared_bit d WR 6 refl

  program : pfswap (ended_device d) ≡ pfswap d
  program = cleared_bit d WR 7 refl

  module _ (g : Geometry) (can : possible_of g d ≡ true) (on : running d ≡ true) where
    possible_ended : possible_of g (ended_device d) ≡ true
    unfolding advance_of
    possible_ended = advance_possible g d can on true

    same_common : (lengths : List ℕ) → common_decline_of g d lengths 0 ≡ common_decline_of g (ended_device d) lengths 0
    unfolding common_decline_of
    same_common lengths = rw (can, possible_ended)

    same_lower_decline : (one two : List ℕ)
        → lower_bank_decline_of g d (length one) (length two) ≡ lower_bank_decline_of g (ended_device d) (length one) (length two)
    unfolding lower_bank_decline_of
    same_lower_decline one two = same_common (length one ∷ length two ∷ [])

    same_lower : (one two : List ℕ) → lower_bank_of g d one two ≡ lower_bank_of g (ended_device d) one two
    unfolding lower_bank_of
    same_lower one two = rw (same_lower_decline one two, boot)

    -- ---- the page sheet
    same_page : (bank : List ℕ) (second programs : Bool) (page : ℕ)
        → page_state_of g d bank second programs page ≡ page_state_of g (ended_device d) bank second programs page
    unfolding page_state_of protected_of
    same_page bank second programs page = rw (boot, program)

    same_lines : (bank : List ℕ) (second programs : Bool) (n : ℕ) → lines_of g d bank second programs n ≡ lines_of g (ended_device d) bank second programs n
    same_lines bank second programs zero = refl
    same_lines bank second programs (suc page) = rw (same_lines bank second programs page, same_page bank second programs page)

    same_sheet : (one two : List ℕ) → sheet_of g d one two ≡ sheet_of g (ended_device d) one two
    unfolding sheet_of
    same_sheet one two =
        rw (
          same_lines one false false (kind_pages_of g false),
          same_lines one false true (kind_pages_of g true),
          same_lines two true false (kind_pages_of g false),
          same_lines two true true (kind_pages_of g true),
        )

    same_sheet_decline : (one two buffer : ℕ) → page_sheet_decline_of g d one two buffer ≡ page_sheet_decline_of g (ended_device d) one two buffer
    unfolding page_sheet_decline_of
    same_sheet_decline one two buffer = rw (same_common (one ∷ two ∷ []))

    same_given : (one two buffer : List ℕ) → page_sheet_of g d one two buffer ≡ page_sheet_of g (ended_device d) one two buffer
    unfolding page_sheet_of
    same_given one two buffer = rw (same_sheet_decline (length one) (length two) (length buffer), same_sheet one two)

page_itself : (g : Geometry) (bank : List ℕ) (n : ℕ) → accepted_of (page_decline_of g (length bank) n) ≡ true → page_part_of g bank n ≡ page_at g bank n
unfolding page_part_of
page_itself g bank n on = rw on

pub never_wait : NeverWait
never_wait =
    record {
      ended = λ g d can on. (possible_ended d g can on, ended_idle d WR refl);
      lower_bank_lem = λ g d one two can on. (same_lower_decline d g can on one two, same_lower d g can on one two);
      sheet = λ g d one two buffer can on. same_given d g can on one two buffer;
      page = page_itself;
    }
