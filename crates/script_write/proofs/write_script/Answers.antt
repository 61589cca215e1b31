-- The script stands at the buffer's front.
use Rattle.std.proofs.Common.{◌≡◌, ℕ, ◌≤◌, List, length, sym, ap, ◌∙◌, arith, Ok}
use Rattle.words.specs.Decline.{Verdict, accepted_of}
use Rattle.geometry.specs.declared.banks.Geometry.{Geometry}
use Rattle.device.specs.State.{State}
use Rattle.update.specs.Actions.{total_of}
use Rattle.update.specs.Start.{lower_word_of}
use Rattle.script_write.specs.Script.{script_of, writing, write_script_decline_of, write_script_of}
use Rattle.script_write.proofs.ScriptLaws.{script_length, put_front}
use Rattle.script_write.proofs.AcceptedLaws.{went_holds}
use Rattle.std.proofs.lemmas.List.Edits.{sets}
use Rattle.script_write.proofs.write_script.Goals as goal

-- the script in the buffer, for a sequence word and a total as they were read
written : (g : Geometry) (s : State) (image buffer : List ℕ) (r : Verdict) → r ≡ write_script_decline_of g s image (length buffer) → r ≡ Ok tt
    → (w total : ℕ) (out : List ℕ) → w ≡ lower_word_of g s → out ≡ sets buffer 0 (script_of g image w) → total ≡ total_of g
    → writing (Ok tt) total out ≡ write_script_of g s image buffer
unfolding write_script_of
written g s image buffer r e k w total out v o n =
    let room : length (script_of g image (lower_word_of g s)) ≤ length buffer =
    omega (arith, script_length g image (lower_word_of g s), (went_holds e k).room) in
    rw (ap accepted_of (sym e ∙ k), n, o, v, put_front (script_of g image (lower_word_of g s)) buffer room)

pub returns : goal.returns
returns c =
    written _ _ _ _ _ c.write_script_decline.ensures c.in_ok-write_script_decline.was _ _ _ c.lower_word.ensures c.put_actions.ensures c.total.ensures

pub invariant_of-layout : goal.invariant_of-layout
invariant_of-layout c =
    record { in_range = (went_holds c.write_script_decline.ensures c.in_ok-write_script_decline.was).sizes.range }

pub invariant_of-banks : goal.invariant_of-banks
invariant_of-banks c =
    let sizes = (went_holds c.write_script_decline.ensures c.in_ok-write_script_decline.was).sizes in record { lengths = (sizes.first, sizes.other) }

pub invariant_of-new : goal.invariant_of-new
invariant_of-new c =
    record { long = (went_holds c.write_script_decline.ensures c.in_ok-write_script_decline.was).sizes.long }
