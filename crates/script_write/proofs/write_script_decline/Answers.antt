-- Start's decline comes first; then the buffer's length decides.
use Rattle.std.proofs.Common.{◌≡◌, ℕ, ◌*◌, ◌<◌, ◌≤◌, true, List, sym, ap, ◌∙◌, arith, Ok, Err}
use borrow.Author.Tests.{le-leb, lt-leb}
use Rattle.words.specs.declared.decline.Decline.{Decline}
use Rattle.words.specs.Decline.{accepted_of}
use Rattle.geometry.specs.declared.banks.Geometry.{Geometry}
use Rattle.device.specs.State.{State}
use Rattle.update.specs.declared.start.UpdateStart.{UpdateStart}
use Rattle.update.specs.Answers.{Started, started_from}
use Rattle.update.specs.Actions.{total_of}
use Rattle.update.specs.Start.{start_of}
use Rattle.script_write.specs.Script.{script_bytes_of, write_script_decline_of}
use Rattle.script_write.proofs.AcceptedLaws.{start_total}
use Rattle.script_write.proofs.write_script_decline.Goals as goal

module _ (g : Geometry) (s : State) (image : List ℕ) (buffer : ℕ) (r : UpdateStart) (e : started_from (Ok r) ≡ start_of g s image) where
  opened : accepted_of (start_of g s image).decline ≡ true
  opened = ap (λ (x : Started). accepted_of x.decline) (sym e)

  counted : r.total ≡ total_of g
  counted = ap (λ (x : Started). x.total) e ∙ start_total g s image opened

  too_short : buffer < 8 * r.total → (Err Decline.ScriptBuffer) ≡ write_script_decline_of g s image buffer
  unfolding write_script_decline_of
  too_short l = rw (opened, lt-leb (script_bytes_of g) buffer (omega (arith, l, counted)))

  long_enough : 8 * r.total ≤ buffer → (Ok tt) ≡ write_script_decline_of g s image buffer
  unfolding write_script_decline_of
  long_enough l = rw (opened, le-leb (script_bytes_of g) buffer (omega (arith, l, counted)))

pub returns-then-buffer-started : goal.returns-then-buffer-started
returns-then-buffer-started c = too_short _ _ _ _ _ c.in_ok-started.ensures c.if-buffer-started.true

pub returns : goal.returns
returns c = long_enough _ _ _ _ _ c.in_ok-started.ensures c.if-buffer-started.false
