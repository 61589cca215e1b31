-- A turn plays the next record and writes its line; a record's answer has one digit. After the last turn every record is played.
use Rattle.std.proofs.Common.{◌≡◌, ◌/◌, ◌^◌, ◌<◌, length, ℕ, false, add-one, arith, ◌∙◌, ap}
use Rattle.words.specs.Decline.{number_of}
use Rattle.device.specs.Answer.{answer_from}
use Rattle.device.specs.State.{state}
use Rattle.script_record.proofs.AnswerLaws.{answer_digit}
use Rattle.script_play.proofs.PlayLaws.{playing_next, playing_ends}
use Rattle.script_play.proofs.play_accepted.Goals as goal
use Rattle.script_play.proofs.play_accepted.Goals.{in-Ok, in-Err}

pub write_line-bytes-requires : goal.write_line-bytes-requires
write_line-bytes-requires c =
    let small = answer_digit _ _ _ _ _ c.play_record.ensures in
    elim c.match-play_record.branch [
      | in-Ok w ↦ rw w.number-is (omega arith)
      | in-Err w ↦ rw (w.number-is, w.number.ensures) (rw w.in-Err.is at small)
    ]

pub loop-i-preserved : goal.loop-i-preserved
loop-i-preserved c =
    let small : length c.loop-i.out < 2 ^ 64 = omega arith in
    let answer = answer_from c.loop-i.device c.play_record.result in
    let m = c.match-play_record in
    let same : (m.device ≡ answer.device) × (m.number ≡ (number_of answer.decline, answer.event)) =
    elim m.branch [
      | in-Ok w ↦ rw w.in-Ok.is (w.device-is, w.number-is)
      | in-Err w ↦ rw w.in-Err.is (w.device-is, w.number-is ∙ ap (λ (n : ℕ). (n, false)) w.number.ensures)
    ] in
    let text = rw (same.1, same.0) at c.write_line-bytes.ensures.0 in
    rw (add-one c.loop-i.i, same.0)
    (playing_next _ _ _ _ _ _ _ _ _ c.loop-i.invariant small _ c.record_at.ensures _ c.play_record.ensures _ text _ c.write_line-bytes.ensures.1)

pub returns : goal.returns
returns c =
    let a = c.args in
    let l = c.loop-i in
    let e : l.i ≡ length a.script.now / 8 = omega arith in
    playing_ends a.g a.sram.now (state a.d a.one.now a.two.now) a.script.now a.out.now
    (state l.device l.one l.two) l.out l.bytes (rw e at l.invariant)
