-- A turn plays the next record: it gives the number, or what was known stays.
use Rattle.std.proofs.Common.{◌≡◌, ◌||◌, eqb, sym, ◌∙◌, add-one}
use Rattle.words.specs.Decline.{number_of}
use Rattle.device.specs.Answer.{answer_from}
use Rattle.script_smallest.specs.Smallest.{without_of}
use Rattle.script_smallest.proofs.TrialLaws.{front_record, trying_next, given_now, as_before}
use Rattle.script_smallest.proofs.Trial.gives_without.Goals as goal
use Rattle.script_smallest.proofs.Trial.gives_without.Goals.{in-Ok, in-Err, then-number-self, else-number-self}

pub loop-k-preserved : goal.loop-k-preserved
loop-k-preserved c =
    let a = c.args in
    let l = c.loop-k in
    let rest = without_of a.script.now a.removed in
    let r = c.record_without-record.ensures ∙ sym (front_record rest a.count l.k c.loop-k-test.true) in
    let answer = answer_from l.device c.play_record.result in
    let m = c.match-play_record in
    let same : (m.device ≡ answer.device) × (m.number ≡ number_of answer.decline) =
    elim m.branch [
      | in-Ok w ↦ rw w.in-Ok.is (w.device-is, w.number-is)
      | in-Err w ↦ rw w.in-Err.is (w.device-is, w.number-is ∙ w.number-number.ensures)
    ] in
    let n = number_of answer.decline in
    let given : c.if-number-self.given ≡ (l.given || eqb n a.self.now.number) =
    elim c.if-number-self.branch [
      | then-number-self w ↦ w.given-is ∙ given_now l.given n a.self.now.number (sym same.1 ∙ w.if-number-self.true)
      | else-number-self w ↦ w.given-is ∙ as_before l.given n a.self.now.number (λ e. w.if-number-self.false (same.1 ∙ e))
    ] in
    rw (add-one l.k, same.0) (trying_next _ _ _ _ _ _ _ _ l.invariant _ r _ c.play_record.ensures _ given)
