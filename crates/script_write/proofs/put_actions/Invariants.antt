-- The records of the actions so far are in the buffer.
use Rattle.std.proofs.Common.{◌≡◌}
use Rattle.std.proofs.lemmas.List.Edits.{sets}
use Rattle.script_write.proofs.ScriptLaws.{first_records}
use Rattle.script_write.proofs.put_actions.Given as goal

abbrev pub invariant-loop-place : goal.invariant-loop-place
invariant-loop-place l = l.out ≡ sets l.fn.out 0 (first_records l.new.layout.geometry l.new.image.now l.new.word l.place)
