-- The value's bytes come after the other four.
use Rattle.std.proofs.Common.{◌∙◌}
use Rattle.script_format.proofs.PutLaws.{put-record}
use Rattle.script_format.proofs.put_record.Goals as goal

pub returns : goal.returns
returns c = rw (c.copy_from_slice.ensures.after ∙ c.to_le_bytes-value.ensures) (put-record c.args.out.now c.args.at c.args.r c.requires)
