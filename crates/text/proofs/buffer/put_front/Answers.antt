-- What has room goes to the part of the buffer that it fits.
use Rattle.text.proofs.BufferLaws.{put-front}
use Rattle.text.proofs.buffer.put_front.Goals as goal

pub returns : goal.returns
returns c = rw c.copy_from_slice.ensures.after (put-front c.args.out.now c.args.bytes.now c.args.at _ _ c.min-from.ensures c.min-count.ensures)
