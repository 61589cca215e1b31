-- W-206: a queue with an entry more, and with one fewer. Assumes nothing.
use Rattle.std.specs.Prelude.{ℕ, ◌+◌, set}
use Rattle.row_signs.specs.declared.queue.Queue.{Queue}
use Rattle.row_signs.specs.Signs.{waiting_of, left_of, queue_of}

-- an entry joins the end
abbrev pub joined : Queue → ℕ → Queue
joined q number = record { count = q.count + 1; numbers = set q.numbers q.count number }

-- what stands past the count is 0 then
unfoldable pub without_of : Queue → ℕ → Queue
without_of q p = queue_of (left_of (waiting_of q) p)
