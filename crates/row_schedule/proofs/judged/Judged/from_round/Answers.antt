-- The search, and those that begin to wait join.
use Rattle.std.proofs.Common.{sym, ◌∙◌}
use Rattle.row_schedule.specs.Calls.{stands_at}
use Rattle.row_schedule.proofs.JudgedLaws.{sound, waiting}
use Rattle.row_schedule.proofs.RoundLaws.{searched_round}
use Rattle.row_schedule.proofs.WaiterLaws.{joins_new}
use Rattle.row_schedule.proofs.judged.Judged.from_round.Goals as goal

pub joined_queue-requires : goal.joined_queue-requires
joined_queue-requires c =
    let s = c.args.self.now in
    record {
      n_bound = (sound s).few;
      queue_sound = waiting s;
      marks_new =
          λ j l marked.
          joins_new s.shared.layout.geometry s.row.now.signs s.row.now.queue c.args.full s.shared.store.now s.shared.image.now s.shared.sram.now
          s.row.now.count s.row.now.last j (sym (c.search-round.ensures.told.begins j l) ∙ marked);
    }

pub returns-clause-value : goal.returns-clause-value
returns-clause-value c =
    let s = c.args.self.now in
    searched_round s.row.now.count s.row.now.queue s.row.now.last (stands_at s c.args.full) _ c.search-round.ensures.told _ c.joined_queue.ensures
