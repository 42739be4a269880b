use Rattle.std.proofs.Common.{◌≡◌, ◌+◌, ◌-◌, ◌*◌, ◌≤◌, ◌++◌, [], drop, length, sum_by}
use Rattle.bank_worker.specs.Grows.{MAX_VISITS}
use Rattle.settle.specs.Between.{HaveGrownAlike, IsBack, noted_in, raised_by_all}
use Rattle.settle.specs.declared.run.Way.TheVariants.{InTurn}
use Rattle.settle.specs.Calls.{HaveCalledFrom}
use Rattle.settle.specs.Offices.{AreOffices}
use Rattle.settle.proofs.Returned.{AreFirst}
use Rattle.settle.proofs.teams.close_workers.Given as goal

abbrev pub invariant-loop-worker : goal.invariant-loop-worker
invariant-loop-worker g l = record {
  table : l.master.table ≡ l.fn.master.table;
  back : IsBack l.run.board.now.table.workers l.run.board.now.net l.fn.master.shows l.fn.workers.items l.master.shows (length l.workers.items);
  left : AreFirst l.fn.workers.items l.workers.items;
  offices : AreOffices l.run.board.now.net l.run.board.now.table.workers (l.run.board.now.table.workers - length l.workers.items) l.state.offices.items;
  noted : HaveGrownAlike l.fn.state.journal.raises [] (noted_in l.state.journal.raises l.state.waiting.items) l.fn.master.shows.raises l.master.shows.raises;
  none_waits : l.way ≡ InTurn → l.state.waiting.items ≡ [];
  called : HaveCalledFrom (length l.workers.items) l.run.board.now.net l.state.called l.fn.workers.items;
  visits : l.master.shows.taken ≡ l.fn.master.shows.taken + l.visits;
  sum : l.visits + sum_by (λ w. w.visits) l.workers.items ≡ sum_by (λ w. w.visits) l.fn.workers.items;
  made : l.master.shows.raises ≡ l.fn.master.shows.raises ++ raised_by_all (drop (length l.workers.items) l.fn.workers.items);
  low : l.visits + MAX_VISITS * length l.workers.items ≤ MAX_VISITS * length l.fn.workers.items;
}

abbrev pub decreases-loop-worker : goal.decreases-loop-worker
decreases-loop-worker g l = length l.workers.items
