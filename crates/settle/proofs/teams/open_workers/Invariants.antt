use Rattle.std.proofs.Common.{◌≡◌, ◌-◌}
use Rattle.settle.specs.Offices.{AreOffices}
use Rattle.settle.specs.Between.{opened_workers, without_first}
use Rattle.settle.proofs.teams.open_workers.Given as goal

abbrev pub invariant-loop-number : goal.invariant-loop-number
invariant-loop-number g l = record {
  table : l.master.table ≡ l.fn.master.table;
  net : l.master.shows.net ≡ l.fn.master.shows.net;
  rest : l.master.shows ≡ without_first l.run.engine.now.plan.workers l.number l.fn.master.shows;
  offices : AreOffices l.run.net.now l.run.engine.now.plan.workers (l.run.engine.now.plan.workers - l.number) l.offices.items;
  opened : l.opened.items ≡ opened_workers l.run.engine.now.plan.workers l.run.board.now.table l.fn.master.shows l.number;
}
