use Rattle.std.proofs.Common.{◌≡◌, ◌-◌, sum}
use Rattle.clr_net.specs.Net.{units_owed}
use Rattle.settle.proofs.UnderWay.{IsUnderWay}
use Rattle.settle.proofs.drives.drive_in_turn.Given as goal

abbrev pub invariant-loop-state : goal.invariant-loop-state
invariant-loop-state g l = record {
  table : l.master.table ≡ l.fn.master.table;
  way : IsUnderWay l.run.board.now l.run.net.now l.past l.run.engine.now.plan l.fn.master.shows l.master l.state l.rounds l.visits;
}

abbrev pub decreases-loop-state : goal.decreases-loop-state
decreases-loop-state g l = units_owed l.run.net.now - sum l.master.shows.paid
