use Rattle.std.proofs.Common.{sym}
use Rattle.run_tests.proofs.runs.driven.Goals as goal

-- a new board is of the network and of as many workers, and nothing was raised before it
pub drive-requires-clause-ready : goal.drive-requires-clause-ready
drive-requires-clause-ready g c κs within =
    let board = c.in_ok-board.ensures.board in
    record {
      limits = c.requires;
      net_is = sym board.0;
      past_is = sym board.1;
      workers_are = sym board.2;
      table_is = c.in_ok-board.ensures.master.0;
      opened = c.in_ok-board.ensures.master.1;
    }
