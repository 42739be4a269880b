use Rattle.std.proofs.Common.{◌≡◌, ◌<◌, ◌≤◌}
use Rattle.clr_net.specs.declared.TheConstants.{MAX_CASH}
use Rattle.descent.specs.Cashes.{cash_in_row, lowest}
use Rattle.descent.proofs.table.TableFloors.floor.Given as goal

-- the least of the rows so far
abbrev pub invariant-loop-number : goal.invariant-loop-number
invariant-loop-number l = record {
  some : l.low < l.number;
  so_far : l.least ≡ lowest (cash_in_row l.self.rows.items l.bank.0) l.low l.number;
  in_limit : l.least ≤ MAX_CASH;
}
