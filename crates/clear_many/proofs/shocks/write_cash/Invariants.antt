use Rattle.std.proofs.Common.{◌≡◌, take}
use Rattle.clear_many.specs.Shocked.{cash_row}
use Rattle.clear_many.proofs.shocks.write_cash.Given as goal

abbrev pub invariant-loop-number : goal.invariant-loop-number
invariant-loop-number l = take l.number l.row ≡ take l.number (cash_row l.net)
