use Rattle.std.proofs.Common.{◌≡◌, take}
use Rattle.cascade.specs.MoreCash.{IsOfOtherCash}
use Rattle.clear_many.specs.Shocked.{cash_rows}
use Rattle.clear_many.proofs.shocks.cash_left.Given as goal

abbrev pub invariant-loop-place : goal.invariant-loop-place
invariant-loop-place l = record {
  alike : IsOfOtherCash l.net l.left;
  so_far : l.rows.items ≡ cash_rows l.net (take l.place l.scenarios);
}
