use Rattle.std.proofs.Common.{◌≡◌}
use Rattle.clear_core.specs.Sums.{HaveSums}
use Rattle.clear_least.specs.Sweeps.{IsSwept}
use Rattle.clear_least.proofs.Sweeping.{IsSweeping}
use Rattle.clear_least.proofs.sweep.sweep.Given as goal

abbrev pub invariant-loop-number : goal.invariant-loop-number
invariant-loop-number g l = record {
  swept : IsSwept l.net (g.S.Spending.spends l.spending l.net) l.payments.paid l.marks;
  sums : HaveSums l.net l.payments;
  so_far : IsSweeping l.net (g.S.Spending.spends l.spending l.net) l.fn.payments.paid l.payments.paid l.number l.any;
  room : l.scratch ≡ l.fn.scratch;
}
