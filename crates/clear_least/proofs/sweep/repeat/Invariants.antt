use Rattle.std.proofs.Common.{◌≡◌, ◌-◌, sum}
use Rattle.clr_net.specs.Net.{units_owed}
use Rattle.clear_core.specs.Sums.{HaveSums}
use Rattle.clear_least.specs.Sweeps.{IsSwept}
use Rattle.clear_least.proofs.sweep.repeat.Given as goal

abbrev pub invariant-loop : goal.invariant-loop
invariant-loop g l = record {
  swept : IsSwept l.net (g.S.Spending.spends l.spending l.net) l.payments.paid l.marks;
  sums : HaveSums l.net l.payments;
  room : l.scratch ≡ l.fn.scratch;
}

abbrev pub decreases-loop : goal.decreases-loop
decreases-loop g l = units_owed l.net - sum l.payments.paid
