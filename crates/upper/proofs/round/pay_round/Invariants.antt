use Rattle.std.proofs.Common.{◌≡◌}
use Rattle.clear_core.specs.Clearing.{pay_by}
use Rattle.upper.proofs.Rows.{ArePaidFor}
use Rattle.upper.proofs.round.pay_round.Given as goal

abbrev pub invariant-loop-bank : goal.invariant-loop-bank
invariant-loop-bank g l = record {
  paid : ArePaidFor l.net l.bank-items (pay_by l.net (g.S.Spending.spends l.spending l.net) l.paid)
      l.fn.next l.next l.bank-index;
  room : l.scratch ≡ l.fn.scratch;
}
