use Rattle.clr_net.specs.Amounts.{IsAtMost}
use Rattle.upper.specs.Descent.{AreNoted}
use Rattle.upper.proofs.Rows.{ArePaidFor}
use Rattle.upper.proofs.round.take_over.Given as goal

abbrev pub invariant-loop-bank : goal.invariant-loop-bank
invariant-loop-bank l = record {
  taken : ArePaidFor l.net l.bank-items l.next l.fn.paid l.paid l.bank-index;
  lower : IsAtMost l.next l.paid;
  noted : AreNoted l.net l.fn.paid l.paid l.fn.falls l.falls;
}
