-- What a bank knows, as the fields of the type `Desk` have it.
use Rattle.clr_net.specs.Net.{numbers}
use Rattle.bank_desk.specs.declared.desk.Desk.TheInside.{Inside}
use Rattle.bank_desk.specs.Desks.{BankView}

-- the bank that contracts see
abbrev pub view_of : Inside → BankView
view_of a = record {
  bank = a.bank.0;
  cash = a.cash;
  outside = a.outside;
  rule = a.rule;
  debts_out = numbers a.debts_out.items;
  claims = a.claims.items;
  classes = a.classes.items;
  debts_in = numbers a.debts_in.items;
}
