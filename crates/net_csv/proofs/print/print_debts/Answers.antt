use Rattle.std.proofs.Common.{arith}
use Rattle.clr_net.specs.Lines.{line}
use Rattle.net_csv.specs.Printing.{debt_line}
use Rattle.net_csv.specs.Reading.{debts_header}
use Rattle.net_csv.proofs.Lines.{line_more}
use Rattle.net_csv.proofs.print.print_debts.Goals as goal

pub loop-i-preserved : goal.loop-i-preserved
loop-i-preserved c =
    line_more (debt_line c.args.net.now) (line debts_header) c.loop-i.text.items c.push_debt.new.text.items c.args.net.now.debts c.loop-i.i c.debt.result
    (omega arith) c.debt.ensures c.loop-i.invariant c.in_ok-push_debt.ensures
