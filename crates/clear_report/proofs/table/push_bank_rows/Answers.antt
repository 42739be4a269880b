use Rattle.std.proofs.Common.{arith, rules}
use Rattle.clear_report.proofs.Lines.{lines_more}
use Rattle.clear_report.proofs.table.push_bank_rows.Goals as goal

pub loop-number-preserved : goal.loop-number-preserved
loop-number-preserved g c =
    lines_more c.args.text.now.items c.loop-number.text.items c.push.new.text.items
    (g.T.BankTable.line_of c.args.table.now c.args.net.now) 0 c.loop-number.number _ (omega arith)
    c.loop-number.invariant c.in_ok-push.ensures

pub returns : goal.returns
returns c = search rules
