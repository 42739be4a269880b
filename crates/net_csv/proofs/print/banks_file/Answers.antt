use Rattle.std.proofs.Common.{arith}
use Rattle.clr_net.specs.Lines.{line}
use Rattle.net_csv.specs.Printing.{bank_line}
use Rattle.net_csv.specs.Reading.{banks_header}
use Rattle.net_csv.proofs.Lines.{line_more}
use Rattle.net_csv.proofs.print.banks_file.Goals as goal

pub loop-i-preserved : goal.loop-i-preserved
loop-i-preserved c =
    line_more (bank_line c.args.version) (line (banks_header c.args.version)) c.loop-i.text.items c.push_bank.new.text.items c.args.net.now.banks c.loop-i.i c.bank.result.now
    (omega arith) c.bank.ensures c.loop-i.invariant c.in_ok-push_bank.ensures
