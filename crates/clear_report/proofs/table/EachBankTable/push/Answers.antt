use Rattle.std.proofs.lemmas.Result.{on_ok_weaker}
use Rattle.clr_net.specs.Net.{name_of}
use Rattle.clear_report.proofs.Lines.{line_at}
use Rattle.clear_report.proofs.table.EachBankTable.push.Goals as goal

pub returns : goal.returns
returns g c =
    let name = name_of c.args.net.now c.args.bank.0 in
    on_ok_weaker c.push.result
    (line_at (λ r. g.T.Row.told r name) _ _ c.args.self.now.all.now c.args.bank.0
    c.index-self-bank.result c.requires.over c.requires.bank) (rw c.name.ensures at c.push.ensures)
