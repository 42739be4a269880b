use Rattle.std.proofs.Common.{get_or}
use Rattle.std.proofs.lemmas.Result.{on_ok_weaker}
use Rattle.clr_net.specs.Net.{name_of}
use Rattle.clear_report.specs.CostBounds.{ends_line}
use Rattle.clear_report.specs.Words.{at_place}
use Rattle.clear_report.proofs.Lines.{line_at}
use Rattle.clear_report.proofs.Standings.{past_cost_end}
use Rattle.clear_report.proofs.cost_bounds.EndsBankTable.push.Goals as goal

pub returns : goal.returns
returns c =
    let t = c.args.self.now in
    let i = c.args.bank.0 in
    let name = name_of c.args.net.now i in
    on_ok_weaker c.push_ends.result
    (λ e. line_at (λ s. at_place (ends_line name s) t.at_greatest.now i) _ _ t.at_least.now i
    past_cost_end c.requires.over.0 c.requires.bank
    (line_at (ends_line name (get_or t.at_least.now i past_cost_end)) _ _ t.at_greatest.now i
    past_cost_end c.requires.over.1 c.requires.bank e)) (rw c.name.ensures at c.push_ends.ensures)
