use Rattle.std.proofs.Common.{◌+◌, length, ap, sym, ◌∙◌, subst, arith}
use Rattle.std.proofs.lemmas.List.{length-map}
use Rattle.std.proofs.lemmas.Result.{IfOk-weaker, on_ok_weaker}
use Rattle.clear_core.specs.Clearing.{least}
use Rattle.cascade.specs.Standings.{standings}
use Rattle.descent.specs.Cashes.{IsTableOf, cash_in_row, lowest, with_cashes}
use Rattle.descent.proofs.Lowest.{rows_have_floors}
use Rattle.stress.specs.Shocks.{shocked}
use Rattle.clear_many.specs.Shocked.{cash_row}
use Rattle.clear_many.proofs.Shocked.{is_table, scenario_of_row}
use Rattle.clear_many.proofs.halved.Halved.standings_in.Goals as goal

pub standings_at-requires-clause-ready : goal.standings_at-requires-clause-ready
standings_at-requires-clause-ready c = record {
  network = c.requires.network;
  its_own = subst (IsTableOf c.args.self.now.net.now) (sym c.requires.table)
      (is_table c.args.self.now.net.now c.requires.network c.args.self.now.scenarios.now c.requires.scenarios_in_limit);
  descent = c.requires.descent;
}

pub standings_at-requires-clause-floors : goal.standings_at-requires-clause-floors
standings_at-requires-clause-floors c = rows_have_floors c.args.self.now.table.now.rows.items

pub standings_at-requires-clause-number : goal.standings_at-requires-clause-number
standings_at-requires-clause-number c =
    omega (
      arith,
      c.requires.place,
      ap length c.requires.table,
      length-map c.args.self.now.scenarios.now (λ s. cash_row (shocked c.args.self.now.net.now s)),
    )

pub returns-clause-cleared : goal.returns-clause-cleared
returns-clause-cleared c = λ d.
    let net = c.args.self.now.net.now in
    let k = c.args.place in
    let same = c.requires.table in
    on_ok_weaker c.standings_at.result
    (λ e. e ∙ (λ at. with_cashes net (λ i. lowest (cash_in_row (same at) i) k (k + 1)))
    ∙ scenario_of_row net c.args.self.now.scenarios.now d k c.requires.place)
    c.standings_at.ensures.cleared

pub returns-clause-all : goal.returns-clause-all
returns-clause-all c = λ d.
    let net = c.args.self.now.net.now in
    let k = c.args.place in
    let same = c.requires.table in
    let left = (λ at. with_cashes net (λ i. lowest (cash_in_row (same at) i) k (k + 1)))
    ∙ scenario_of_row net c.args.self.now.scenarios.now d k c.requires.place in
    IfOk-weaker c.standings_at.result _ _ (λ all e. e ∙ (λ at. standings (left at) (least (left at))))
    c.standings_at.ensures.all
