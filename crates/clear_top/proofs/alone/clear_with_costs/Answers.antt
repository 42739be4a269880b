use Rattle.costs.proofs.PayingOut.{cost_clearing_over}
use Rattle.std.proofs.Common.{IfOk, length, ◌∙◌, ap, ap₂, sym, subst}
use Rattle.std.proofs.lemmas.List.FromFn.{length-map-range_with_len}
use Rattle.costs.specs.Costs.{CostClears}
use Rattle.costs.specs.CostStandings.{cost_standing, cost_standings}
use Rattle.clear_report.specs.Costs.{costs_text}
use Rattle.clear_top.specs.Meaning.{IsPlain}
use Rattle.clear_top.proofs.alone.clear_with_costs.Goals as goal

pub cost_standings-requires-clause-clears : goal.cost_standings-requires-clause-clears
cost_standings-requires-clause-clears c =
    subst (CostClears c.args.net.now c.args.keep) (sym c.as_slice.ensures) c.in_ok-paid.ensures.least.clears

pub cost_text-requires-clause-over : goal.cost_text-requires-clause-over
cost_text-requires-clause-over c =
    ap length c.as_slice-2.ensures ∙ cost_clearing_over _ _ _ c.in_ok-paid.ensures.least.clears

pub cost_text-requires-clause-standings : goal.cost_text-requires-clause-standings
cost_text-requires-clause-standings c =
    ap length (c.as_slice-3.ensures.value ∙ c.in_ok-standings.ensures.standings)
    ∙ length-map-range_with_len (cost_standing c.args.net.now c.args.keep c.as_slice.result.now) 0 (length c.args.net.now.banks)

pub returns : goal.returns
returns c =
    let net = c.args.net.now in
    let keep = c.args.keep in
    let least = c.in_ok-paid.ensures.payments in
    let all = c.as_slice-3.ensures.value ∙ c.in_ok-standings.ensures.standings
    ∙ ap (cost_standings net keep) (c.as_slice.ensures ∙ least) in
    subst (λ t. IfOk c.plain.result (IsPlain t))
    (c.in_ok-text.ensures ∙ ap₂ (costs_text net) (c.as_slice-2.ensures ∙ least) all) c.plain.ensures
