use Rattle.costs.proofs.PayingOut.{cost_clearing_over}
use Rattle.std.proofs.Common.{IfOk, length, ◌∙◌, ap, ap₂, sym, subst}
use Rattle.std.proofs.lemmas.List.FromFn.{length-map-range_with_len}
use Rattle.costs.specs.Costs.{CostClears, cost_greatest, cost_least}
use Rattle.costs.specs.CostStandings.{cost_standing, cost_standings}
use Rattle.clear_report.specs.CostBounds.{cost_bounds_text}
use Rattle.clear_top.specs.Meaning.{IsPlain}
use Rattle.clear_top.proofs.alone.bound_with_costs.Goals as goal

pub cost_standings-requires-clause-clears : goal.cost_standings-requires-clause-clears
cost_standings-requires-clause-clears c =
    subst (CostClears c.args.net.now c.args.keep) (sym c.as_slice.ensures) c.in_ok-least.ensures.least.clears

pub cost_standings-requires-2-clause-clears : goal.cost_standings-requires-2-clause-clears
cost_standings-requires-2-clause-clears c =
    subst (CostClears c.args.net.now c.args.keep) (sym c.as_slice-2.ensures) c.in_ok-greatest.ensures.greatest.clears

pub cost_bounds_text-requires-clause-least : goal.cost_bounds_text-requires-clause-least
cost_bounds_text-requires-clause-least c =
    ap length c.as_slice-3.ensures ∙ cost_clearing_over _ _ _ c.in_ok-least.ensures.least.clears

pub cost_bounds_text-requires-clause-greatest : goal.cost_bounds_text-requires-clause-greatest
cost_bounds_text-requires-clause-greatest c =
    ap length c.as_slice-4.ensures
    ∙ cost_clearing_over _ _ _ c.in_ok-greatest.ensures.greatest.clears

pub cost_bounds_text-requires-clause-at_least : goal.cost_bounds_text-requires-clause-at_least
cost_bounds_text-requires-clause-at_least c =
    ap length (c.as_slice-5.ensures.value ∙ c.in_ok-below.ensures.standings)
    ∙ length-map-range_with_len (cost_standing c.args.net.now c.args.keep c.as_slice.result.now) 0 (length c.args.net.now.banks)

pub cost_bounds_text-requires-clause-at_greatest : goal.cost_bounds_text-requires-clause-at_greatest
cost_bounds_text-requires-clause-at_greatest c =
    ap length (c.as_slice-6.ensures.value ∙ c.in_ok-above.ensures.standings)
    ∙ length-map-range_with_len (cost_standing c.args.net.now c.args.keep c.as_slice-2.result.now) 0 (length c.args.net.now.banks)

pub returns : goal.returns
returns c =
    let net = c.args.net.now in
    let standings = cost_standings net c.args.keep in
    let least = c.in_ok-least.ensures.payments in
    let greatest = c.in_ok-greatest.ensures.payments in
    let below = c.as_slice-5.ensures.value ∙ c.in_ok-below.ensures.standings ∙ ap standings (c.as_slice.ensures ∙ least) in
    let above = c.as_slice-6.ensures.value ∙ c.in_ok-above.ensures.standings ∙ ap standings (c.as_slice-2.ensures ∙ greatest) in
    subst (λ t. IfOk c.plain.result (IsPlain t))
    (c.in_ok-text.ensures
    ∙ ap₂ (λ P Q. cost_bounds_text net P Q c.as_slice-5.result.now c.as_slice-6.result.now) (c.as_slice-3.ensures ∙ least) (c.as_slice-4.ensures ∙ greatest)
    ∙ ap₂ (cost_bounds_text net (cost_least net c.args.keep) (cost_greatest net c.args.keep)) below above) c.plain.ensures
