use Rattle.std.proofs.Common.{sym, arith}
use Rattle.std.proofs.lemmas.List.FromFn.{map-range_with_len_more}
use Rattle.costs.specs.CostStandings.{cost_standing}
use Rattle.costs.proofs.PayingOut.{cost_pays_out, cost_adds_up}
use Rattle.costs.proofs.standings.cost_standings.Goals as goal

pub loop-number-preserved : goal.loop-number-preserved
loop-number-preserved c =
    let n = c.loop-number.number in
    let f = cost_standing c.args.net.now c.args.keep c.args.paid.now in
    rw (c.in_ok-push.ensures.items, c.loop-number.invariant, c.standing_of.ensures)
    (sym (map-range_with_len_more f 0 n n (omega arith)))

pub returns-clause-pays_from_kept : goal.returns-clause-pays_from_kept
returns-clause-pays_from_kept c =
    cost_pays_out c.args.net.now c.args.keep c.args.paid.now c.banks-number-end.ensures.network
    c.requires.keep c.requires.clears

pub returns-clause-adds_up : goal.returns-clause-adds_up
returns-clause-adds_up c =
    cost_adds_up c.args.net.now c.args.keep c.args.paid.now c.banks-number-end.ensures.network
    c.requires.keep c.requires.clears
