use Rattle.std.proofs.Common.{ap, ◌∙◌, arith}
use Rattle.std.proofs.lemmas.List.{take_all}
use Rattle.std.proofs.lemmas.List.Sums.{sum_by_more_le}
use Rattle.clr_net.specs.Net.{all_cash}
use Rattle.clear_core.specs.Clearing.{least}
use Rattle.clear_core.proofs.Least.{least_clears}
use Rattle.cascade.specs.declared.standing.Standing.{Standing}
use Rattle.stress.specs.declared.sums.Outcome.{Outcome}
use Rattle.stress.proofs.Outcomes.{paid_within_owed, past_end, sums_add_up, sums_over}
use Rattle.stress.proofs.sums.outcome_of.Goals as goal

pub overflow_add-all : goal.overflow_add-all
overflow_add-all c =
    let net = c.args.net.now in
    let all = c.args.standings.now in
    let more = sum_by_more_le (λ (s : Standing). s.paid) all c.loop-standing.standing-index past_end
    c.loop-standing-test.true in
    let owed = paid_within_owed net (least net) all c.requires c.banks.ensures.network (least_clears net) in
    let so_far = ap (λ (o : Outcome). o.paid) c.loop-standing.invariant.so_far in
    omega (arith, c.banks.ensures.network.owed_in_limit)

pub overflow_add-all-in-loop-standing : goal.overflow_add-all-in-loop-standing
overflow_add-all-in-loop-standing c =
    let net = c.args.net.now in
    let all = c.args.standings.now in
    let more = sum_by_more_le (λ (s : Standing). s.outside_paid) all c.loop-standing.standing-index
    past_end c.loop-standing-test.true in
    let sums = sums_add_up net (least net) all c.requires c.banks.ensures.network (least_clears net) in
    let so_far = ap (λ (o : Outcome). o.outside_paid) c.loop-standing.invariant.so_far in
    omega (arith, c.cash_total.ensures)

pub overflow_add-all-in-loop-standing-2 : goal.overflow_add-all-in-loop-standing-2
overflow_add-all-in-loop-standing-2 c =
    let net = c.args.net.now in
    let all = c.args.standings.now in
    let more = sum_by_more_le (λ (s : Standing). s.equity) all c.loop-standing.standing-index past_end
    c.loop-standing-test.true in
    let sums = sums_add_up net (least net) all c.requires c.banks.ensures.network (least_clears net) in
    let so_far = ap (λ (o : Outcome). o.equity) c.loop-standing.invariant.so_far in
    omega (arith, c.cash_total.ensures)

pub returns-clause-adds_up : goal.returns-clause-adds_up
returns-clause-adds_up c =
    let net = c.args.net.now in
    let all = c.args.standings.now in
    let is = c.loop-standing.invariant.so_far
    ∙ ap (sums_over (all_cash net)) (take_all c.loop-standing.standing-index all c.loop-standing-test.false) in
    omega (
      arith,
      ap (λ (o : Outcome). o.cash) is,
      ap (λ (o : Outcome). o.outside_paid) is,
      ap (λ (o : Outcome). o.equity) is,
      sums_add_up net (least net) all c.requires c.banks.ensures.network (least_clears net),
    )
