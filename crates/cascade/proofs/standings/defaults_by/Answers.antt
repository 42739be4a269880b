use Rattle.std.proofs.Common.{◌≡◌, sym, ap, ◌∙◌, arith}
use Rattle.std.proofs.lemmas.List.FromFn.{map-range_with_len_more}
use Rattle.clear_core.specs.Clearing.{paid_by, receipts}
use Rattle.clear_core.specs.declared.payments.Sums.{Sums}
use Rattle.clear_core.proofs.Summing.{receipts_in_limit}
use Rattle.cascade.specs.Standings.{standing}
use Rattle.cascade.proofs.Limits.{clearing_in_limit}
use Rattle.cascade.proofs.PayingOut.{pays_out}
use Rattle.cascade.proofs.standings.defaults_by.Goals as goal
use Rattle.cascade.proofs.standings.defaults_by.Goals.{After-index}

-- what the bank receives and pays is what is kept of it
received : (c : After-index)
    → c.index.result.now.received ≡ receipts c.args.net.now c.args.payments.now.paid c.loop-number.number
received c = ap (λ (s : Sums). s.received) c.index.ensures
    ∙ c.requires.sums.received c.loop-number.number c.index.result.now
    (omega (arith, c.banks-number-end.ensures.banks, c.loop-number-test.true))

pays : (c : After-index)
    → c.index.result.now.paid ≡ paid_by c.args.net.now c.args.payments.now.paid c.loop-number.number
pays c = ap (λ (s : Sums). s.paid) c.index.ensures
    ∙ c.requires.sums.paid c.loop-number.number c.index.result.now
    (omega (arith, c.banks-number-end.ensures.banks, c.loop-number-test.true))

pub standing_of-requires-clause-received : goal.standing_of-requires-clause-received
standing_of-requires-clause-received c =
    let net = c.args.net.now in
    let P = c.args.payments.now.paid in
    let at = goal.at.standing_of-requires-clause-received c in
    omega (
      arith,
      received at.After-index,
      receipts_in_limit net P c.loop-number.number c.banks-number-end.ensures.network
          (clearing_in_limit net P c.banks-number-end.ensures.network c.requires.clears),
    )

pub standing_of-requires-clause-pays : goal.standing_of-requires-clause-pays
standing_of-requires-clause-pays c =
    let net = c.args.net.now in
    let P = c.args.payments.now.paid in
    let at = goal.at.standing_of-requires-clause-pays c in
    let debts = (pays_out net P c.banks-number-end.ensures.network c.requires.clears c.loop-number.number).debts in
    rw (received at.After-index, pays at.After-index) (omega (arith, debts))

pub loop-number-preserved : goal.loop-number-preserved
loop-number-preserved c =
    let n = c.loop-number.number in
    let at = goal.at.loop-number-preserved c in
    let f = standing c.args.net.now c.args.payments.now.paid in
    rw (c.in_ok-push.ensures.items, c.loop-number.invariant, c.standing_of.ensures c.args.payments.now.paid (received at.After-index) (pays at.After-index))
    (sym (map-range_with_len_more f 0 n n (omega arith)))
