use Rattle.std.proofs.Common.{sym, arith}
use Rattle.std.proofs.lemmas.List.FromFn.{map-range_with_len_more}
use Rattle.cascade.specs.Standings.{standing}
use Rattle.cascade.proofs.Limits.{clearing_over, clearing_in_limit}
use Rattle.cascade.proofs.PayingOut.{pays_out, adds_up}
use Rattle.cascade.proofs.standings.defaults.Goals as goal

pub receipts_of-requires-clause-over : goal.receipts_of-requires-clause-over
receipts_of-requires-clause-over c = clearing_over c.args.net.now c.args.paid.now c.requires

pub receipts_of-requires-clause-paid_in_limit : goal.receipts_of-requires-clause-paid_in_limit
receipts_of-requires-clause-paid_in_limit c =
    clearing_in_limit c.args.net.now c.args.paid.now c.banks-number-end.ensures.network c.requires

pub paid_by-requires-clause-over : goal.paid_by-requires-clause-over
paid_by-requires-clause-over c = clearing_over c.args.net.now c.args.paid.now c.requires

pub paid_by-requires-clause-paid_in_limit : goal.paid_by-requires-clause-paid_in_limit
paid_by-requires-clause-paid_in_limit c =
    clearing_in_limit c.args.net.now c.args.paid.now c.banks-number-end.ensures.network c.requires

pub standing_of-requires-clause-pays : goal.standing_of-requires-clause-pays
standing_of-requires-clause-pays c =
    let net = c.args.net.now in
    let P = c.args.paid.now in
    let debts = (pays_out net P c.banks-number-end.ensures.network c.requires c.loop-number.number).debts in
    omega (arith, debts, c.receipts_of.ensures.receipts, c.paid_by.ensures)

pub loop-number-preserved : goal.loop-number-preserved
loop-number-preserved c =
    let n = c.loop-number.number in
    let f = standing c.args.net.now c.args.paid.now in
    rw (c.in_ok-push.ensures.items, c.loop-number.invariant, c.standing_of.ensures c.args.paid.now c.receipts_of.ensures.receipts c.paid_by.ensures)
    (sym (map-range_with_len_more f 0 n n (omega arith)))

pub returns-clause-pays_out : goal.returns-clause-pays_out
returns-clause-pays_out c = λ i. pays_out c.args.net.now c.args.paid.now c.banks-number-end.ensures.network c.requires i

pub returns-clause-adds_up : goal.returns-clause-adds_up
returns-clause-adds_up c = adds_up c.args.net.now c.args.paid.now c.banks-number-end.ensures.network c.requires
