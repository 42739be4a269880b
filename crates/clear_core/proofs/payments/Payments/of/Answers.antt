use Rattle.std.proofs.Common.{sym, arith}
use Rattle.std.proofs.lemmas.List.FromFn.{map-range_with_len_more}
use Rattle.clear_core.proofs.Summing.{sums_of, all_sums}
use Rattle.clear_core.proofs.payments.Payments.of.Goals as goal

pub loop-number-preserved : goal.loop-number-preserved
loop-number-preserved c =
    let n = c.loop-number.number in
    let f = sums_of c.args.net.now c.args.paid in
    rw (c.in_ok-push.ensures.items, c.loop-number.invariant, c.receipts_of.ensures.receipts, c.paid_by.ensures, c.as_slice.ensures, c.as_slice-in-loop-number.ensures)
    (sym (map-range_with_len_more f 0 n n (omega arith)))

pub returns-clause-sums : goal.returns-clause-sums
returns-clause-sums c =
    all_sums c.args.net.now c.args.paid c.loop-number.number c.loop-number.sums.items
    (omega (arith, c.banks-number-end.ensures.banks)) c.loop-number.invariant
