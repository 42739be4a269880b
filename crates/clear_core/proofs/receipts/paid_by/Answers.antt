use Rattle.std.proofs.Common.{ℕ, get_or, ap, arith}
use Rattle.std.proofs.lemmas.List.Sums.{sum_by_more}
use Rattle.clr_net.specs.Net.{row}
use Rattle.clear_core.proofs.Rows.{length-row_le, as_many_numbers, number_at, debt_of_row}
use Rattle.clear_core.proofs.receipts.paid_by.Goals as goal

pub bounds-paid-id : goal.bounds-paid-id
bounds-paid-id c =
    let stands = debt_of_row c.args.net.now _ _ c.loop-id.id-index (record { 0 = 0 })
    c.row-id-items.ensures (omega arith) in
    omega (arith, stands.in_range, c.requires.over)

pub overflow_add-total : goal.overflow_add-total
overflow_add-total c =
    let ids = c.row-id-items.result.now in
    let payment = c.requires.paid_in_limit (get_or ids c.loop-id.id-index (record { 0 = 0 })).0 in
    let few = as_many_numbers ids (row c.args.net.now c.args.bank.0) c.row-id-items.ensures in
    omega (arith, length-row_le c.args.net.now c.args.bank.0, c.requires.network.debts_in_limit)

pub loop-id-preserved : goal.loop-id-preserved
loop-id-preserved c =
    let ids = c.row-id-items.result.now in
    let ns = row c.args.net.now c.args.bank.0 in
    let k = c.loop-id.id-index in
    let paid = λ (x : ℕ). get_or c.args.paid.now x 0 in
    let at = number_at ids ns k (record { 0 = 0 }) c.row-id-items.ensures (omega arith) in
    let more = sum_by_more paid ns k 0 (omega (arith, as_many_numbers ids ns c.row-id-items.ensures)) in
    record {
      total_is = omega (arith, more, ap paid at, c.loop-id.invariant.total_is);
      in_limit = omega (arith, c.requires.paid_in_limit (get_or ids k (record { 0 = 0 })).0);
    }
