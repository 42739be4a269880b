use Rattle.std.proofs.Common.{ℕ, ◌≤◌, length, get_or, ap, arith}
use Rattle.std.proofs.lemmas.List.Sums.{sum_by_more}
use Rattle.clr_net.specs.Net.{column}
use Rattle.clr_net.specs.declared.TheConstants.{MAX_DEBTS}
use Rattle.clear_core.proofs.Rows.{as_many_numbers, number_at, debt_of_column, length-column_le}
use Rattle.clear_core.proofs.receipts.receipts_of.Goals as goal

pub bounds-paid-id : goal.bounds-paid-id
bounds-paid-id c =
    omega (
      arith,
      debt_of_column c.args.net.now c.args.bank.0 c.column-id-items.result.now c.loop-id.id-index (record { 0 = 0 }) c.column-id-items.ensures
          (omega arith),
    )

pub overflow_add-received : goal.overflow_add-received
overflow_add-received c =
    let ids = c.column-id-items.result.now in
    let few : length ids ≤ MAX_DEBTS =
    omega (
      arith,
      as_many_numbers ids (column c.args.net.now c.args.bank.0) c.column-id-items.ensures,
      length-column_le c.args.net.now c.args.bank.0,
      c.banks.ensures.network.debts_in_limit,
    ) in
    omega (arith, c.requires.paid_in_limit (get_or ids c.loop-id.id-index (record { 0 = 0 })).0)

pub loop-id-preserved : goal.loop-id-preserved
loop-id-preserved c =
    let ids = c.column-id-items.result.now in
    let ns = column c.args.net.now c.args.bank.0 in
    let k = c.loop-id.id-index in
    let paid = λ (x : ℕ). get_or c.args.paid.now x 0 in
    let at = number_at ids ns k (record { 0 = 0 }) c.column-id-items.ensures (omega arith) in
    let more = sum_by_more paid ns k 0 (omega (arith, as_many_numbers ids ns c.column-id-items.ensures)) in
    record {
      received_is = omega (arith, more, ap paid at, c.loop-id.invariant.received_is);
      in_limit = omega (arith, c.requires.paid_in_limit (get_or ids k (record { 0 = 0 })).0);
    }

pub returns-clause-in_limit : goal.returns-clause-in_limit
returns-clause-in_limit c =
    let ids = c.column-id-items.result.now in
    omega (
      arith,
      as_many_numbers ids (column c.args.net.now c.args.bank.0) c.column-id-items.ensures,
      length-column_le c.args.net.now c.args.bank.0,
      c.banks.ensures.network.debts_in_limit,
    )
