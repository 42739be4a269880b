use Rattle.std.proofs.Common.{get_or, ap, arith}
use Rattle.std.proofs.lemmas.List.Sums.{sum_by_more}
use Rattle.clr_net.specs.Net.{column, claim_of}
use Rattle.clear_core.proofs.Rows.{as_many_numbers, number_at, debt_of_column, length-column_le, claim_in_limit, claim_read}
use Rattle.cascade.proofs.owing.worth.Goals as goal

pub debt-total-requires : goal.debt-total-requires
debt-total-requires c =
    debt_of_column c.args.net.now c.args.bank.0 c.column-id-items.result.now c.loop-id.id-index (record { 0 = 0 }) c.column-id-items.ensures (omega arith)

pub overflow_add-total : goal.overflow_add-total
overflow_add-total c =
    let net = c.args.net.now in
    let ids = c.column-id-items.result.now in
    let x = (get_or ids c.loop-id.id-index (record { 0 = 0 })).0 in
    let read = claim_read net x c.debt-total.result c.debt-total.ensures in
    let few = as_many_numbers ids (column net c.args.bank.0) c.column-id-items.ensures in
    let column_le = length-column_le net c.args.bank.0 in
    omega (arith, claim_in_limit net x c.requires.network, c.requires.network.debts_in_limit)

pub loop-id-preserved : goal.loop-id-preserved
loop-id-preserved c =
    let net = c.args.net.now in
    let ids = c.column-id-items.result.now in
    let ns = column net c.args.bank.0 in
    let k = c.loop-id.id-index in
    let at = number_at ids ns k (record { 0 = 0 }) c.column-id-items.ensures (omega arith) in
    let few = as_many_numbers ids ns c.column-id-items.ensures in
    let more = sum_by_more (claim_of net) ns k 0 (omega arith) in
    let x = (get_or ids k (record { 0 = 0 })).0 in
    let read = claim_read net x c.debt-total.result c.debt-total.ensures in
    record {
      total_is = omega (arith, more, ap (claim_of net) at, read, c.loop-id.invariant.total_is);
      in_limit = omega (arith, claim_in_limit net x c.requires.network);
    }
