use Rattle.std.proofs.Common.{get_or, refl, arith}
use Rattle.clear_core.proofs.Rows.{as_many_numbers, debt_of_row, creditor_read, creditor_known}
use Rattle.clear_core.proofs.WrittenRows.{row_written, written_more}
use Rattle.upper.proofs.Notes.{lower_set, noted_one, noted_then}
use Rattle.upper.proofs.round.take_row.Goals as goal

pub bounds-paid-place : goal.bounds-paid-place
bounds-paid-place c =
    omega (arith, (debt_of_row c.args.net.now c.args.bank.0 c.row-id-items.result.now c.loop-id.id-index (record { 0 = 0 }) c.row-id-items.ensures (omega arith)).in_range)

pub bounds-next-place : goal.bounds-next-place
bounds-next-place c =
    omega (arith, (debt_of_row c.args.net.now c.args.bank.0 c.row-id-items.result.now c.loop-id.id-index (record { 0 = 0 }) c.row-id-items.ensures (omega arith)).in_range)

pub bounds-next-place-in-loop-id : goal.bounds-next-place-in-loop-id
bounds-next-place-in-loop-id c =
    omega (arith, (debt_of_row c.args.net.now c.args.bank.0 c.row-id-items.result.now c.loop-id.id-index (record { 0 = 0 }) c.row-id-items.ensures (omega arith)).in_range)

pub bounds-paid-place-in-loop-id : goal.bounds-paid-place-in-loop-id
bounds-paid-place-in-loop-id c =
    omega (arith, (debt_of_row c.args.net.now c.args.bank.0 c.row-id-items.result.now c.loop-id.id-index (record { 0 = 0 }) c.row-id-items.ensures (omega arith)).in_range)

pub debt-requires : goal.debt-requires
debt-requires c =
    (debt_of_row c.args.net.now c.args.bank.0 c.row-id-items.result.now c.loop-id.id-index (record { 0 = 0 }) c.row-id-items.ensures (omega arith)).in_range

pub add-requires-clause-bank : goal.add-requires-clause-bank
add-requires-clause-bank c = omega
    (arith, creditor_known c.args.net.now _ _ c.requires.network c.debt.ensures, c.loop-id.invariant.noted.banks)

pub loop-id-preserved : goal.loop-id-preserved
loop-id-preserved c =
    let net = c.args.net.now in
    let i = c.args.bank.0 in
    let k = c.loop-id.id-index in
    let next = c.args.next.now in
    let paid = c.loop-id.paid in
    let old = c.loop-id.invariant in
    let x = (get_or c.row-id-items.result.now k (record { 0 = 0 })).0 in
    let stands = debt_of_row net i c.row-id-items.result.now k (record { 0 = 0 }) c.row-id-items.ensures (omega arith) in
    let one = noted_one net paid c.loop-id.falls _ x (get_or next x 0) c.debt.result.creditor.0 c.add.ensures
    (creditor_read net x _ c.debt.ensures) (omega (arith, stands.in_range))
    (omega (arith, creditor_known net x _ c.requires.network c.debt.ensures, old.noted.banks)) (old.lower x) in
    record {
      written = written_more net i (λ x. get_or next x 0) c.args.paid.now paid k x (get_or next x 0) stands
          (omega (arith, stands.in_range)) refl old.written;
      lower = lower_set next paid x old.lower;
      noted = noted_then net c.args.paid.now paid _ c.args.falls.now c.loop-id.falls _ old.noted one;
    }

pub returns-clause-in_row : goal.returns-clause-in_row
returns-clause-in_row c =
    row_written c.args.net.now c.args.bank.0 c.loop-id.id-index (λ x. get_or c.args.next.now x 0) c.args.paid.now
    c.loop-id.paid (omega (arith, as_many_numbers _ _ c.row-id-items.ensures)) c.loop-id.invariant.written
