use Rattle.std.proofs.Common.{refl, arith}
use Rattle.clear_core.proofs.Rows.{as_many_numbers, debt_of_row, creditor_read, creditor_known}
use Rattle.clear_core.proofs.Raising.{raised_none, raised_place, no_more, row_raised}
use Rattle.clear_core.proofs.Summing.{receipts_in_limit, set_in_limit, sums_but, sums_on}
use Rattle.clear_core.proofs.scratch.raise.Goals as goal

pub loop-place-init : goal.loop-place-init
loop-place-init c = record {
  raised = raised_none c.args.net.now c.args.bank.0 c.args.awards.now c.args.paid.now c.args.marks.now c.requires.rises;
  in_limit = c.requires.paid_in_limit;
  sums = sums_but c.args.net.now c.args.bank.0 c.args.paid.now c.args.sums.now c.requires.sums;
}

pub debt-creditor-requires : goal.debt-creditor-requires
debt-creditor-requires c =
    (debt_of_row c.args.net.now c.args.bank.0 c.row-id-items.result.now c.loop-place.place
    (record { 0 = 0 }) c.row-id-items.ensures (omega arith)).in_range

pub bounds-paid-id : goal.bounds-paid-id
bounds-paid-id c =
    let stands = debt_of_row c.args.net.now c.args.bank.0 c.row-id-items.result.now c.loop-place.place
    (record { 0 = 0 }) c.row-id-items.ensures (omega arith) in
    omega (arith, stands.in_range, c.requires.paid, c.loop-place.invariant.raised.as_many)

pub bounds-paid-id-in-loop-place : goal.bounds-paid-id-in-loop-place
bounds-paid-id-in-loop-place c =
    let stands = debt_of_row c.args.net.now c.args.bank.0 c.row-id-items.result.now c.loop-place.place
    (record { 0 = 0 }) c.row-id-items.ensures (omega arith) in
    omega (arith, stands.in_range, c.requires.paid, c.loop-place.invariant.raised.as_many)

pub bounds-marks-creditor : goal.bounds-marks-creditor
bounds-marks-creditor c = omega (
  arith,
  creditor_known c.args.net.now _ _ c.requires.network c.debt-creditor.ensures,
  c.requires.marks,
  c.loop-place.invariant.raised.marks_as_many,
)

pub bounds-marks-creditor-in-loop-place : goal.bounds-marks-creditor-in-loop-place
bounds-marks-creditor-in-loop-place c = omega (
  arith,
  creditor_known c.args.net.now _ _ c.requires.network c.debt-creditor.ensures,
  c.requires.marks,
  c.loop-place.invariant.raised.marks_as_many,
)

pub bounds-sums-creditor : goal.bounds-sums-creditor
bounds-sums-creditor c = omega (
  arith,
  creditor_known c.args.net.now _ _ c.requires.network c.debt-creditor.ensures,
  c.loop-place.invariant.sums.for_each_bank,
)

pub bounds-sums-creditor-in-loop-place : goal.bounds-sums-creditor-in-loop-place
bounds-sums-creditor-in-loop-place c = omega (
  arith,
  creditor_known c.args.net.now _ _ c.requires.network c.debt-creditor.ensures,
  c.loop-place.invariant.sums.for_each_bank,
)

pub overflow_sub-more : goal.overflow_sub-more
overflow_sub-more c =
    let now = c.loop-place in
    let stands = debt_of_row c.args.net.now c.args.bank.0 c.row-id-items.result.now now.place (record { 0 = 0 })
    c.row-id-items.ensures (omega arith) in
    omega (
      arith,
      no_more c.args.net.now c.args.bank.0 c.args.awards.now c.args.paid.now now.paid c.args.marks.now now.marks
          now.place now.invariant.raised c.requires.paid _ stands,
    )

pub overflow_add-sums : goal.overflow_add-sums
overflow_add-sums c =
    let net = c.args.net.now in
    let now = c.loop-place in
    let creditor = c.debt-creditor.result.creditor.0 in
    omega (
      arith,
      now.invariant.sums.received creditor (record { received = 0; paid = 0 })
          (creditor_known net _ _ c.requires.network c.debt-creditor.ensures),
      receipts_in_limit net now.paid creditor c.requires.network now.invariant.in_limit,
      c.requires.awards_in_limit now.place,
    )

pub loop-place-preserved : goal.loop-place-preserved
loop-place-preserved c =
    let net = c.args.net.now in
    let i = c.args.bank.0 in
    let now = c.loop-place in
    let stands = debt_of_row net i c.row-id-items.result.now now.place (record { 0 = 0 }) c.row-id-items.ensures (omega arith) in
    let credited = creditor_read net _ _ c.debt-creditor.ensures in
    let known = creditor_known net _ _ c.requires.network c.debt-creditor.ensures in
    record {
      raised = raised_place net i c.args.awards.now c.args.paid.now now.paid c.args.marks.now now.marks now.place
          now.invariant.raised c.requires.paid _ stands _ credited
          (omega (arith, known, c.requires.marks, now.invariant.raised.marks_as_many)) _ refl;
      in_limit = set_in_limit now.paid _ _ now.invariant.in_limit (c.requires.awards_in_limit now.place);
      sums = sums_on net now.paid (omega (arith, c.requires.paid, now.invariant.raised.as_many)) _ _ stands.in_range i _ _
          (record { received = 0; paid = 0 }) now.sums now.invariant.sums stands.owed credited known
          (omega (
            arith,
            no_more net i c.args.awards.now c.args.paid.now now.paid c.args.marks.now now.marks now.place
                now.invariant.raised c.requires.paid _ stands,
          ));
    }

pub returns-clause-raised : goal.returns-clause-raised
returns-clause-raised c =
    row_raised c.args.net.now c.args.bank.0 c.args.awards.now c.args.paid.now c.loop-place.paid
    c.args.marks.now c.loop-place.marks c.loop-place.place
    (omega (arith, as_many_numbers _ _ c.row-id-items.ensures)) c.loop-place.invariant.raised
