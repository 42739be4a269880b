use Rattle.std.proofs.Common.{get_or, refl, sym, ap, ◌∙◌, arith}
use Rattle.clr_net.specs.Net.{row}
use Rattle.clear_core.proofs.QuietBanks.{row_agrees, row_differs}
use Rattle.clear_core.proofs.Rows.{as_many_numbers, number_at, debt_of_row}
use Rattle.clear_core.proofs.scratch.are_paid.Goals as goal

pub bounds-paid-id : goal.bounds-paid-id
bounds-paid-id c =
    omega (
      arith,
      (debt_of_row c.args.net.now c.args.bank.0 c.row-id-items.result.now c.loop-place.place (record { 0 = 0 }) c.row-id-items.ensures
          (omega arith)).in_range,
    )

pub returns-then-paid-id : goal.returns-then-paid-id
returns-then-paid-id c =
    let ids = c.row-id-items.result.now in
    let ns = row c.args.net.now c.args.bank.0 in
    let k = c.loop-place.place in
    let at = number_at ids ns k (record { 0 = 0 }) c.row-id-items.ensures (omega arith) in (
      λ f. absurd (cc),
      λ same. absurd (row_differs c.args.paid.now ns c.args.awards.now k (omega (arith, as_many_numbers ids ns c.row-id-items.ensures)) (λ e. c.if-paid-id.true (ap (λ x. get_or c.args.paid.now x 0) (sym at) ∙ e)) same),
    )

pub returns : goal.returns
returns c =
    let ids = c.row-id-items.result.now in
    let ns = row c.args.net.now c.args.bank.0 in (
      λ t. row_agrees c.args.paid.now ns c.args.awards.now c.requires.places
          (λ k l. c.loop-place.invariant k (omega (arith, as_many_numbers ids ns c.row-id-items.ensures))),
      λ same. refl,
    )
