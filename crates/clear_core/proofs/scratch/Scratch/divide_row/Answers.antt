use Rattle.std.proofs.Common.{ℕ, List, get_or, sym, ap, ◌∙◌, arith}
use Rattle.clear_core.specs.Clearing.{division_of}
use Rattle.clear_core.proofs.Rows.{as_many_numbers, debt_of_row}
use Rattle.clear_core.proofs.WrittenRows.{awarded, row_written, written_more}
use Rattle.clear_core.proofs.scratch.Scratch.divide_row.Goals as goal

pub bounds-next-id : goal.bounds-next-id
bounds-next-id c =
    omega (
      arith,
      (debt_of_row c.args.net.now c.args.bank.0 c.row-id-items.result.now c.loop-place.place (record { 0 = 0 }) c.row-id-items.ensures
          (omega arith)).in_range,
    )

pub loop-place-preserved : goal.loop-place-preserved
loop-place-preserved c =
    let net = c.args.net.now in
    let i = c.args.bank.0 in
    let k = c.loop-place.place in
    let awards = division_of net i c.args.units in
    let stands = debt_of_row net i c.row-id-items.result.now k (record { 0 = 0 }) c.row-id-items.ensures (omega arith) in
    written_more net i (awarded net awards) c.args.next.now c.loop-place.next k _ _ stands
    (omega (arith, stands.in_range))
    (ap (λ (xs : List ℕ). get_or xs k 0) (c.awards-awards.ensures ∙ c.divide.ensures.awards)
    ∙ ap (λ m. get_or awards m 0) (sym stands.in_place))
    c.loop-place.invariant

pub returns-clause-in_row : goal.returns-clause-in_row
returns-clause-in_row c =
    let net = c.args.net.now in
    row_written net c.args.bank.0 c.loop-place.place (awarded net (division_of net c.args.bank.0 c.args.units))
    c.args.next.now c.loop-place.next
    (omega (arith, as_many_numbers _ _ c.row-id-items.ensures)) c.loop-place.invariant
