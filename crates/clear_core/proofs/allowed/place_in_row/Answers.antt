use Rattle.std.proofs.Common.{sym, ◌∙◌, below_more, arith, eq-eqb}
use Rattle.std.proofs.lemmas.Bool.{eqb-true, true≢false}
use Rattle.clr_net.specs.Net.{row}
use Rattle.clear_core.proofs.Rows.{as_many_numbers, number_at, place_found, never_missing}
use Rattle.clear_core.proofs.allowed.place_in_row.Goals as goal

pub returns-then-eq-clause-place : goal.returns-then-eq-clause-place
returns-then-eq-clause-place c =
    place_found c.args.net.now c.args.debtor.0 c.row-id-items.result.now c.loop-place.place (record { 0 = 0 }) c.args.debt.0
    c.row-id-items.ensures (omega arith) (eqb-true _ c.args.debt.0 (sym c.eq.ensures ∙ c.if-eq.true))

pub loop-place-preserved : goal.loop-place-preserved
loop-place-preserved c =
    let ids = c.row-id-items.result.now in
    let at = number_at ids (row c.args.net.now c.args.debtor.0) c.loop-place.place (record { 0 = 0 }) c.row-id-items.ensures
    (omega arith) in
    below_more _ _ c.loop-place.invariant (λ same.
    true≢false (sym (eq-eqb _ c.args.debt.0 (sym at ∙ same)) ∙ sym c.eq.ensures ∙ c.if-eq.false))

pub unreachable-requires : goal.unreachable-requires
unreachable-requires c =
    never_missing c.args.net.now c.args.debtor.0 c.args.debt.0 c.loop-place.place c.requires.debtor c.requires.debt
    (omega (arith, as_many_numbers c.row-id-items.result.now (row c.args.net.now c.args.debtor.0) c.row-id-items.ensures))
    c.loop-place.invariant
