use Rattle.std.proofs.Common.{◌<◌, All, length, sym, ap, ◌∙◌, subst}
use Rattle.std.specs.List.{list_any}
use Rattle.clr_net.specs.Net.{is_of_kind}
use Rattle.clr_net.proofs.OfKind.{row_tells, column_tells}
use Rattle.clr_net.proofs.RowsAndColumns.{row_in_range, column_in_range}
use Rattle.raise_journal.proofs.Named.{place_is}
use Rattle.raise_journal.proofs.reading.debt_named.Goals as goal

pub one_of_kind-requires : goal.one_of_kind-requires
one_of_kind-requires c =
    subst (All (λ x. x < length c.args.net.now.debts)) (sym c.row-row.ensures) (row_in_range c.args.net.now c.args.debtor.0)

pub one_of_kind-requires-else-row-column : goal.one_of_kind-requires-else-row-column
one_of_kind-requires-else-row-column c =
    subst (All (λ x. x < length c.args.net.now.debts)) (sym c.column-column.ensures)
    (column_in_range c.args.net.now c.args.creditor.0)

pub returns-then-row-column-clause-place : goal.returns-then-row-column-clause-place
returns-then-row-column-clause-place c =
    let net = c.args.net.now in
    let test = is_of_kind net c.args.debtor.0 c.args.creditor.0 c.args.class in
    place_is net c.args.debtor.0 c.args.creditor.0 c.args.class _ c.one_of_kind.result c.banks.ensures.network
    (ap (list_any test) c.row-row.ensures ∙ row_tells net c.args.debtor.0 c.args.creditor.0 c.args.class)
    c.one_of_kind.ensures.some c.one_of_kind.ensures.none

pub returns-else-row-column-clause-place : goal.returns-else-row-column-clause-place
returns-else-row-column-clause-place c =
    let net = c.args.net.now in
    let test = is_of_kind net c.args.debtor.0 c.args.creditor.0 c.args.class in
    place_is net c.args.debtor.0 c.args.creditor.0 c.args.class _ c.one_of_kind-else-row-column.result c.banks.ensures.network
    (ap (list_any test) c.column-column.ensures ∙ column_tells net c.args.debtor.0 c.args.creditor.0 c.args.class)
    c.one_of_kind-else-row-column.ensures.some c.one_of_kind-else-row-column.ensures.none
