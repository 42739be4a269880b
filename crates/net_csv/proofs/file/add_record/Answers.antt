use Rattle.std.proofs.Common.{◌∙◌, refl, sym}
use Rattle.net_csv.proofs.Rows.{none_added, one_row}
use Rattle.net_csv.proofs.file.add_record.Goals as goal

pub returns-then-is_blank : goal.returns-then-is_blank
returns-then-is_blank c =
    let blank = sym c.is_blank.ensures ∙ c.if-is_blank.true in
    rw (none_added c.args.by c.args.layout c.args.net.now c.args.row _ blank)
    (record { read = refl; refused = λ f. (λ e. cc, λ e. cc) })

pub returns-in-Banks : goal.returns-in-Banks
returns-in-Banks c =
    let full = sym c.is_blank.ensures ∙ c.if-is_blank.false in
    rw (one_row c.args.by c.args.layout c.args.net.now c.args.row _ full)
    (rw c.in-Banks.is c.add_bank.ensures)

pub returns-in-Debts : goal.returns-in-Debts
returns-in-Debts c =
    let full = sym c.is_blank.ensures ∙ c.if-is_blank.false in
    rw (one_row c.args.by c.args.layout c.args.net.now c.args.row _ full)
    (rw c.in-Debts.is c.add_debt.ensures)
