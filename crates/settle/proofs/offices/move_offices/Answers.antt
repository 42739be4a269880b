use Rattle.std.proofs.Common.{◌<◌, All, length, ap, set, subst, sym, ◌∙◌}
use Rattle.std.proofs.lemmas.List.Edits.{map_over_more}
use Rattle.bank_desk.specs.Desks.{BankView}
use Rattle.bank_worker.specs.Offices.{OfficeView}
use Rattle.bank_worker.proofs.Recashed.{still_here}
use Rattle.settle.specs.Offices.{with_cash_of}
use Rattle.settle.proofs.offices.move_offices.Goals as goal

-- the office was not changed yet
pub set_cash-requires : goal.set_cash-requires
set_cash-requires c =
    let net = c.args.net.now in
    let i = c.loop-office.office-index in
    let x = c.office-item.result in
    let lt = c.loop-office-test.true in
    subst (λ (o : OfficeView). All (λ (d : BankView). d.bank < length net.banks) o.desks)
    (sym (still_here (with_cash_of net) c.args.offices.now c.loop-office.offices i x lt c.loop-office.invariant))
    (c.requires i x lt)

pub loop-office-preserved : goal.loop-office-preserved
loop-office-preserved c =
    let net = c.args.net.now in
    let i = c.loop-office.office-index in
    let x = c.office-item.result in
    let here = sym c.office-item.is in
    ap (set c.loop-office.offices i) (c.set_cash.ensures ∙ ap (with_cash_of net) here)
    ∙ map_over_more (with_cash_of net) c.args.offices.now c.loop-office.offices i x c.loop-office-test.true c.loop-office.invariant c.office-item.is
