use Rattle.std.proofs.Common.{◌<◌, length, ap, ◌∙◌, arith}
use Rattle.bank_worker.specs.Views.{banks_of}
use Rattle.bank_worker.proofs.Manned.{bank_at, desk_is, length_banks}
use Rattle.bank_worker.proofs.worker.Worker.bank.Goals as goal

pub bounds-banks-place : goal.bounds-banks-place
bounds-banks-place c =
    omega (arith, c.requires, ap (λ w. length w.desks) c.self.view_is, ap length c.desks.ensures, length_banks c.desks.result.now c.banks-banks.result.now c.banks-banks.ensures)

pub returns : goal.returns
returns c =
    let a = c.self.inside in
    let k = c.args.place in
    let banks = c.banks-banks.result.now in
    let office = c.self.invariant.office in
    let l : k < length a.office.desks = omega (arith, c.requires, ap (λ w. length w.desks) c.self.view_is) in
    let is = bank_at a.office.desks banks k (c.banks-banks.ensures ∙ ap banks_of c.desks.ensures) l in
    let f = desk_is a.seat.shows a.office.desks k office.desks l in
    rw (← c.self.view_is) (record { bank = is; few = omega (arith, is, f.bank, office.network.banks_in_limit); held = rw is f.held })
