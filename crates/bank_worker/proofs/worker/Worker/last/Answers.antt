use Rattle.std.proofs.Common.{◌≡◌, ◌<◌, ◌-◌, inl, inr, ap, ◌∙◌, arith}
use Rattle.std.proofs.lemmas.Bool.{cases_eq}
use Rattle.bank_worker.specs.Views.{desk_at}
use Rattle.bank_worker.proofs.Manned.{banks_rise}
use Rattle.bank_worker.proofs.worker.Worker.last.Goals as goal

pub returns-clause-none_after : goal.returns-clause-none_after
returns-clause-none_after c = λ k l.
    let w = c.args.self.now in
    let end = c.desks-desks.result - 1 in
    let is = c.bank.ensures.bank in
    elim (cases_eq k (c.desks-desks.result - 1)) [
      | inl e ↦ omega (arith, is, c.desks-desks.ensures.desks, ap (λ i. (desk_at w.desks i).bank) e)
      | inr n ↦ omega (arith, is, c.desks-desks.ensures.desks, banks_rise w.seat.shows w.desks k end c.desks-desks.ensures.held (omega (arith, n, l, c.desks-desks.ensures.desks)) (omega (arith, l, c.desks-desks.ensures.desks)))
    ]
