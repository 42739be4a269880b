use Rattle.std.proofs.Common.{ℕ, [], ap, ◌∙◌}
use Rattle.bank_worker.specs.Views.{WorkerView, desks_held}
use Rattle.bank_worker.proofs.Rooms.{banks_of_seat}
use Rattle.bank_worker.proofs.worker.Worker.make.Goals as goal

pub with-requires-clause-office : goal.with-requires-clause-office
with-requires-clause-office c =
    let s = c.args.seat.shows in
    let same = banks_of_seat c.args.net.now s c.args.workers c.args.worker c.requires.net c.requires.banks in
    rw (← same, ← c.requires.net) c.in-Ok.ensures.office

pub returns-in-Ok-clause-worker : goal.returns-in-Ok-clause-worker
returns-in-Ok-clause-worker c =
    let made = λ (i : ℕ). let w : WorkerView = record { seat = c.args.seat; desks = desks_held c.args.seat.shows; worker = i; visits = 0; journal = [] } in w in
    c.with.ensures ∙ ap made c.in-Ok.ensures.worker
