use Rattle.std.proofs.Common.{◌≡◌, ◌++◌, drop, map, take}
use Rattle.bank_desk.specs.Desks.{with_cash_in}
use Rattle.bank_worker.proofs.desks.set_cash_of.Given as goal

-- the desks so far have other cash
abbrev pub invariant-loop-desk : goal.invariant-loop-desk
invariant-loop-desk l =
    l.desks ≡ map (with_cash_in l.net) (take l.desk-index l.initial.desks) ++ drop l.desk-index l.initial.desks
