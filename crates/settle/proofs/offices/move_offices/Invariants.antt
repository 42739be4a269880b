use Rattle.std.proofs.Common.{◌≡◌, ◌++◌, drop, map, take}
use Rattle.settle.specs.Offices.{with_cash_of}
use Rattle.settle.proofs.offices.move_offices.Given as goal

-- the offices so far have other cash
abbrev pub invariant-loop-office : goal.invariant-loop-office
invariant-loop-office l =
    l.offices ≡ map (with_cash_of l.net) (take l.office-index l.initial.offices) ++ drop l.office-index l.initial.offices
