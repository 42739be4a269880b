use Rattle.std.proofs.Common.{◌≡◌, take}
use Rattle.std.specs.List.{flat_map}
use Rattle.clear_report.specs.Savings.{saves_line}
use Rattle.clear_report.proofs.savings.saves_rows.Given as goal

abbrev pub invariant-loop-other : goal.invariant-loop-other
invariant-loop-other l = l.rows.items
    ≡ flat_map (λ b. saves_line l.net l.bank.0 b.0) (take l.other-index l.saves)
