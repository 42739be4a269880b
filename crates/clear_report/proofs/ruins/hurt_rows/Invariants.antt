use Rattle.std.proofs.Common.{◌≡◌, take}
use Rattle.std.specs.List.{flat_map}
use Rattle.clear_report.specs.Impact.{hurt_line}
use Rattle.clear_report.proofs.ruins.hurt_rows.Given as goal

abbrev pub invariant-loop-hurt : goal.invariant-loop-hurt
invariant-loop-hurt l = l.rows.items
    ≡ flat_map (hurt_line l.net l.bank.0) (take l.hurt-index l.hurts)
