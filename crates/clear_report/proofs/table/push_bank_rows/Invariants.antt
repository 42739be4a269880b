use Rattle.std.proofs.Common.{◌≡◌, ◌++◌}
use Rattle.std.specs.List.{flat_map, range_with_len}
use Rattle.clear_report.proofs.table.push_bank_rows.Given as goal

abbrev pub invariant-loop-number : goal.invariant-loop-number
invariant-loop-number g l = l.text.items ≡ l.fn.text.items
    ++ flat_map (g.T.BankTable.line_of l.table l.net) (range_with_len 0 l.number)
