use Rattle.std.proofs.Common.{◌≡◌, ◌++◌, take}
use Rattle.std.specs.List.{flat_map}
use Rattle.clr_net.specs.Lines.{line}
use Rattle.net_csv.specs.Printing.{debt_line}
use Rattle.net_csv.specs.Reading.{debts_header}
use Rattle.net_csv.proofs.print.print_debts.Given as goal

-- the header, and the lines of the debts so far
abbrev pub invariant-loop-i : goal.invariant-loop-i
invariant-loop-i l = l.text.items ≡ line debts_header ++ flat_map (debt_line l.net) (take l.i l.net.debts)
