use Rattle.std.proofs.Common.{◌≡◌, ◌++◌, take}
use Rattle.std.specs.List.{flat_map}
use Rattle.clr_net.specs.Lines.{line}
use Rattle.net_csv.specs.Printing.{bank_line}
use Rattle.net_csv.specs.Reading.{banks_header}
use Rattle.net_csv.proofs.print.banks_file.Given as goal

-- the header, and the lines of the banks so far
abbrev pub invariant-loop-i : goal.invariant-loop-i
invariant-loop-i l = l.text.items ≡ line (banks_header l.version) ++ flat_map (bank_line l.version) (take l.i l.net.banks)
