-- A network without its debts.
use Rattle.std.specs.Prelude.{[]}
use Rattle.clr_net.specs.Net.{Net}

-- the same banks, and no debt between them
abbrev pub banks_alone : Net → Net
banks_alone net = record net { debts = [] }
