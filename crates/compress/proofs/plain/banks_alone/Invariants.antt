use Rattle.std.proofs.Common.{◌≡◌}
use Rattle.clr_net.proofs.Copies.{first_banks}
use Rattle.compress.proofs.plain.banks_alone.Given as goal

abbrev pub invariant-loop-bank : goal.invariant-loop-bank
invariant-loop-bank l = record { so_far : l.made ≡ first_banks l.net l.bank }
