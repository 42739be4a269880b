use Rattle.std.proofs.Common.{map, ap}
use Rattle.clr_net.specs.Net.{of_cash}
use Rattle.clear_stress.proofs.scenarios.ShocksPieceworkUnwrittenBlockCopied.desk.Goals as goal

pub offices_of-requires : goal.offices_of-requires
offices_of-requires g c = record { workers = c.args.self.now.engine.now.limits.some_workers }

pub returns : goal.returns
returns g c = λ low. (
  (ap (λ net. map (of_cash 0) net.banks) c.in_ok-net.ensures, ap (λ net. net.debts) c.in_ok-net.ensures),
  c.in_ok-offices.ensures,
)
