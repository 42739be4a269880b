use Rattle.std.proofs.Common.{map, sym, ap, subst}
use Rattle.clr_net.specs.Net.{of_cash}
use Rattle.stress.specs.Shocks.{KeepsAllButCash}
use Rattle.stress.proofs.Kept.{keeps_all_but_cash}
use Rattle.stress.proofs.plain.shocked.Goals as goal

pub shock_again-requires-clause-alike : goal.shock_again-requires-clause-alike
shock_again-requires-clause-alike c = (ap (λ net. map (of_cash 0) net.banks) c.in_ok-left.ensures, ap (λ net. net.debts) c.in_ok-left.ensures)

pub returns-clause-kept : goal.returns-clause-kept
returns-clause-kept c =
    let net = c.args.net.now in
    subst (KeepsAllButCash net) (sym c.shock_again.ensures.left) (keeps_all_but_cash net c.args.scenario.now)
