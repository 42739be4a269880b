use Rattle.std.proofs.Common.{[], ◌∷◌, lit≤}
use Rattle.clr_net.specs.Samples.{chain}
use Rattle.costs.specs.Cases.{chain_halved_clears}
use Rattle.law_tests.proofs.standings.halved_adds_up.Goals as goal

pub returns : goal.returns
returns c = c.cost_clearing_adds_up.ensures chain 500 (3 ∷ 2 ∷ []) c.chain_is_network.ensures (lit≤ tt) chain_halved_clears
