use Rattle.std.proofs.Common.{[], ◌∷◌}
use Rattle.clr_net.specs.Samples.{chain}
use Rattle.cascade.specs.Cases.{chain_clears}
use Rattle.law_tests.proofs.standings.chain_adds_up.Goals as goal

pub returns : goal.returns
returns c = c.clearing_adds_up.ensures chain (7 ∷ 8 ∷ []) c.chain_is_network.ensures chain_clears
