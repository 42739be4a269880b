use Rattle.clr_net.specs.Samples.{chain}
use Rattle.net_check.specs.declared.limits.Limits.TheVariants as limits
use Rattle.law_tests.proofs.WorkFacts.{chain_is_small, keeps}
use Rattle.law_tests.proofs.reading.chain_is_read_back.Goals as goal

pub returns : goal.returns
returns c = c.printing_is_read_back.ensures limits.Standard chain c.chain_is_network.ensures
    chain_is_small keeps
