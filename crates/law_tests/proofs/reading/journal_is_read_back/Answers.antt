use Rattle.clr_net.specs.Samples.{chain}
use Rattle.net_check.specs.declared.limits.Limits.TheVariants as limits
use Rattle.law_tests.specs.Nets.{two_ordered}
use Rattle.law_tests.proofs.WorkFacts.{keeps, in_limits}
use Rattle.law_tests.proofs.reading.journal_is_read_back.Goals as goal

pub returns : goal.returns
returns c = c.printed_journals_are_read_back.ensures limits.Standard chain two_ordered
    c.chain_is_network.ensures keeps in_limits
